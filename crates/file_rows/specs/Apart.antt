use Rattle.std.specs.Prelude.{◌≢◌}
use Rattle.file_rows.specs.FileHead.{ShareName, ShareSfi}
use Rattle.file_rows.specs.PinRow.{ShareKey}
use Rattle.file_rows.specs.declared.head.FileHead.{FileHead}
use Rattle.file_rows.specs.declared.pin.PinRow.{PinRow}

-- two files that one card may have
pub record AreFilesApart (one other : FileHead) : Type 0 where
  pub path : one.path ≢ other.path
  pub sfi : ¬ ShareSfi one other
  pub name : ¬ ShareName one other

-- two PINs that one card may have
pub record ArePinsApart (one other : PinRow) : Type 0 where
  pub number : one.number ≢ other.number
  pub key : ¬ ShareKey one other
