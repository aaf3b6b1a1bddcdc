-- What stays of a PIN where a command isn't accepted.
use Rattle.std.specs.Prelude.{◌≡◌, Option, Some, None, ⊤}
use Rattle.file_rows.specs.declared.pin.PinRow.{PinRow}
use Rattle.file_rows.specs.declared.pin.Puk.{Puk}

-- a PUK is as it was but for its tries left
abbrev pub KeepsPuk : Option Puk → Option Puk → Type 0
KeepsPuk None None = ⊤
KeepsPuk None (Some after) = ⊥
KeepsPuk (Some puk) None = ⊥
KeepsPuk (Some puk) (Some after) = after ≡ record puk { left = after.left }

-- a PIN is as it was but for its tries left and those of its PUK
pub record KeepsAllButTries (pin after : PinRow) : Type 0 where
  pub same : after ≡ record pin { left = after.left; puk = after.puk }
  pub puk : KeepsPuk pin.puk after.puk
