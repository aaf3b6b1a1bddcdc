use Rattle.std.specs.Prelude.{ℕ, true, false, ◌≡◌, ◌⊎◌, List, [], Option, None, IfSome, IsSomeAnd}
use Rattle.std.specs.Prelude.{IsTrue, option_and_then}
use Rattle.file_rows.specs.Content.{file_at}
use Rattle.file_rows.specs.FileHead.{HasRecord, holds_files}
use Rattle.file_rows.specs.Path.{master}
use Rattle.file_rows.specs.declared.head.Kind.TheVariants.{Application}
use Rattle.file_rows.specs.declared.row.FileRow.{FileRow}
use Rattle.uicc_channels.specs.declared.chan.Chan.{Chan}

-- a channel at the MF, with nothing more selected and nothing waiting
abbrev pub at_master : Chan
at_master = record {
  isdr = false;
  app = None;
  dir = master;
  file = None;
  pointer = 0;
  pending = [];
}

-- a channel on which the ISD-R is selected, at the MF
abbrev pub at_isdr : Chan
at_isdr = record at_master { isdr = true }

-- the channel with these bytes waiting
abbrev pub holding : List ℕ → Chan → Chan
holding bytes chan = record chan { pending = bytes }

-- the channel's current EF, where there is one
abbrev pub current_file : List FileRow → Chan → Option FileRow
current_file rows chan = option_and_then (λ path. file_at path rows) chan.file

-- a card without files has the MF's path alone; else the directory is there and holds files
abbrev pub IsDirectoryIn : List FileRow → List ℕ → Type 0
IsDirectoryIn rows dir =
    ((rows ≡ []) × (dir ≡ master)) ⊎ IsSomeAnd (file_at dir rows)
    (λ row. IsTrue (holds_files row.head.kind))

-- what a channel names is among a card's files: an application, a directory, an EF and a record of
-- it
pub record StandsAmong (rows : List FileRow) (chan : Chan) : Type 0 where
  pub app : IfSome chan.app (λ path. IsSomeAnd (file_at path rows)
      (λ row. row.head.kind ≡ Application))
  pub dir : IsDirectoryIn rows chan.dir
  pub file : IfSome chan.file (λ path. IsSomeAnd (file_at path rows)
      (λ row. holds_files row.head.kind ≡ false))
  pub pointer : (chan.pointer ≡ 0) ⊎ IsSomeAnd (current_file rows chan)
      (λ row. HasRecord row.head chan.pointer)
