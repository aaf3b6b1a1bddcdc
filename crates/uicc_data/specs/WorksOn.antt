-- Which file a command on data changes.
use Rattle.std.specs.Prelude.{ℕ, ◌≡◌, List, Option, Some, IfSome}
use Rattle.file_rows.specs.declared.change.Change.{Change}
use Rattle.file_rows.specs.declared.change.Change.TheVariants.{WriteRange, WriteRecord}
use Rattle.file_rows.specs.declared.row.FileRow.{FileRow}
use Rattle.uicc_channels.specs.declared.chan.Chan.{Chan}
use Rattle.uicc_data.specs.FileReference.{file_named}
use Rattle.uicc_data.specs.declared.reference.FileReference.{FileReference}

-- the change writes into the file at this path
abbrev pub WritesInto : List ℕ → Change → Type 0
WritesInto path (WriteRange at offset bytes) = at ≡ path
WritesInto path (WriteRecord at number bytes) = at ≡ path
WritesInto path _ = ⊥

-- the file is the channel's current EF, or a file of its current directory by its SFI
abbrev pub IsWorkedOn : List FileRow → Chan → FileRow → Type 0
IsWorkedOn rows chan row = (file : FileReference) × (file_named rows chan file ≡ Some row)

-- a change, where there is one, writes into such a file
abbrev pub WritesWhereItWorks : List FileRow → Chan → Option Change → Type 0
WritesWhereItWorks rows chan change =
    IfSome change (λ change.
    (row : FileRow) × IsWorkedOn rows chan row × WritesInto row.head.path change)
