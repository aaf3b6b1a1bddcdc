use Rattle.std.proofs.Common.{◌↔◌, drop}
use Rattle.std.specs.Prelude.{Any}
use Rattle.file_rows.specs.Content.{heads_of}
use Rattle.file_rows.specs.FileHead.{Holds}
use Rattle.file_rows.proofs.files.has_directory.Given as goal

abbrev pub invariant-loop-row : goal.invariant-loop-row
invariant-loop-row l =
    Any (λ directory. Holds directory l.file) (heads_of (drop l.row-index l.earlier)) ↔ Any (λ directory. Holds directory l.file) (heads_of l.earlier)
