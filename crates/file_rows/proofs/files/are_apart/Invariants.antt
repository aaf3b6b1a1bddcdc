use Rattle.std.proofs.Common.{◌↔◌, drop}
use Rattle.plain_lists.specs.EachTwo.{EachTwo}
use Rattle.file_rows.specs.Apart.{AreFilesApart}
use Rattle.file_rows.proofs.files.are_apart.Given as goal

abbrev pub invariant-loop-index : goal.invariant-loop-index
invariant-loop-index l =
    EachTwo (λ one other. AreFilesApart one.head other.head) (drop l.index l.rows) ↔ EachTwo (λ one other. AreFilesApart one.head other.head) l.rows
