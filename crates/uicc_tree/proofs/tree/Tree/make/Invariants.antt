use Rattle.std.proofs.Common.{◌≡◌, take}
use Rattle.uicc_tree.specs.Arena.{IsArena, files_of}
use Rattle.uicc_tree.specs.Files.{rows_of}
use Rattle.uicc_tree.proofs.tree.Tree.make.Given as goal

abbrev pub invariant-loop-row : goal.invariant-loop-row
invariant-loop-row l = IsArena l.arena × (rows_of (files_of l.arena) ≡ take l.row-index l.rows)
