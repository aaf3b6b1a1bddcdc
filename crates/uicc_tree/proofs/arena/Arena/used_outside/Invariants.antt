use Rattle.std.proofs.Common.{◌≡◌, ◌+◌, drop, map}
use Rattle.file_rows.specs.Content.{use_of}
use Rattle.uicc_tree.specs.Arena.{files_of}
use Rattle.uicc_tree.specs.Files.{file_of, rows_of}
use Rattle.uicc_tree.proofs.OutsideLemmas.{outside}
use Rattle.uicc_tree.proofs.arena.Arena.used_outside.Given as goal

-- what is counted and what is left are all
abbrev pub invariant-loop-node : goal.invariant-loop-node
invariant-loop-node l =
    l.sum + use_of (outside l.top (map (file_of (files_of l.self)) (drop l.node-index l.self.order.items))) ≡ use_of (outside l.top (rows_of (files_of l.self)))
