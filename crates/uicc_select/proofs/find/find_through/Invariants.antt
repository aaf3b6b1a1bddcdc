use Rattle.std.proofs.Common.{◌≡◌, drop}
use Rattle.uicc_tree.specs.Files.{IsLive, file_of, rows_of}
use Rattle.uicc_select.specs.Find.{found_through}
use Rattle.uicc_select.proofs.find.find_through.Given as goal

abbrev pub invariant-loop-id : goal.invariant-loop-id
invariant-loop-id l =
    IsLive l.tree l.node
    × (found_through (rows_of l.tree) (drop l.id-index l.ids) (file_of l.tree l.node)
    ≡ found_through (rows_of l.tree) l.ids (file_of l.tree l.initial.node))
