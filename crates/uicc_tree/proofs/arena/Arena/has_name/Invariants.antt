use Rattle.std.proofs.Common.{◌≡◌, None, map, find, take}
use Rattle.uicc_tree.specs.Arena.{files_of}
use Rattle.uicc_tree.specs.Files.{file_of}
use Rattle.uicc_tree.proofs.NameLemmas.{has_name}
use Rattle.uicc_tree.proofs.arena.Arena.has_name.Given as goal

abbrev pub invariant-loop-child : goal.invariant-loop-child
invariant-loop-child l = find (has_name l.name) (map (file_of (files_of l.self)) (take l.child-index l.child-items)) ≡ None
