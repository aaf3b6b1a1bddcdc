use Rattle.std.proofs.Common.{◌≡◌, take}
use Rattle.uicc_tree.specs.Arena.{files_of}
use Rattle.uicc_tree.specs.Files.{IsLive, path_of}
use Rattle.uicc_tree.proofs.arena.Arena.find.Given as goal

abbrev pub invariant-loop-id : goal.invariant-loop-id
invariant-loop-id l = IsLive (files_of l.self) l.node × (path_of (files_of l.self) l.node ≡ take l.id-index l.path)
