use Rattle.std.proofs.Common.{◌≡◌, ◌≤◌, ◌-◌, ◌++◌, length}
use Rattle.uicc_tree.specs.Files.{file_of}
use Rattle.uicc_data.specs.Search.{after_steps, found_among, walk}
use Rattle.uicc_data.proofs.search.find_from.Given as goal

-- with those of the records left, those found so far are all
abbrev pub invariant-loop-steps : goal.invariant-loop-steps
invariant-loop-steps l =
    (l.found
    ++ found_among (file_of l.tree l.node) l.run (walk l.direction (after_steps l.direction l.number l.steps) (l.left - l.steps))
    ≡ found_among (file_of l.tree l.node) l.run (walk l.direction l.number l.left))
    × (length l.found ≤ l.steps)
