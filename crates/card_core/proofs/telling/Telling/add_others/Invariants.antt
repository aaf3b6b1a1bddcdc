use Rattle.std.proofs.Common.{◌≡◌, ◌++◌, take}
use Rattle.std.specs.List.{flat_map}
use Rattle.card_core.specs.IsdrCommand.{other_move_lines}
use Rattle.card_core.proofs.telling.Telling.add_others.Given as goal

abbrev pub invariant-loop-its : goal.invariant-loop-its
invariant-loop-its l =
    l.entries ≡ l.fn.entries ++ flat_map (other_move_lines l.self) (take l.its-index l.moves)
