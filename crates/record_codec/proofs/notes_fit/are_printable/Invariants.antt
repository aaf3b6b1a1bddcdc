use Rattle.std.proofs.Common.{◌↔◌, ◌≤◌, drop}
use Rattle.std.specs.List.{AllByRecursion}
use Rattle.record_codec.proofs.notes_fit.are_printable.Given as goal

abbrev pub invariant-loop-character : goal.invariant-loop-character
invariant-loop-character l = AllByRecursion (λ character. (0x21 ≤ character) × (character ≤ 0x7E)) (drop l.character-index l.address) ↔ AllByRecursion (λ character. (0x21 ≤ character) × (character ≤ 0x7E)) l.address
