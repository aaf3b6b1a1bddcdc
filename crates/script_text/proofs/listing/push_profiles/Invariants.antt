use Rattle.std.proofs.Common.{◌≡◌, ◌++◌, take}
use Rattle.std.specs.List.{flat_map}
use Rattle.card_core.specs.Listing.{numbered_text}
use Rattle.script_text.proofs.listing.push_profiles.Given as goal

abbrev pub invariant-loop-number : goal.invariant-loop-number
invariant-loop-number l = l.text.items ≡ l.fn.text.items ++ flat_map (numbered_text l.durable) (take l.number-index l.numbers)
