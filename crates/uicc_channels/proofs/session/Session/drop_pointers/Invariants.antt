use Rattle.std.proofs.Common.{◌≡◌}
use Rattle.std.specs.Prelude.{option_map}
use Rattle.plain_lists.proofs.MappedLemmas.{mapped_to}
use Rattle.uicc_channels.specs.SessionChange.{within_end}
use Rattle.uicc_channels.proofs.session.Session.drop_pointers.Given as goal

-- the places so far have no record pointer past the new end
abbrev pub invariant-loop-number : goal.invariant-loop-number
invariant-loop-number l =
    l.self ≡ record l.initial.self { channels = mapped_to (option_map (within_end l.end)) l.number l.initial.self.channels }
