use Rattle.profile_card.proofs.PinCommandLemmas.{IsPin-found}
use Rattle.profile_card.proofs.pin_commands.try_pin_command.Goals as goal

pub is_verified-verified-requires-clause-first : goal.is_verified-verified-requires-clause-first
is_verified-verified-requires-clause-first c = (IsPin-found _ _ _ _ c.requires.pins c.in-Some.ensures).smallest

pub is_verified-verified-requires-clause-last : goal.is_verified-verified-requires-clause-last
is_verified-verified-requires-clause-last c = (IsPin-found _ _ _ _ c.requires.pins c.in-Some.ensures).largest

pub decide-decision-requires : goal.decide-decision-requires
decide-decision-requires c = IsPin-found _ _ _ _ c.requires.pins c.in-Some.ensures

pub verified_with-requires-clause-first : goal.verified_with-requires-clause-first
verified_with-requires-clause-first c = (IsPin-found _ _ _ _ c.requires.pins c.in-Some.ensures).smallest

pub verified_with-requires-clause-last : goal.verified_with-requires-clause-last
verified_with-requires-clause-last c = (IsPin-found _ _ _ _ c.requires.pins c.in-Some.ensures).largest
