use Rattle.profile_card.proofs.RefusedLemmas.{refused-decision, spares-decision}
use Rattle.profile_card.proofs.laws.refused_commands_change_nothing.Goals as goal

pub returns-clause-tries : goal.returns-clause-tries
returns-clause-tries c card command other = spares-decision card command other

pub returns-clause-others : goal.returns-clause-others
returns-clause-others c card command no_pin = refused-decision card command no_pin
