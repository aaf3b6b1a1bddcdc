use Rattle.isdr_commands.proofs.KeptLemmas.{managed_spares}
use Rattle.isdr_commands.proofs.ManagedLemmas.{managed_carries}
use Rattle.record_codec.proofs.StayLemmas.{ports_stay}
use Rattle.isdr_commands.proofs.laws.policy_keeps_profiles_enabled.Goals as goal

pub returns : goal.returns
returns c = λ durable busy came port request entry head asked its keeps on other e.
    (ports_stay durable entry head.number port
    (managed_carries durable asked.card busy entry came request asked e).fits
    (managed_spares durable.heads asked.card.heads.profiles.numbers busy head port entry its keeps
    on came request other e)).1 on
