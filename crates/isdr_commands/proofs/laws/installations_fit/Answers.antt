use Rattle.isdr_commands.proofs.InstallLemmas.{installation_fits}
use Rattle.isdr_commands.proofs.laws.installations_fit.Goals as goal

pub returns : goal.returns
returns c = λ durable profile are head valid next none. installation_fits durable are profile head
    valid next none
