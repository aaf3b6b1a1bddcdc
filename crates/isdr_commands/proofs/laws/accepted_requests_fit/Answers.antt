use Rattle.isdr_commands.proofs.ManagedLemmas.{managed_carries}
use Rattle.isdr_commands.proofs.laws.accepted_requests_fit.Goals as goal

pub returns-clause-carried_out : goal.returns-clause-carried_out
returns-clause-carried_out c = λ durable busy came request entry asked e. managed_carries durable
    asked.card busy entry came request asked e

pub returns-clause-rule : goal.returns-clause-rule
returns-clause-rule c = λ durable busy came request entry asked e.
    (managed_carries durable asked.card busy entry came request asked e).fits.after.heads.ports.rule
