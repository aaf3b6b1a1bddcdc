use Rattle.isdr_commands.proofs.DoneLemmas.{deleted, disabled, enabled, nicknamed, reset, sent}
use Rattle.isdr_commands.proofs.laws.accepted_requests_do_what_they_ask.Goals as goal

pub returns-clause-enabled : goal.returns-clause-enabled
returns-clause-enabled c =
    λ durable busy came port who refresh given entry head asked found target e.
    enabled durable busy entry head came port who refresh given asked found target e

pub returns-clause-disabled : goal.returns-clause-disabled
returns-clause-disabled c = λ durable busy came who refresh entry head found e.
    disabled durable busy entry head came who refresh found e

pub returns-clause-deleted : goal.returns-clause-deleted
returns-clause-deleted c = λ durable busy came who entry head found e.
    deleted durable busy entry head came who found e

pub returns-clause-reset : goal.returns-clause-reset
returns-clause-reset c = λ durable busy came operational test entry e.
    reset durable busy entry came operational test e

pub returns-clause-nicknamed : goal.returns-clause-nicknamed
returns-clause-nicknamed c = λ durable busy came iccid name entry head asked found e.
    nicknamed durable busy entry head came iccid name asked found e

pub returns-clause-sent : goal.returns-clause-sent
returns-clause-sent c = λ durable busy came number entry e. sent durable busy entry came number e
