use Rattle.std.proofs.Common.{sym, ◌∙◌}
use Rattle.card_core.proofs.PortLemmas.{none_found}
use Rattle.card_core.proofs.port_content.content_on.Goals as goal

pub returns-in-Some-clause-none : goal.returns-in-Some-clause-none
returns-in-Some-clause-none c =
    none_found c.args.durable.now c.args.port c.in-Some.profile c.content.result
    (sym c.profile_on.ensures ∙ c.in-Some.is) c.content.ensures.none
