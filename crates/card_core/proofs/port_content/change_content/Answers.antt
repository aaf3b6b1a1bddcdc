use Rattle.std.proofs.Common.{sym, ◌∙◌}
use Rattle.card_core.proofs.PortLemmas.{made_elsewhere, made_here, made_of_others}
use Rattle.card_core.proofs.port_content.change_content.Goals as goal

pub returns-in-Some-clause-here : goal.returns-in-Some-clause-here
returns-in-Some-clause-here c =
    made_here c.args.durable.now c.change_profile.new.durable c.args.port c.in-Some.profile
    c.args.change.now (sym c.profile_on.ensures ∙ c.in-Some.is) c.change_profile.result
    c.requires.fits c.change_profile.ensures.ok

pub returns-in-Some-clause-elsewhere : goal.returns-in-Some-clause-elsewhere
returns-in-Some-clause-elsewhere c =
    made_elsewhere c.args.durable.now c.change_profile.new.durable c.args.port c.in-Some.profile
    c.args.change.now (sym c.profile_on.ensures ∙ c.in-Some.is) c.change_profile.result
    c.requires.are c.change_profile.ensures.ok c.change_profile.ensures.err

pub returns-in-Some-clause-profiles : goal.returns-in-Some-clause-profiles
returns-in-Some-clause-profiles c =
    made_of_others c.args.durable.now c.change_profile.new.durable c.args.port c.in-Some.profile
    c.args.change.now (sym c.profile_on.ensures ∙ c.in-Some.is) c.change_profile.result
    c.requires.are c.change_profile.ensures.ok c.change_profile.ensures.err
