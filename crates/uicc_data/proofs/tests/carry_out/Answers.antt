use Rattle.uicc_data.proofs.TestLemmas.{fits_reserved, held_after}
use Rattle.uicc_data.proofs.tests.carry_out.Goals as goal

pub apply-requires-clause-fits : goal.apply-requires-clause-fits
apply-requires-clause-fits c =
    fits_reserved c.args.tree.now c.reserve.new.self c.reserve.ensures.nodes c.reserve.ensures.cells c.requires.0 c.args.session.now c.args.decided.now c.in-Some.change c.requires.1 c.in-Some.is

pub returns-in-Some : goal.returns-in-Some
returns-in-Some c =
    rw c.apply-in-Some.ensures
    (held_after c.args.tree.now c.reserve.new.self c.reserve.ensures.nodes c.reserve.ensures.cells c.requires.0 c.args.session.now c.args.decided.now c.in-Some.change c.requires.1 c.in-Some.is
    c.apply.new.self c.apply.ensures.rows)
