use Rattle.profile_card.proofs.StepLemmas.{Responds-settled}
use Rattle.profile_card.proofs.card1.Card1.settle.Goals as goal

pub returns-clause-step : goal.returns-clause-step
returns-clause-step c bytes apdu spelled same =
    Responds-settled _ _ bytes apdu c.args.decided.now spelled same c.carry_out.ensures.card
