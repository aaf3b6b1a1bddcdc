use Rattle.card_core.proofs.AloneOnceLemmas.{AreShares-once, answers_alike, told_alike}
use Rattle.card_core.proofs.alone_laws.what_a_profile_is_given_decides_its_answers.Goals as goal

pub returns-clause-alike : goal.returns-clause-alike
returns-clause-alike c profile start other steps others after another card share its alone
    its_alone starts its_starts are its_are =
    answers_alike profile start other steps others after another card share its starts its_starts
    alone its_alone are its_are

pub returns-clause-told : goal.returns-clause-told
returns-clause-told c profile start other steps others after another told its_told card share its
    alone its_alone starts its_starts fed its_fed =
    told_alike profile start other steps others after another card share its starts its_starts told
    its_told alone its_alone fed its_fed

pub returns-clause-once : goal.returns-clause-once
returns-clause-once c = AreShares-once
