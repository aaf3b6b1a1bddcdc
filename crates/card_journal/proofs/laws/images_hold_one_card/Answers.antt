use Rattle.card_journal.proofs.ImageLemmas.{one_card, valid}
use Rattle.card_journal.proofs.laws.images_hold_one_card.Goals as goal

pub returns-clause-one : goal.returns-clause-one
returns-clause-one c = one_card

pub returns-clause-valid : goal.returns-clause-valid
returns-clause-valid c = valid
