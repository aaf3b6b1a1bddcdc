use Rattle.card_journal.proofs.CopyLemmas.{copied}
use Rattle.card_journal.proofs.laws.copies_leave_the_card.Goals as goal

pub returns : goal.returns
returns c = copied
