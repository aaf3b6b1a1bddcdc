use Rattle.card_journal.proofs.ImageLemmas.{appended}
use Rattle.card_journal.proofs.laws.records_are_appended.Goals as goal

pub returns : goal.returns
returns c = appended
