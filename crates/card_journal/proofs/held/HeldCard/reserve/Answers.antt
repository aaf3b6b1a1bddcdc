use Rattle.card_journal.proofs.HeldCardLemmas.{put_valid}
use Rattle.card_journal.proofs.held.HeldCard.reserve.Goals as goal

pub from_content-requires : goal.from_content-requires
from_content-requires c =
    rw c.get.ensures
    (put_valid c.args.self.now c.args.entry.now _ _ _ c.in-PutProfile.is c.requires.fits)
