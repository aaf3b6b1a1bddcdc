use Rattle.record_codec.proofs.HeldLemmas.{content_valid}
use Rattle.card_journal.proofs.held.HeldCard.may_change.Goals as goal

pub fits-requires : goal.fits-requires
fits-requires c =
    let held = c.args.self.now in
    content_valid c.args.profile held.heads.profiles held.contents c.in-Some.content.now
    c.requires.contents.valid c.in-Some.ensures.found
