use Rattle.record_codec.proofs.HeldLemmas.{content_valid}
use Rattle.record_codec.proofs.durable.Durable.may_change.Goals as goal

pub fits-requires : goal.fits-requires
fits-requires c =
    let found = rw (c.as_slice-profiles.ensures.value, c.as_slice.ensures) at c.in-Some.ensures.found in
    content_valid c.args.profile c.args.self.now.heads.profiles c.args.self.now.contents c.in-Some.content.now c.requires.contents.valid found
