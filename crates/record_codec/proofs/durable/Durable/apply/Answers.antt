use Rattle.record_codec.proofs.FitLemmas.{fits_where}
use Rattle.record_codec.proofs.durable.Durable.apply.Goals as goal

pub apply-requires-clause-takes : goal.apply-requires-clause-takes
apply-requires-clause-takes c =
    let takes = (fits_where c.args.self.now c.args.entry.now c.requires.are).0 c.requires.fits in
    rw c.apply_to_contents.ensures takes.heads
