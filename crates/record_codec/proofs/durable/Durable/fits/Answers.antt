use Rattle.std.proofs.Common.{◌∙◌, sym}
use Rattle.std.proofs.lemmas.Bool.{false≢true}
use Rattle.file_rows.proofs.EachLemmas.{fails}
use Rattle.record_codec.proofs.FitLemmas.{fits_where}
use Rattle.record_codec.proofs.durable.Durable.fits.Goals as goal

pub returns-then-takes : goal.returns-then-takes
returns-then-takes c =
    let just = fits_where c.args.self.now c.args.entry.now c.requires in (
      λ is. just.1 (record { heads = c.takes.ensures.0 c.if-takes.true; content = c.takes_content.ensures.0 is }),
      λ fits. c.takes_content.ensures.1 (just.0 fits).content,
    )

pub returns-else-takes : goal.returns-else-takes
returns-else-takes c =
    let just = fits_where c.args.self.now c.args.entry.now c.requires in
    fails c.takes.result c.if-takes.false (λ fits. false≢true (sym c.if-takes.false ∙ c.takes.ensures.1 (just.0 fits).heads))
