use Rattle.std.proofs.Common.{◌∙◌, sym, subst}
use Rattle.std.proofs.lemmas.Bool.{false≢true}
use Rattle.file_rows.proofs.EachLemmas.{fails}
use Rattle.record_codec.specs.Takes.{TakesHeads}
use Rattle.record_codec.specs.declared.durable.Durable.{Durable}
use Rattle.record_codec.proofs.FitLemmas.{fits_where}
use Rattle.card_journal.proofs.held.HeldCard.fits.Goals as goal

pub returns-then-takes : goal.returns-then-takes
returns-then-takes c =
    let entry = c.args.entry.now in
    let just = fits_where c.args.self.now entry c.requires in
    let heads = subst (λ (d : Durable). TakesHeads d.heads entry) c.self.view_is
    (c.takes.ensures.0 c.if-takes.true) in (
      λ is. just.1 (record { heads = heads; content = c.takes_content.ensures.0 is }),
      λ fits. c.takes_content.ensures.1 (just.0 fits).content,
    )

pub returns-else-takes : goal.returns-else-takes
returns-else-takes c =
    let entry = c.args.entry.now in
    let just = fits_where c.args.self.now entry c.requires in
    fails c.takes.result c.if-takes.false
    (λ fits. false≢true (sym c.if-takes.false ∙ c.takes.ensures.1
    (subst (λ (d : Durable). TakesHeads d.heads entry) (sym c.self.view_is) (just.0 fits).heads)))
