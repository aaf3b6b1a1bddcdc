use Rattle.std.proofs.Common.{◌≡◌, ◌∙◌, ap, subst, List, ℕ}
use Rattle.std.proofs.lemmas.Result.{err_from_is_err_and}
use Rattle.std.specs.Io.KnownBytes.{Appends}
use Rattle.port_io.specs.Sink.{TakesPart}
use Rattle.card_core.specs.Listing.{listing_text}
use Rattle.card_run.specs.Images.{output}
use Rattle.card_run.specs.declared.status.Status.TheVariants.{WriteFault}
use Rattle.card_run.proofs.ImagesLemmas.{printed_by}
use Rattle.card_run.proofs.images.write_listing.Goals as goal

pub returns-clause-printed : goal.returns-clause-printed
returns-clause-printed g c =
    subst (λ (text : List ℕ). Appends (g.K.Sink.written c.args.out.now) (g.K.Sink.written c.write_all.new.sink) text)
    (c.deref.ensures.value ∙ c.in_ok-text.ensures ∙ ap listing_text c.in_ok-held.ensures.copied) c.in_ok-write_all.ensures.whole

pub returns-in_err-write_all-clause-refused : goal.returns-in_err-write_all-clause-refused
returns-in_err-write_all-clause-refused g c =
    let p = err_from_is_err_and c.from_residual-in_err-write_all.result c.from_residual-in_err-write_all.ensures.1 in
    let part = subst (λ (text : List ℕ). TakesPart (g.K.Sink.written c.args.out.now) (g.K.Sink.written c.write_all.new.sink) text)
    (c.deref.ensures.value ∙ c.in_ok-text.ensures ∙ ap listing_text c.in_ok-held.ensures.copied) c.in_err-write_all.ensures.prefix in
    printed_by c.from_residual-in_err-write_all.result (listing_text c.args.store.now.held) (output (g.K.Sink.written c.args.out.now) (g.K.Sink.faults c.args.out.now))
    (output (g.K.Sink.written c.write_all.new.sink) (g.K.Sink.faults c.write_all.new.sink)) WriteFault
    (c.in_err-write_all.ensures.cause, part) p.0 p.1 p.2
