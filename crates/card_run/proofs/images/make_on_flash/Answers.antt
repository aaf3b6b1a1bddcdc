use Rattle.std.proofs.Common.{◌≡◌, ◌∙◌, ap, sym, subst, List, ℕ}
use Rattle.flash_pages.specs.Flash.{LeavesOnly, MayLeaveOnly}
use Rattle.record_codec.specs.declared.durable.Durable.{Durable}
use Rattle.card_core.specs.Listing.{listing_text}
use Rattle.card_journal.specs.Image.{HoldsCard}
use Rattle.card_journal.specs.Made.{HoldsNoneOr, made_card}
use Rattle.card_run.specs.Images.{HasImageCause, MakingEnds, IsPrinted, output}
use Rattle.card_run.specs.declared.status.Status.{Status}
use Rattle.card_run.proofs.ImagesLemmas.{keeps_card, leaves_made, made_by, made_cause, made_refused}
use Rattle.card_run.proofs.images.make_on_flash.Goals as goal

pub returns-in-Ok-clause-made : goal.returns-in-Ok-clause-made
returns-in-Ok-clause-made g c =
    let kept = keeps_card (g.F.Flash.state c.in-Ok.store.flash) c.in-Ok.store.held c.in-Ok.store.unrepaired c.in-Ok.ensures.repaired c.in-Ok.ensures.kept in
    let its = subst (λ (held : Durable). MayLeaveOnly (g.F.Flash.state c.in-Ok.store.flash) (λ content. HoldsCard content held)) c.in-Ok.ensures.made kept in
    let keeps = subst (λ flash. MayLeaveOnly (g.F.Flash.state flash) (λ content. HoldsCard content (made_card c.args.card.mode c.args.card.ports c.args.card.eid)))
    (sym (c.close.ensures ∙ ap (λ store. store.flash) c.print_listing-status.ensures.store)) its in
    let printed = subst (λ (held : Durable). IsPrinted (listing_text held) (output (g.K.Sink.written c.args.out.now) (g.K.Sink.faults c.args.out.now))
    (output (g.K.Sink.written c.print_listing-status.new.out) (g.K.Sink.faults c.print_listing-status.new.out)) c.print_listing-status.result) c.in-Ok.ensures.made c.print_listing-status.ensures.printed in
    made_by (made_card c.args.card.mode c.args.card.ports c.args.card.eid) (g.F.Flash.state c.args.flash) (g.F.Flash.state c.close.result) (output (g.K.Sink.written c.args.out.now) (g.K.Sink.faults c.args.out.now))
    (output (g.K.Sink.written c.print_listing-status.new.out) (g.K.Sink.faults c.print_listing-status.new.out)) c.print_listing-status.result c.in-Ok.ensures.blank keeps printed

pub returns-in-Ok-clause-images : goal.returns-in-Ok-clause-images
returns-in-Ok-clause-images g c =
    let its = subst (λ (held : Durable). LeavesOnly (g.F.Flash.state c.args.flash) (g.F.Flash.state c.in-Ok.store.flash) (HoldsNoneOr held))
    c.in-Ok.ensures.made c.in-Ok.ensures.images in
    let leaves = subst (λ flash. LeavesOnly (g.F.Flash.state c.args.flash) (g.F.Flash.state flash) (HoldsNoneOr (made_card c.args.card.mode c.args.card.ports c.args.card.eid)))
    (sym (c.close.ensures ∙ ap (λ store. store.flash) c.print_listing-status.ensures.store)) its in
    leaves_made (made_card c.args.card.mode c.args.card.ports c.args.card.eid) (g.F.Flash.state c.args.flash) (g.F.Flash.state c.close.result) c.in-Ok.ensures.blank leaves

pub returns-in-Err-clause-made : goal.returns-in-Err-clause-made
returns-in-Err-clause-made g c =
    subst (λ (status : Status). MakingEnds (made_card c.args.card.mode c.args.card.ports c.args.card.eid) (g.F.Flash.state c.args.flash) (g.F.Flash.state c.in-Err.back.value) (output (g.K.Sink.written c.args.out.now) (g.K.Sink.faults c.args.out.now))
    (output (g.K.Sink.written c.args.out.now) (g.K.Sink.faults c.args.out.now)) status) (sym c.not_made.ensures)
    (made_refused (made_card c.args.card.mode c.args.card.ports c.args.card.eid) (g.F.Flash.state c.args.flash) (g.F.Flash.state c.in-Err.back.value) (output (g.K.Sink.written c.args.out.now) (g.K.Sink.faults c.args.out.now))
    c.in-Err.back.fault c.in-Err.ensures.refused)

pub returns-in-Err-clause-cause : goal.returns-in-Err-clause-cause
returns-in-Err-clause-cause g c =
    subst (λ (status : Status). HasImageCause (g.F.Flash.state c.args.flash).faults (g.F.Flash.state c.in-Err.back.value).faults
    (g.K.Sink.faults c.args.out.now) (g.K.Sink.faults c.args.out.now) status) (sym c.not_made.ensures)
    (made_cause (g.F.Flash.state c.args.flash) (g.F.Flash.state c.in-Err.back.value) (g.K.Sink.faults c.args.out.now)
    c.in-Err.back.fault c.in-Err.ensures.refused)
