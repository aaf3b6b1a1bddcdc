use Rattle.std.proofs.Common.{◌≡◌, ◌∙◌, ap, sym, subst}
use Rattle.flash_pages.specs.Flash.{Throughout}
use Rattle.card_journal.specs.Image.{HoldsCard}
use Rattle.card_run.specs.Images.{HasImageCause, IsListed, output}
use Rattle.card_run.specs.declared.status.Status.{Status}
use Rattle.card_run.proofs.ImagesLemmas.{listed_by, listed_refused, opened_cause}
use Rattle.card_run.proofs.images.list_flash.Goals as goal

pub returns-in-Ok-clause-listed : goal.returns-in-Ok-clause-listed
returns-in-Ok-clause-listed g c =
    listed_by (g.F.Flash.state c.args.flash) c.in-Ok.store.held (output (g.K.Sink.written c.args.out.now) (g.K.Sink.faults c.args.out.now))
    (output (g.K.Sink.written c.print_listing-status.new.out) (g.K.Sink.faults c.print_listing-status.new.out)) c.print_listing-status.result c.in-Ok.ensures.holds c.in-Ok.ensures.next c.print_listing-status.ensures.printed

pub returns-in-Ok-clause-images : goal.returns-in-Ok-clause-images
returns-in-Ok-clause-images g c = λ held each.
    subst (λ flash. Throughout (λ content. HoldsCard content held) (g.F.Flash.state c.args.flash) (g.F.Flash.state flash))
    (sym (c.close.ensures ∙ ap (λ store. store.flash) c.print_listing-status.ensures.store)) (c.in-Ok.ensures.throughout held each)

pub returns-in-Err-clause-listed : goal.returns-in-Err-clause-listed
returns-in-Err-clause-listed g c =
    subst (λ (status : Status). IsListed (g.F.Flash.state c.args.flash) (output (g.K.Sink.written c.args.out.now) (g.K.Sink.faults c.args.out.now))
    (output (g.K.Sink.written c.args.out.now) (g.K.Sink.faults c.args.out.now)) status) (sym c.not_opened.ensures)
    (listed_refused (g.F.Flash.state c.args.flash) (g.F.Flash.state c.in-Err.back.value) (output (g.K.Sink.written c.args.out.now) (g.K.Sink.faults c.args.out.now))
    c.in-Err.back.fault c.in-Err.ensures.card c.in-Err.ensures.worn)

pub returns-in-Err-clause-cause : goal.returns-in-Err-clause-cause
returns-in-Err-clause-cause g c =
    subst (λ (status : Status). HasImageCause (g.F.Flash.state c.args.flash).faults (g.F.Flash.state c.in-Err.back.value).faults
    (g.K.Sink.faults c.args.out.now) (g.K.Sink.faults c.args.out.now) status) (sym c.not_opened.ensures)
    (opened_cause (g.F.Flash.state c.args.flash).faults (g.F.Flash.state c.in-Err.back.value).faults (g.K.Sink.faults c.args.out.now)
    c.in-Err.back.fault c.in-Err.ensures.cause)
