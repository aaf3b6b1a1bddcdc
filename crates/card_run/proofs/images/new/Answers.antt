use Rattle.std.proofs.Common.{◌≡◌, ◌∙◌, sym, refl}
use Rattle.card_run.specs.Images.{MakingEnds, LeavesNoneOr, output}
use Rattle.card_journal.specs.Made.{made_card}
use Rattle.card_run.specs.declared.status.Status.TheVariants.{FlashFault}
use Rattle.card_run.proofs.ImagesLemmas.{none_alone, of_any, of_left}
use Rattle.card_run.proofs.images.new.Goals as goal

pub returns-in-Err-clause-makes : goal.returns-in-Err-clause-makes
returns-in-Err-clause-makes g c = record {
  made = of_any g.H.F.Flash.state (g.H.Shelf.place c.args.shelf.now c.args.image.now) (g.H.Shelf.place c.take_flash.new.self c.args.image.now) (λ flash later. MakingEnds (made_card c.args.card.mode c.args.card.ports c.args.card.eid) flash later (output (g.K.Sink.written c.args.out.now) (g.K.Sink.faults c.args.out.now)) (output (g.K.Sink.written c.args.out.now) (g.K.Sink.faults c.args.out.now)) (FlashFault c.faults-before.result c.faults.result)) (λ flash later. refl);
  cause = (c.in-Err.ensures.cause, c.faults-before.ensures, c.faults.ensures);
  images = of_left g.H.F.Flash.state (g.H.Shelf.place c.args.shelf.now c.args.image.now) (g.H.Shelf.place c.take_flash.new.self c.args.image.now) (LeavesNoneOr (made_card c.args.card.mode c.args.card.ports c.args.card.eid)) c.in-Err.ensures.failed.there
      (λ flash. none_alone (made_card c.args.card.mode c.args.card.ports c.args.card.eid) (g.H.F.Flash.state flash) ((g.met.H.F.Flash g.world.𝓛 g.world.𝓜 g.world.𝓡 ((λ s x. x), (λ x. x), (λ x. x), λ x. x)).lawful flash));
  back = c.in-Err.ensures.failed.out ∙ c.requires.there;
  others = c.take_flash.ensures.others;
}
