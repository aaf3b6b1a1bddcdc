use Rattle.std.proofs.Common.{◌≡◌, ◌∙◌, sym, refl}
use Rattle.card_run.specs.Images.{IsListed, KeepsCards, output}
use Rattle.card_run.specs.declared.status.Status.TheVariants.{FlashFault}
use Rattle.card_run.proofs.ImagesLemmas.{kept_alone, of_any, of_left}
use Rattle.card_run.proofs.images.list.Goals as goal

pub returns-in-Err-clause-lists : goal.returns-in-Err-clause-lists
returns-in-Err-clause-lists g c = record {
  listed = of_any g.H.F.Flash.state (g.H.Shelf.place c.args.shelf.now c.args.image.now) (g.H.Shelf.place c.take_flash.new.self c.args.image.now) (λ flash later. IsListed flash (output (g.K.Sink.written c.args.out.now) (g.K.Sink.faults c.args.out.now)) (output (g.K.Sink.written c.args.out.now) (g.K.Sink.faults c.args.out.now)) (FlashFault c.faults-before.result c.faults.result)) (λ flash later. refl);
  cause = (c.in-Err.ensures.cause, c.faults-before.ensures, c.faults.ensures);
  images = of_left g.H.F.Flash.state (g.H.Shelf.place c.args.shelf.now c.args.image.now) (g.H.Shelf.place c.take_flash.new.self c.args.image.now) KeepsCards c.in-Err.ensures.failed.there
      (λ flash. kept_alone (g.H.F.Flash.state flash) ((g.met.H.F.Flash g.world.𝓛 g.world.𝓜 g.world.𝓡 ((λ s x. x), (λ x. x), (λ x. x), λ x. x)).lawful flash));
  back = c.in-Err.ensures.failed.out ∙ c.requires;
  others = c.take_flash.ensures.others;
}
