use Rattle.std.proofs.Common.{take}
use Rattle.std.specs.List.{sum_by}
use Rattle.card_core.proofs.StepsLemmas.{SoFarIn}
use Rattle.card_core.proofs.WithinLemmas.{AreWithin}
use Rattle.card_core.specs.Run.{package_bytes}
use Rattle.card_core.specs.Statements.{MakesAll}
use Rattle.card_core.specs.Whole.{IsWholeCard, world_state}
use Rattle.card_core.specs.World.{opened}
use Rattle.card_core.proofs.run.pure_run.Given as goal

abbrev pub invariant-loop-event : goal.invariant-loop-event
invariant-loop-event l = record {
  made : MakesAll (opened l.start) (take l.event-index l.events) l.world.entries
      (world_state l.world);
  whole : IsWholeCard l.world;
  within : AreWithin l.start.heads.ports.count l.event-index
      (sum_by package_bytes (take l.event-index l.events)) (world_state l.world);
  so : SoFarIn (opened l.start) (take l.event-index l.events) l.world.entries
      (world_state l.world);
}
