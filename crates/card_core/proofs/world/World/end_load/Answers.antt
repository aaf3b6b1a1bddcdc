use Rattle.std.proofs.Common.{◌≡◌, ◌∙◌, ◌+◌, ℕ, List, Option, map, ap, refl, subst, sym}
use Rattle.std.specs.Prelude.{None, slice_set}
use Rattle.card_core.proofs.CameLemmas.{came_there, here, port_is, ports_with, stand_as_before}
use Rattle.card_core.proofs.CameLemmas.{told_as, whole_kept}
use Rattle.card_core.proofs.InstalledLemmas.{end_leaves, stand_left}
use Rattle.card_core.proofs.WholeLemmas.{same_card}
use Rattle.card_core.specs.AtPort.{port_state}
use Rattle.card_core.specs.Load.{EndsLoad, LoadEnd, end_made}
use Rattle.card_core.specs.LoadState.{LoadState}
use Rattle.card_core.specs.PortState.{PortState, counted}
use Rattle.card_core.specs.Whole.{world_state}
use Rattle.card_core.specs.World.{count_if, port_in}
use Rattle.card_core.specs.declared.entry.Line.TheVariants.{Loaded}
use Rattle.card_core.specs.declared.port.Port.{Port}
use Rattle.card_core.specs.declared.world.World.{World}
use Rattle.card_core.proofs.world.World.end_load.Goals as goal

pub returns : goal.returns
returns c =
    let before : World = c.args.self.now in
    let came : ℕ = c.args.came in
    let port = c.index_mut-port.result.now in
    let put = c.end_load-load.new.self in
    let place : ℕ = c.from.result in
    let at = c.from.ensures in
    let read = c.index_mut-port.ensures.value in
    let told = c.in_ok-tell.ensures in
    let are = c.requires.whole.are in
    let was = here before came c.requires.whole c.requires.may place port at read in
    let same : port_in (world_state before) came ≡ port_state port =
    port_is before came c.requires.whole c.requires.may place port at read in
    let end : LoadEnd = record {
      durable = c.end_load.new.durable;
      recorded = c.in_ok-outcome.field-0.recorded;
      outcome = c.in_ok-outcome.field-0.outcome;
    } in
    let ends = c.in_ok-outcome.ensures.end in
    let ports : List Port = slice_set before.ports.items place put in
    let number = c.next_number-number in
    let after : World = record {
      durable = c.tell.new.self.durable;
      ports = c.tell.new.self.ports;
      shared = c.tell.new.self.shared + 1;
      commits = c.tell.new.self.commits + c.count_if.result;
      entries = c.tell.new.self.entries;
    } in
    let step = c.end_load-load in (
      end_made (world_state before) came end,
      (
        end,
        subst (λ (its : Option LoadState). EndsLoad before.durable (before.commits + 1) its end)
            (step.ensures.load ∙ ap (λ (its : PortState). its.load) (sym same)) ends,
        refl,
      ),
      came_there before after end.durable _ (before.shared + 1)
          (before.commits + count_if end.recorded) _ told.durable
          (ap (λ its. map port_state its.items) told.ports
          ∙ ports_with before came c.requires.whole c.requires.may place port put at read
          (λ its. record (counted its) { load = None }) step.ensures.state)
          (ap (λ (n : ℕ). n + 1) told.shared)
          (ap (λ (n : ℕ). n + c.count_if.result) told.commits
          ∙ ap (λ (n : ℕ). before.commits + n) c.count_if.ensures)
          (told_as before after.entries before.shared came
          (λ (its : PortState). Loaded (its.statements + 1) end.outcome) (port_state port)
          (port_in (world_state before) came)
          (told_as before after.entries before.shared came (λ (n : ℕ). Loaded n end.outcome)
          number.result (port.statements + 1) told.entries number.ensures) (sym same))
          (whole_kept after end.durable ports told.durable (ap (λ its. its.items) told.ports)
          c.in_ok-outcome.ensures.are
          (stand_left before.durable are end.durable ports
          (end_leaves before.durable are (before.commits + 1) step.result end ends)
          (stand_as_before before came c.requires.whole c.requires.may place port put at read
          (same_card before.durable came port put was step.ensures.card step.ensures.session)))),
    )
