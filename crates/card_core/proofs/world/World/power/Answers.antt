use Rattle.std.proofs.Common.{◌≡◌, ◌∙◌, ℕ, List, [], Some, length, map, append-nil, ap, refl, sym}
use Rattle.std.specs.Prelude.{slice_get}
use Rattle.std.specs.Vec.{with_items}
use Rattle.std.proofs.lemmas.List.{with_items_is}
use Rattle.card_core.proofs.CameLemmas.{came_there, whole_kept}
use Rattle.card_core.proofs.ResetLemmas.{restarted_stand, restarted_states}
use Rattle.card_core.specs.AtPort.{IsRestarted, port_state}
use Rattle.card_core.specs.declared.port.Port.{Port}
use Rattle.card_core.specs.declared.world.World.{World}
use Rattle.card_core.proofs.world.World.power.Goals as goal

pub returns : goal.returns
returns c =
    let before : World = c.args.self.now in
    let ports : List Port = c.restart_ports.new.ports in
    let same = c.restart_ports.ensures.length ∙ ap length c.deref_mut.ensures.value in
    let each : (number : ℕ) (one its : Port) → slice_get before.ports.items number ≡ Some one
    → slice_get ports number ≡ Some its → IsRestarted one its =
    λ number one its was is. c.restart_ports.ensures.each number one its
    (ap (λ (xs : List Port). slice_get xs number) c.deref_mut.ensures.value ∙ was) is in
    let after : World = record {
      durable = before.durable;
      ports = with_items before.ports ports;
      shared = 0;
      commits = 0;
      entries = before.entries;
    } in
    let items : after.ports.items ≡ ports =
    with_items_is before.ports ports (c.restart_ports.ensures.length ∙ c.deref_mut.ensures.len) in
    came_there before after before.durable _ 0 0 [] refl
    (ap (map port_state) items
    ∙ restarted_states before.durable before.ports.items ports c.requires.at same each) refl refl
    (sym (append-nil before.entries))
    (whole_kept after before.durable ports refl items c.requires.are
    (restarted_stand before.durable before.ports.items ports c.requires.at same each))
