use Rattle.std.proofs.Common.{◌≡◌, ◌∙◌, ◌+◌, ◌++◌, ◌∷◌, [], ℕ, Bool, List, Some, length, map, ap}
use Rattle.std.proofs.Common.{subst, sym, append_assoc}
use Rattle.std.specs.Prelude.{None, is_some, slice_get, slice_set}
use Rattle.std.specs.Vec.{with_item}
use Rattle.std.proofs.lemmas.List.{with_items_is}
use Rattle.apdu_codec.specs.Command.{Apdu, apdu_of}
use Rattle.apdu_codec.specs.declared.answers.Answer.{Answer}
use Rattle.isdr_commands.specs.declared.moves.Move.{Move}
use Rattle.record_codec.specs.IsDurable.{IsDurable}
use Rattle.record_codec.specs.declared.durable.Durable.{Durable}
use Rattle.card_core.proofs.CameLemmas.{came_there, here, port_is, ports_with, stand_as_before}
use Rattle.card_core.proofs.CameLemmas.{whole_kept}
use Rattle.card_core.proofs.CarriedLemmas.{desk_carried}
use Rattle.card_core.proofs.MovedLemmas.{stand_moved}
use Rattle.card_core.proofs.MovedStateLemmas.{moved_states}
use Rattle.card_core.proofs.WholeLemmas.{same_card}
use Rattle.card_core.specs.AtPort.{IsMovedTo, port_state}
use Rattle.card_core.specs.Desk.{desk_outcome}
use Rattle.card_core.specs.DeskOutcome.{DeskOutcome}
use Rattle.card_core.specs.IsdrCommand.{at_each, busy_of, came_at, isdr_carried, is_shared_command}
use Rattle.card_core.specs.IsdrCommand.{kept_on, move_at, moves_lines, port_moved}
use Rattle.card_core.specs.PortState.{PortState}
use Rattle.card_core.specs.Recorded.{recorded}
use Rattle.card_core.specs.Whole.{Came, world_state}
use Rattle.card_core.specs.World.{count_if}
use Rattle.card_core.specs.declared.entry.Entry.{Entry}
use Rattle.card_core.specs.declared.entry.Line.TheVariants.{Answered}
use Rattle.card_core.specs.declared.port.Port.{Port}
use Rattle.card_core.specs.declared.telling.Telling.{Telling}
use Rattle.card_core.specs.declared.world.World.{World}
use Rattle.card_core.proofs.world.World.isdr.Goals as goal

pub returns : goal.returns
returns c =
    let before : World = c.args.self.now in
    let came : ℕ = c.args.came in
    let command : Apdu = apdu_of c.args.command.now in
    let channel : ℕ = command.channel in
    let port = c.index_mut-port.result.now in
    let put = c.answer_isdr.new.self in
    let place : ℕ = c.from.result in
    let at = c.from.ensures in
    let read = c.index_mut-port.ensures.value in
    let its_answer = c.in_ok-answer.ensures in
    let told = c.in_ok-tell.ensures in
    let was = here before came c.requires.whole c.requires.may place port at read in
    let same = port_is before came c.requires.whole c.requires.may place port at read in
    let outcome : PortState → List Bool → DeskOutcome =
    λ its busy. desk_outcome its.desk before.durable.heads busy came command in
    let busy : List Bool = c.busy_of-busy.result in
    let comes : DeskOutcome = outcome (port_state port) busy in
    let kept : Durable = recorded before.durable comes.entry in
    let ports : List Port = slice_set before.ports.items place put in
    let moved : List Port = c.move_ports.new.ports in
    let length_is : length moved ≡ length ports =
    c.in_ok-move_ports.ensures.length ∙ ap length c.deref_mut.ensures.value in
    let each : (number : ℕ) (one its : Port) → slice_get ports number ≡ Some one
    → slice_get moved number ≡ Some its
    → IsMovedTo kept number (kept_on came channel number) (move_at comes.moves number) one its
    =
    λ number one its there then.
    subst (λ (durable : Durable). IsMovedTo durable number (kept_on came channel number)
    (move_at comes.moves number) one its) its_answer.kept
    (subst (λ (moves : List Move). IsMovedTo c.answer_isdr.new.durable number
    (kept_on came channel number) (move_at moves number) one its) its_answer.moves
    (c.in_ok-move_ports.ensures.each number one its
    (ap (λ (xs : List Port). slice_get xs number) c.deref_mut.ensures.value ∙ there) then))
    in
    let line : ℕ → Answer → Entry =
    λ n answer. record {
      turn = before.shared;
      port = came;
      line = Answered n answer None;
    } in
    let telling : ℕ → Telling =
    λ n. record {
      turn = before.shared;
      by = record { port = came; number = n };
      channel = channel;
      commit = before.commits + 1;
    } in
    let number : ℕ = c.next_number-number.result in
    let answer : Answer = c.in_ok-answer.field-0.answer in
    let are : IsDurable kept = subst IsDurable its_answer.kept its_answer.are in
    let stand =
    stand_moved before.durable c.requires.whole.are comes.entry comes.moves
    (desk_carried before.durable c.requires.whole.are busy came c.requires.may.here port.desk
    command) are (kept_on came channel) ports moved
    (stand_as_before before came c.requires.whole c.requires.may place port put at read
    (same_card before.durable came port put was its_answer.card its_answer.session)) length_is
    each in
    let items =
    ap (λ its. its.items) told.ports
    ∙ with_items_is (with_item before.ports place put) moved
    (c.in_ok-move_ports.ensures.length ∙ c.deref_mut.ensures.len) in
    let after : World = record {
      durable = c.tell.new.self.durable;
      ports = c.tell.new.self.ports;
      shared = c.tell.new.self.shared + c.count_if.result;
      commits = c.tell.new.self.commits + c.count_if-2.result;
      entries = c.add_moves.new.entries;
    } in
    subst (λ (its : DeskOutcome). Came before after (isdr_carried (world_state before) came command
    its))
    (ap (outcome (port_state port)) (c.busy_of-busy.ensures
    ∙ ap (λ (xs : List Port). busy_of (map port_state xs)) c.deref.ensures.value)
    ∙ ap (λ (its : PortState). outcome its (busy_of (map port_state before.ports.items)))
    (sym same))
    (came_there before after kept _ (before.shared + count_if (is_shared_command command))
    (before.commits + count_if (is_some comes.entry)) _
    (told.durable ∙ its_answer.kept)
    (ap (map port_state) items
    ∙ moved_states kept (kept_on came channel) comes.moves ports moved length_is each
    ∙ ap (at_each (λ n. port_moved (kept_on came channel n) (move_at comes.moves n)) 0)
    (ports_with before came c.requires.whole c.requires.may place port put at read
    (came_at came channel comes) its_answer.state))
    (ap (λ (n : ℕ). n + c.count_if.result) told.shared
    ∙ ap (λ (n : ℕ). before.shared + n) c.count_if.ensures)
    (ap (λ (n : ℕ). n + c.count_if-2.result) told.commits
    ∙ ap (λ (n : ℕ). before.commits + n) (c.count_if-2.ensures ∙ ap count_if its_answer.recorded))
    (c.in_ok-add_moves.ensures
    ∙ ap (λ (its : List Entry). its ++ moves_lines (telling number) c.as_slice.result.now)
    told.entries
    ∙ append_assoc before.entries (line number answer ∷ [])
    (moves_lines (telling number) c.as_slice.result.now)
    ∙ ap (λ (its : List Move). before.entries ++ line number answer
    ∷ moves_lines (telling number) its) (c.as_slice.ensures.value ∙ its_answer.moves)
    ∙ ap (λ (its : Answer). before.entries ++ line number its
    ∷ moves_lines (telling number) comes.moves) its_answer.answer
    ∙ ap (λ (n : ℕ). before.entries ++ line n comes.answer ∷ moves_lines (telling n) comes.moves)
    (c.next_number-number.ensures
    ∙ ap (λ (its : PortState). its.statements + 1) (sym same)))
    (whole_kept after kept moved (told.durable ∙ its_answer.kept)
    items are stand))
