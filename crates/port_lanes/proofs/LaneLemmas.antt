-- A lane behind one more of its statements.
use Rattle.std.proofs.Common.{◌≡◌, ◌≤◌, ◌<◌, ◌+◌, ◌-◌, ◌^◌, ℕ, Bool, true, false, cond, nat_lt}
use Rattle.std.proofs.Common.{List, length}
use Rattle.std.proofs.Common.{Option, Some, None, sym, ◌∙◌, ap, subst, arith}
use Rattle.std.proofs.lemmas.Option.{slice_get_within}
use Rattle.std.specs.Prelude.{drop, slice_get}
use Rattle.std.specs.List.{sum_by}
use Rattle.card_book.specs.Pass.{PassState, pass_of}
use Rattle.card_book.specs.declared.entry.HistoryEntry.{HistoryEntry}
use Rattle.card_core.proofs.EachLemmas.{all_there}
use Rattle.card_core.specs.Run.{package_bytes}
use Rattle.card_core.specs.Stretch.{is_for}
use Rattle.card_core.specs.World.{Made, WorldState}
use Rattle.card_core.specs.declared.event.Event.{Event}
use Rattle.port_lanes.proofs.ComingLemmas.{happens_of, room_for, sum_next}
use Rattle.port_lanes.proofs.CommandLemmas.{steps_as}
use Rattle.port_lanes.specs.Coming.{Comes, HasRoomForComing, bytes_coming}
use Rattle.port_lanes.specs.ComingStep.{ComingHappens}
use Rattle.port_lanes.specs.Lane.{IsLane, LaneState, bytes_of_load, next_in_phase}
use Rattle.port_lanes.specs.LaneStep.{CommitsFrom, HappensFor, StepsPort}
use Rattle.port_lanes.specs.Part.{IsPart, next_until, until_end}
use Rattle.port_lanes.specs.Step.{MakesNext}
use Rattle.port_lanes.specs.declared.coming.Coming.{Coming}
use Rattle.port_lanes.specs.declared.lane_port.LanePort.{LanePort}
use Rattle.port_lanes.specs.declared.part.Part.{Part}
use Rattle.port_lanes.specs.declared.unstored.Unstored.{Unstored}
use Rattle.record_codec.specs.declared.durable.Durable.{Durable}
use Rattle.record_codec.specs.declared.record.Record.{Record}

-- the statement that comes next stands there
pub stands_next : (part : Part) (ended made : ℕ) (event : Event)
    → next_until part ended made ≡ Some event → slice_get part.statements made ≡ Some event
stands_next part ended made event = by (nat_lt made (until_end part ended))
  where
    by : (before : Bool) → cond before (slice_get part.statements made) None ≡ Some event
        → slice_get part.statements made ≡ Some event
    by true is = is
    by false is = absurd cc

-- and is found there by its number
pub numbered_next : (part : Part) (ended made number : ℕ) (event : Event) → number ≡ made + 1
    → Some event ≡ next_until part ended (number - 1)
    → slice_get part.statements made ≡ Some event
numbered_next part ended made number event counted is =
    let place : made ≡ number - 1 = omega (arith, counted) in
    stands_next part ended made event (ap (next_until part ended) place ∙ sym is)

module _ (lane : LaneState) (event : Event) (is : IsLane lane)
    (next : slice_get lane.part.statements lane.at.port.statements ≡ Some event) where
  pub is_for_lane : is_for lane.at.number event ≡ true
  is_for_lane = all_there (λ one. is_for lane.at.number one ≡ true) lane.part.statements
      lane.at.port.statements event is.part.for next

  abbrev left : ℕ
  left = sum_by package_bytes (drop (lane.at.port.statements + 1) lane.part.statements)

  few : bytes_of_load lane.at.port.load + (package_bytes event + left) < 2 ^ 32
  few = subst (λ (n : ℕ). bytes_of_load lane.at.port.load + n < 2 ^ 32)
      (sum_next package_bytes lane.part.statements lane.at.port.statements event next) is.bytes

  module _ (coming : Coming) (brings : bytes_coming coming ≡ package_bytes event) where
    pub has_room : HasRoomForComing lane.at.port.load coming
    has_room = room_for lane.at.port.load coming left
        (subst (λ (n : ℕ). bytes_of_load lane.at.port.load + (n + left) < 2 ^ 32) (sym brings) few)

    pub is_lane : (comes : WorldState → Made → Type 0) (after : LanePort) (pass : PassState)
        (records : List Record) → StepsPort comes lane.at after records
        → pass.port ≡ lane.pass.port
        → bytes_of_load after.port.load ≤ bytes_of_load lane.at.port.load + bytes_coming coming
        → IsLane (record lane { at = after; pass = pass })
    is_lane comes after pass records steps same most =
        let number : after.number ≡ lane.at.number =
        ap (λ (one : LanePort). one.number) steps.rest in
        let within : lane.at.port.statements < length lane.part.statements =
        slice_get_within lane.part.statements lane.at.port.statements event next in
        let counted : after.port.statements ≡ lane.at.port.statements + 1 = steps.statements in
        let most_left : bytes_of_load after.port.load + left < 2 ^ 32 =
        omega (arith, few, most, brings) in
        record {
          part = subst (λ (n : ℕ). IsPart n lane.part) (sym number) is.part;
          pass = same ∙ is.pass ∙ sym number;
          made = omega (arith, within, counted);
          session = steps.session is.session;
          bytes = subst (λ (n : ℕ). bytes_of_load after.port.load
              + sum_by package_bytes (drop n lane.part.statements) < 2 ^ 32) (sym counted)
              most_left;
        }

-- it is the one that the lane has next
pub event_is : (lane now : LaneState) (number : ℕ) (found event : Event) → lane ≡ now
    → number ≡ now.at.port.statements + 1
    → Some found ≡ next_until lane.part lane.ended (number - 1)
    → next_in_phase now ≡ Some event → found ≡ event
event_is lane now number found event same counted is next =
    let place : number - 1 ≡ now.at.port.statements = omega (arith, counted) in
    let both : Some found ≡ Some event =
    is ∙ ap (λ (one : LaneState). next_until one.part one.ended (number - 1)) same
    ∙ ap (next_until now.part now.ended) place ∙ next in
    cc (both)

-- a lane made its next statement
pub makes_next : (begun : Durable) (may_come : List HistoryEntry → Type 0)
    (known knows : List HistoryEntry) (lane : LaneState) (after : LanePort) (pass : PassState)
    (event : Event) (coming : Coming) (failure : Option Unstored) (records : List Record)
    → is_for lane.at.number event ≡ true → Comes event coming → pass.port ≡ lane.pass.port
    → CommitsFrom begun may_come known knows lane.pass.port failure records
    → StepsPort (ComingHappens failure lane.at.number coming) lane.at after records
    → MakesNext begun may_come known knows lane (record lane { at = after; pass = pass }) event
makes_next begun may_come known knows lane after pass event coming failure records for comes same
    commits steps = record {
      failure = failure;
      records = records;
      commits = commits;
      steps = steps_as (ComingHappens failure lane.at.number coming) (HappensFor failure event)
          lane.at
          after records
          (λ state at made is.
          happens_of lane.at.number event coming for comes failure state made is) steps;
      rest = ap (λ (port : ℕ). record lane { at = after; pass = pass_of port }) same;
    }
