-- Whether a statement as it comes needs no more of the card than its port.
use Rattle.std.proofs.Common.{◌≡◌, ◌≤◌, ◌<◌, ◌+◌, ◌^◌, ℕ, zero, suc, true, false, List, [], ◌∷◌}
use Rattle.std.proofs.Common.{Option, Some, None, Result, Ok, Err, refl, sym, ◌∙◌, ap, subst, arith}
use Rattle.std.proofs.Common.{eqb-true, length, inl, inr}
use Rattle.std.proofs.lemmas.List.Sums.{sum_by-cons}
use Rattle.std.specs.Prelude.{◌↔◌, drop, slice_get, unwrap_or}
use Rattle.std.specs.List.{sum_by}
use Rattle.apdu_codec.specs.Answer.{status_alone}
use Rattle.apdu_codec.specs.Command.{Apdu, Spells, apdu_of}
use Rattle.apdu_codec.specs.declared.commands.Command.{Command as CommandRead}
use Rattle.apdu_codec.specs.declared.status.Sw.{Sw}
use Rattle.isdr_codec.specs.declared.metadata.MetaFault.{MetaFault}
use Rattle.record_codec.specs.declared.profile.ProfileHead.{ProfileHead}
use Rattle.card_core.specs.Load.{begin_made, load_begun, piece_made}
use Rattle.card_core.specs.LoadState.{LoadState}
use Rattle.card_core.specs.Stretch.{PortView, StaysAt, is_for, is_shared_at}
use Rattle.card_core.specs.World.{Made, WorldState, answered_alone}
use Rattle.card_core.specs.declared.event.Event.{Event}
use Rattle.card_core.specs.declared.event.Event.TheVariants as events
use Rattle.card_core.specs.declared.event.LoadStep.{LoadStep}
use Rattle.card_core.specs.declared.event.LoadStep.TheVariants as steps
use Rattle.port_lanes.specs.Coming.{Comes, HasRoomForComing, ComesAsStep, bytes_coming}
use Rattle.port_lanes.specs.ComingStep.{ComingHappens}
use Rattle.port_lanes.specs.Lane.{bytes_of_load}
use Rattle.port_lanes.specs.LaneStep.{HappensFor}
use Rattle.port_lanes.specs.declared.coming.Coming.{Coming}
use Rattle.port_lanes.specs.declared.coming.Coming.TheVariants.{Begins, Command, Ends, Feeds}
use Rattle.port_lanes.specs.declared.coming.Coming.TheVariants.{Resets, Unspelled}
use Rattle.port_lanes.specs.declared.unstored.Unstored.{Unstored}

pub stays_command : (came : ℕ) (bytes : List ℕ) (c : CommandRead) → Spells bytes (apdu_of c)
    → ((d : Apdu) → Spells bytes d → d ≡ apdu_of c) → (view : PortView) (port : ℕ)
    → is_for port (events.Apdu came bytes) ≡ true
    → (is_shared_at view (apdu_of c) ≡ false) ↔ StaysAt port view (events.Apdu came bytes)
stays_command came bytes c spelled only view port for = (
  (λ none. (eqb-true came port for, λ d its. ap (is_shared_at view) (only d its) ∙ none)),
  (λ stays. stays.1 (apdu_of c) spelled),
)

pub stays_unspelled : (came : ℕ) (bytes : List ℕ) (sw : Sw) → ((c : Apdu) → ¬ Spells bytes c)
    → (view : PortView) (port : ℕ) → is_for port (events.Apdu came bytes) ≡ true
    → (false ≡ false) ↔ StaysAt port view (events.Apdu came bytes)
stays_unspelled came bytes sw none view port for = (
  (λ is. (eqb-true came port for, λ d its. absurd (none d its))),
  (λ stays. refl),
)

-- a load that begins has no bytes, and one that can't begin leaves the one that is there
pub begun_bytes : (load : Option LoadState) (read : Result ProfileHead MetaFault)
    → bytes_of_load (load_begun load read).load ≤ bytes_of_load load
begun_bytes load (Ok head) = omega arith
begun_bytes load (Err fault) = omega arith

-- the next bytes of a package have room in its load
pub room_for : (load : Option LoadState) (coming : Coming) (rest : ℕ)
    → bytes_of_load load + (bytes_coming coming + rest) < 2 ^ 32 → HasRoomForComing load coming
room_for load (Command c) rest few = tt
room_for load (Unspelled sw) rest few = tt
room_for load Resets rest few = tt
room_for load (Begins metadata) rest few = tt
room_for load Ends rest few = tt
room_for load (Feeds piece) rest few = λ its is bytes has.
    let size : bytes_of_load load ≡ length bytes =
    ap bytes_of_load is
    ∙ ap (λ (one : Option (List ℕ)). length (unwrap_or one [])) has in
    omega (arith, size, few)

-- the bytes of packages from a statement on
pub sum_next : (count : Event → ℕ) (list : List Event) (place : ℕ) (event : Event)
    → slice_get list place ≡ Some event
    → sum_by count (drop place list) ≡ count event + sum_by count (drop (place + 1) list)
sum_next count [] place event is = absurd cc
sum_next count (first ∷ list) zero event is =
    let same : first ≡ event = cc (is) in
    sum_by-cons count first list ∙ ap (λ (one : Event). count one + sum_by count list) same
sum_next count (first ∷ list) (suc place) event is =
    let next : suc place + 1 ≡ suc (place + 1) = omega arith in
    sum_next count list place event is
    ∙ ap (λ (n : ℕ). count event + sum_by count (drop n (first ∷ list))) (sym next)

-- the port of an event; a power cycle has none
abbrev port_of : Event → ℕ
port_of (events.Apdu came bytes) = came
port_of (events.Reset came) = came
port_of (events.Load came step) = came
port_of events.Power = 0

is_port : (port : ℕ) (event : Event) → is_for port event ≡ true → port ≡ port_of event
is_port port (events.Apdu came bytes) for = sym (eqb-true came port for)
is_port port (events.Reset came) for = sym (eqb-true came port for)
is_port port (events.Load came step) for = sym (eqb-true came port for)
is_port port events.Power for = absurd cc

step_happens : (came : ℕ) (step : LoadStep) (coming : Coming) → ComesAsStep step coming
    → (failure : Option Unstored) (state : WorldState) (made : Made)
    → ComingHappens failure came coming state made
    → HappensFor failure (events.Load came step) state made
step_happens came (steps.Begin metadata) (Begins its) same None state made =
    λ is. is ∙ ap (begin_made state came) same
step_happens came (steps.Begin metadata) (Begins its) same (Some reason) state made = λ is. is
step_happens came (steps.Begin metadata) (Command c) is failure state made = absurd is
step_happens came (steps.Begin metadata) (Unspelled sw) is failure state made = absurd is
step_happens came (steps.Begin metadata) Resets is failure state made = absurd is
step_happens came (steps.Begin metadata) (Feeds its) is failure state made = absurd is
step_happens came (steps.Begin metadata) Ends is failure state made = absurd is
step_happens came (steps.Piece piece) (Feeds its) same None state made =
    λ is. is ∙ ap (piece_made state came) same
step_happens came (steps.Piece piece) (Feeds its) same (Some reason) state made = λ is. is
step_happens came (steps.Piece piece) (Command c) is failure state made = absurd is
step_happens came (steps.Piece piece) (Unspelled sw) is failure state made = absurd is
step_happens came (steps.Piece piece) Resets is failure state made = absurd is
step_happens came (steps.Piece piece) (Begins its) is failure state made = absurd is
step_happens came (steps.Piece piece) Ends is failure state made = absurd is
step_happens came steps.End Ends same None state made = λ is. is
step_happens came steps.End Ends same (Some reason) state made = λ is. is
step_happens came steps.End (Command c) is failure state made = absurd is
step_happens came steps.End (Unspelled sw) is failure state made = absurd is
step_happens came steps.End Resets is failure state made = absurd is
step_happens came steps.End (Begins its) is failure state made = absurd is
step_happens came steps.End (Feeds its) is failure state made = absurd is

bytes_happens : (came : ℕ) (bytes : List ℕ) (coming : Coming)
    → Comes (events.Apdu came bytes) coming
    → (failure : Option Unstored) (state : WorldState) (made : Made)
    → ComingHappens failure came coming state made
    → HappensFor failure (events.Apdu came bytes) state made
bytes_happens came bytes (Command c) spelled None state made =
    λ is. inl (apdu_of c, spelled, is)
bytes_happens came bytes (Command c) spelled (Some reason) state made =
    λ is. (apdu_of c, spelled, is)
bytes_happens came bytes (Unspelled sw) none None state made =
    λ is. inr (none.0, is ∙ ap (λ (one : Sw). answered_alone state came (status_alone one)) none.1)
bytes_happens came bytes (Unspelled sw) none (Some reason) state made = λ is. absurd is
bytes_happens came bytes Resets is failure state made = absurd is
bytes_happens came bytes (Begins its) is failure state made = absurd is
bytes_happens came bytes (Feeds its) is failure state made = absurd is
bytes_happens came bytes Ends is failure state made = absurd is

reset_happens : (came : ℕ) (coming : Coming) → Comes (events.Reset came) coming
    → (failure : Option Unstored) (state : WorldState) (made : Made)
    → ComingHappens failure came coming state made
    → HappensFor failure (events.Reset came) state made
reset_happens came Resets comes None state made = λ is. is
reset_happens came Resets comes (Some reason) state made = λ is. is
reset_happens came (Command c) is failure state made = absurd is
reset_happens came (Unspelled sw) is failure state made = absurd is
reset_happens came (Begins its) is failure state made = absurd is
reset_happens came (Feeds its) is failure state made = absurd is
reset_happens came Ends is failure state made = absurd is

happens_there : (event : Event) (coming : Coming) → Comes event coming
    → (failure : Option Unstored) (state : WorldState) (made : Made)
    → ComingHappens failure (port_of event) coming state made
    → HappensFor failure event state made
happens_there (events.Apdu came bytes) coming comes = bytes_happens came bytes coming comes
happens_there (events.Reset came) coming comes = reset_happens came coming comes
happens_there (events.Load came step) coming comes = step_happens came step coming comes
happens_there events.Power coming comes = absurd comes

-- what a statement as it comes makes at its port is what the event makes
pub happens_of : (port : ℕ) (event : Event) (coming : Coming) → is_for port event ≡ true
    → Comes event coming → (failure : Option Unstored) (state : WorldState) (made : Made)
    → ComingHappens failure port coming state made → HappensFor failure event state made
happens_of port event coming for comes failure state made is =
    happens_there event coming comes failure state made
    (subst (λ (n : ℕ). ComingHappens failure n coming state made) (is_port port event for) is)
