-- Statements that stay at their port, and stretches of them.
use Rattle.std.specs.Prelude.{ℕ, ◌≡◌, ◌≢◌, ◌⊎◌, ◌+◌, ◌==◌, ◌&&◌, Bool, true, false, if◌then◌else◌}
use Rattle.std.specs.Prelude.{⊤, List, filter, map, Some, Result, Ok, Err}
use Rattle.std.specs.List.{AllByRecursion, flat_map}
use Rattle.apdu_codec.specs.Command.{Apdu, Spells}
use Rattle.apdu_codec.specs.declared.status.Sw.{Sw}
use Rattle.file_rows.specs.declared.content.Content.{Content}
use Rattle.lsi_refresh.specs.Lsi.{lsi_of}
use Rattle.lsi_refresh.specs.declared.lsi.Lsi.{Lsi}
use Rattle.lsi_refresh.specs.declared.lsi.Lsi.TheVariants as lsi
use Rattle.port_table.specs.declared.port_mode.PortMode.{PortMode}
use Rattle.profile_card.specs.Own.{is_common}
use Rattle.record_codec.specs.Heads.{held_content}
use Rattle.card_core.specs.IsdrCommand.{is_shared_command}
use Rattle.card_core.specs.Port.{content_on, profile_on}
use Rattle.card_core.specs.PortState.{PortState}
use Rattle.card_core.specs.Stepped.{AreSteps, Happens, Stepped}
use Rattle.card_core.specs.World.{Made, WorldState, port_in}
use Rattle.card_core.specs.declared.entry.Entry.{Entry}
use Rattle.card_core.specs.declared.event.Event.{Event}
use Rattle.card_core.specs.declared.event.Event.TheVariants.{Apdu as Bytes, Load, Power, Reset}
use Rattle.card_core.specs.declared.event.LoadStep.{LoadStep}
use Rattle.card_core.specs.declared.event.LoadStep.TheVariants.{Begin, End, Piece}

-- what a port's own statements look at: what stands there with its content, and of the card how its
-- ports are shared, how many there are, and how many shared statements came
pub record PortView : Type 0 where
  pub port : PortState
  pub content : Content
  pub mode : PortMode
  pub count : ℕ
  pub turn : ℕ

abbrev pub view_at : WorldState → ℕ → PortView
view_at state port = record {
  port = port_in state port;
  content = content_on state.durable port;
  mode = state.durable.heads.ports.mode;
  count = state.durable.heads.ports.count;
  turn = state.shared;
}

abbrev pub resets_a_port : Result Lsi Sw → Bool
resets_a_port (Ok lsi.Count) = false
resets_a_port (Ok (lsi.Reset port)) = true
resets_a_port (Err sw) = false

-- a command is shared where it is STORE DATA on a channel with the ISD-R, or a MANAGE LSI that
-- resets a port
abbrev pub is_shared_at : PortView → Apdu → Bool
is_shared_at view c =
    is_common view.port.session c
    && (if c.ins == 0x7A then resets_a_port (lsi_of c view.count) else is_shared_command c)

-- so is the end of a load
abbrev pub IsUnshared : LoadStep → Type 0
IsUnshared (Begin metadata) = ⊤
IsUnshared (Piece piece) = ⊤
IsUnshared End = ⊥

-- a statement comes to that port and isn't shared
abbrev pub StaysAt : ℕ → PortView → Event → Type 0
StaysAt port view (Bytes came bytes) =
    (came ≡ port) × ((c : Apdu) → Spells bytes c → is_shared_at view c ≡ false)
StaysAt port view (Reset came) = came ≡ port
StaysAt port view (Load came step) = (came ≡ port) × IsUnshared step
StaysAt port view Power = ⊥

-- a statement makes at most one record; without one, all that the card keeps is as it was
abbrev pub CountsItsRecord : WorldState → Made → Type 0
CountsItsRecord state made =
    ((made.state.commits ≡ state.commits) × (made.state.durable ≡ state.durable))
    ⊎ (made.state.commits ≡ state.commits + 1)

-- what such a statement leaves: its lines are of its port; another port has what it had, with its
-- content; and all that the card keeps stays but the content of the profile on the port
pub record IsMadeAt (port : ℕ) (state : WorldState) (made : Made) : Type 0 where
  pub entries : AllByRecursion (λ entry. entry.port ≡ port) made.entries
  pub others : (other : ℕ) → other ≢ port
      → port_in made.state other ≡ port_in state other
  pub contents : (other : ℕ) → other ≢ port
      → content_on made.state.durable other ≡ content_on state.durable other
  pub heads : made.state.durable.heads ≡ state.durable.heads
  pub held : (profile : ℕ) → profile_on state.durable port ≢ Some profile
      → held_content profile made.state.durable ≡ held_content profile state.durable
  pub shared : made.state.shared ≡ state.shared
  pub commits : CountsItsRecord state made

-- of two cards each counts as many records
abbrev pub CountAsMany : WorldState → Made → WorldState → Made → Type 0
CountAsMany state made other its =
    (records : ℕ) × (made.state.commits ≡ state.commits + records)
    × (its.state.commits ≡ other.commits + records)

-- two statements one after another, in the other order: each makes the same lines, and both leave
-- the same card, its counts included
pub record ChangePlaces (before : WorldState) (event another : Event) (failed fails : Bool)
    (one two : Made) : Type 0 where
  pub first : Made
  pub second : Made
  pub first_happens : Happens fails before another first
  pub second_happens : Happens failed first.state event second
  pub state : second.state ≡ two.state
  pub first_lines : first.entries ≡ two.entries
  pub second_lines : second.entries ≡ one.entries

-- whether an event comes to that port
abbrev pub is_for : ℕ → Event → Bool
is_for port (Bytes came bytes) = came == port
is_for port (Reset came) = came == port
is_for port (Load came step) = came == port
is_for port Power = false

-- a step of a stretch: its statement comes to some port and stays there
abbrev pub IsOfStretch : Stepped → Type 0
IsOfStretch step = (port : ℕ) × StaysAt port (view_at step.before port) step.event

abbrev pub entries_of : List Stepped → List Entry
entries_of steps = flat_map (λ step. step.made.entries) steps

-- the steps of the statements that came to a port
abbrev pub steps_at : ℕ → List Stepped → List Stepped
steps_at port steps = filter (λ step. is_for port step.event) steps

-- of each step, whether it failed
abbrev pub which_failed : List Stepped → List Bool
which_failed steps = map (λ step. step.failed) steps

-- the lines of a log about a port
abbrev pub lines_at : ℕ → List Entry → List Entry
lines_at port entries = filter (λ entry. entry.port == port) entries

-- a stretch by itself: the port's own statements of it alone, from this card, of which the same
-- ones fail, make the same lines there and leave the same there
pub record RunsByItself (port : ℕ) (start : WorldState) (events : List Event)
    (steps : List Stepped) (after : WorldState) : Type 0 where
  pub alone : List Stepped
  pub last : WorldState
  pub are : AreSteps start (filter (is_for port) events) alone last
  pub failed : which_failed alone ≡ which_failed (steps_at port steps)
  pub lines : entries_of alone ≡ lines_at port (entries_of steps)
  pub view : view_at last port ≡ view_at after port

-- what a stretch leaves of a card
pub record LeavesCard (start after : WorldState) : Type 0 where
  pub heads : after.durable.heads ≡ start.durable.heads
  pub held : (profile : ℕ) → ((port : ℕ) → profile_on start.durable port ≢ Some profile)
      → held_content profile after.durable ≡ held_content profile start.durable
  pub shared : after.shared ≡ start.shared
