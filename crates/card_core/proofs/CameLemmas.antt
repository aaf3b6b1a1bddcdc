-- What a statement at one port makes of a whole card.
use Rattle.std.proofs.Common.{◌≡◌, ◌≢◌, ◌<◌, ◌+◌, ◌^◌, ℕ, List, [], ◌∷◌, ◌++◌, length, map, refl}
use Rattle.std.proofs.Common.{sym}
use Rattle.std.proofs.Common.{◌∙◌, ap, subst, get_or, Some, Result, Ok, Err}
use Rattle.std.specs.Prelude.{OnOk, slice_get, slice_set}
use Rattle.record_codec.specs.IsDurable.{IsDurable}
use Rattle.record_codec.specs.declared.durable.Durable.{Durable}
use Rattle.card_core.proofs.WholeLemmas.{found, ports_put, stand_after, state_at}
use Rattle.card_core.specs.AtPort.{AreAtPorts, IsAtPort, port_state}
use Rattle.card_core.specs.Port.{content_on}
use Rattle.card_core.specs.PortState.{PortState}
use Rattle.card_core.specs.Whole.{Came, IsWholeCard, MayGoOn, world_state}
use Rattle.card_core.specs.World.{WorldState, port_in}
use Rattle.card_core.specs.declared.entry.Entry.{Entry}
use Rattle.card_core.specs.declared.entry.Line.{Line}
use Rattle.card_core.specs.declared.port.Port.{Port}
use Rattle.card_core.specs.declared.world.World.{World}

pub on_ok : {X E P Q : Type 0} (result : Result X E) → OnOk result P → (P → Q) → OnOk result Q
on_ok (Ok x) its goes = goes its
on_ok (Err e) its goes = tt

-- a card that keeps this, with these ports, after so many shared statements and records
abbrev pub state_with : Durable → List PortState → ℕ → ℕ → WorldState
state_with durable ports shared commits = record {
  durable = durable;
  ports = ports;
  shared = shared;
  commits = commits;
}

pub same_state : (one other : Durable) (ports others : List PortState) (s t m n : ℕ) → one ≡ other
    → ports ≡ others → s ≡ t → m ≡ n
    → state_with one ports s m ≡ state_with other others t n
same_state one other ports others s t m n durable is shared commits =
    ap (λ (its : Durable). state_with its ports s m) durable
    ∙ ap (λ (its : List PortState). state_with other its s m) is
    ∙ ap (λ (its : ℕ). state_with other others its m) shared
    ∙ ap (λ (its : ℕ). state_with other others t its) commits

-- a card that keeps what a card may, with the ports that stand there
pub whole_kept : (now : World) (durable : Durable) (ports : List Port) → now.durable ≡ durable
    → now.ports.items ≡ ports → IsDurable durable → AreAtPorts durable ports → IsWholeCard now
whole_kept now durable ports kept same are at = record {
  are = subst IsDurable (sym kept) are;
  at = subst (λ (its : Durable). AreAtPorts its now.ports.items) (sym kept)
      (subst (AreAtPorts durable) (sym same) at);
}

-- the place of the port on which a statement came
module _ (before : World) (came : ℕ) (whole : IsWholeCard before)
    (may : MayGoOn (world_state before) came) where
  pub below_ports : came < length before.ports.items
  below_ports = subst (λ (n : ℕ). came < n) (sym whole.at.count) may.here

  module _ (place : ℕ) (port : Port) (at : place ≡ came)
      (read : port ≡ get_or before.ports.items place port) where
    is : port ≡ get_or before.ports.items came port
    is = read ∙ ap (λ (n : ℕ). get_or before.ports.items n port) at

    pub port_is : port_in (world_state before) came ≡ port_state port
    port_is = state_at before.ports.items came port below_ports is

    pub statements_fit : port.statements + 1 < 2 ^ 32
    statements_fit =
        subst (λ (its : PortState). its.statements + 1 < 2 ^ 32) port_is may.statements

    pub is_there : slice_get before.ports.items came ≡ Some port
    is_there = found before.ports.items came port port below_ports is

    pub here : IsAtPort before.durable came port
    here = whole.at.each came port is_there

pub ruleset places = (below_ports, statements_fit, here)

-- a card that keeps this, with these ports, counts and lines, came there
pub came_there : (before after : World) (durable : Durable) (ports : List PortState)
    (shared commits : ℕ) (entries : List Entry) → after.durable ≡ durable
    → map port_state after.ports.items ≡ ports → after.shared ≡ shared → after.commits ≡ commits
    → after.entries ≡ before.entries ++ entries → IsWholeCard after
    → Came before after (record {
      state = state_with durable ports shared commits;
      entries = entries;
    })
came_there before after durable ports shared commits entries kept are turns records lines whole =
    record {
      state = same_state after.durable durable (map port_state after.ports.items) ports
          after.shared shared after.commits commits kept are turns records;
      entries = lines;
      whole = whole;
    }

-- a line that tells the same in other words
pub told_as : {X : Type 0} (before : World) (after : List Entry) (turn port : ℕ) (line : X → Line)
    (x y : X)
    → after ≡ before.entries ++ record { turn = turn; port = port; line = line x } ∷ [] → x ≡ y
    → after ≡ before.entries ++ record { turn = turn; port = port; line = line y } ∷ []
told_as {X} before after turn port line x y told same =
    told ∙ ap (λ (its : X). before.entries
    ++ record { turn = turn; port = port; line = line its } ∷ []) same

-- the ports of a card of which one was changed
module _ (before : World) (came : ℕ) (whole : IsWholeCard before)
    (may : MayGoOn (world_state before) came) (place : ℕ) (port put : Port) (at : place ≡ came)
    (read : port ≡ get_or before.ports.items place port) where
  pub ports_with : (change : PortState → PortState) → port_state put ≡ change (port_state port)
      → map port_state (slice_set before.ports.items place put)
      ≡ slice_set (map port_state before.ports.items) came
      (change (port_in (world_state before) came))
  ports_with change same =
      ap (λ (n : ℕ). map port_state (slice_set before.ports.items n put)) at
      ∙ ports_put before.ports.items came port put
      (below_ports before came whole may) (is before came whole may place port at read) change same

  pub stand_with : (durable : Durable) → durable.heads ≡ before.durable.heads
      → ((other : ℕ) → other ≢ came
      → content_on durable other ≡ content_on before.durable other)
      → IsAtPort durable came put
      → AreAtPorts durable (slice_set before.ports.items place put)
  stand_with durable heads elsewhere here =
      subst (λ (n : ℕ). AreAtPorts durable (slice_set before.ports.items n put)) (sym at)
      (stand_after before.durable durable before.ports.items came port whole.at
      (is_there before came whole may place port at read) put heads elsewhere here)

  pub whole_with : (now : World) (durable : Durable)
      → now.ports.items ≡ slice_set before.ports.items place put → now.durable ≡ durable
      → IsDurable durable → durable.heads ≡ before.durable.heads
      → ((other : ℕ) → other ≢ came
      → content_on durable other ≡ content_on before.durable other)
      → IsAtPort durable came put → IsWholeCard now
  whole_with now durable ports kept are heads elsewhere here =
      whole_kept now durable (slice_set before.ports.items place put) kept ports are
      (stand_with durable heads elsewhere here)

  -- what such a card keeps is as before
  pub stand_as_before : IsAtPort before.durable came put
      → AreAtPorts before.durable (slice_set before.ports.items place put)
  stand_as_before here = stand_with before.durable refl (λ other apart. refl) here

  pub whole_as_before : (now : World) → now.ports.items ≡ slice_set before.ports.items place put
      → now.durable ≡ before.durable → IsAtPort before.durable came put → IsWholeCard now
  whole_as_before now ports kept here =
      whole_with now before.durable ports kept whole.are refl (λ other apart. refl) here

  -- a statement that changes its own port alone, and is told by one line
  pub came_at_port : (after : World) (change : PortState → PortState) (line : PortState → Line)
      → after.ports.items ≡ slice_set before.ports.items place put
      → after.durable ≡ before.durable → after.shared ≡ before.shared
      → after.commits ≡ before.commits → port_state put ≡ change (port_state port)
      → IsAtPort before.durable came put
      → after.entries ≡ before.entries ++ record {
        turn = before.shared;
        port = came;
        line = line (port_state port);
      } ∷ []
      → Came before after (record {
        state = record (world_state before) {
          ports = slice_set (map port_state before.ports.items) came
              (change (port_in (world_state before) came));
        };
        entries = record {
          turn = before.shared;
          port = came;
          line = line (port_in (world_state before) came);
        } ∷ [];
      })
  came_at_port after change line ports kept turns records state here told =
      came_there before after before.durable _ before.shared before.commits _ kept
      (ap (map port_state) ports ∙ ports_with change state) turns records
      (told_as before after.entries before.shared came line (port_state port)
      (port_in (world_state before) came) told
      (sym (port_is before came whole may place port at read)))
      (whole_as_before after ports kept here)
