-- What a change at one port leaves of a whole card.
use Rattle.std.proofs.Common.{◌≡◌, ◌≢◌, ◌<◌, ◌+◌, ℕ, Bool, true, false, nat_eq, List, length, map}
use Rattle.std.proofs.Common.{refl}
use Rattle.std.proofs.Common.{sym, ◌∙◌, ap, subst, get_or, Some, eqb-true}
use Rattle.std.proofs.Common.{length-set}
use Rattle.std.proofs.lemmas.Bool.{eqb-false}
use Rattle.std.proofs.lemmas.List.{get_or-map, map-set}
use Rattle.std.proofs.lemmas.Option.{slice_get_read}
use Rattle.std.specs.Prelude.{slice_get, slice_index_or, slice_set}
use Rattle.file_rows.specs.declared.content.Content.{Content}
use Rattle.isdr_commands.proofs.MoveLemmas.{set_others}
use Rattle.profile_card.specs.CardState.{card_of}
use Rattle.profile_card.specs.Card.{Card}
use Rattle.record_codec.proofs.PortLemmas.{set_there}
use Rattle.record_codec.specs.declared.durable.Durable.{Durable}
use Rattle.record_codec.specs.declared.durable.Heads.{Heads}
use Rattle.uicc_channels.specs.declared.session.Session.{Session}
use Rattle.card_core.specs.AtPort.{AreAtPorts, IsAtPort, port_state}
use Rattle.card_core.specs.Port.{content_on}
use Rattle.card_core.specs.PortState.{PortState, fresh_port}
use Rattle.card_core.specs.World.{card_on}
use Rattle.card_core.specs.declared.port.Port.{Port}

-- the port that stands at a place
pub state_at : (ports : List Port) (number : ℕ) (port : Port) → number < length ports
    → port ≡ get_or ports number port
    → slice_index_or (map port_state ports) number fresh_port ≡ port_state port
state_at ports number port below is =
    get_or-map port_state ports number port fresh_port below ∙ ap port_state (sym is)

-- the card of a port that keeps its content, in any session
pub card_stays : (before after : Durable) (number : ℕ) (session : Session)
    → after.heads ≡ before.heads → content_on after number ≡ content_on before number
    → card_on after number session ≡ card_on before number session
card_stays before after number session heads content =
    ap (λ (its : Content). record {
      content = its;
      session = session;
      mode = after.heads.ports.mode;
      port = Some number;
    }) content
    ∙ ap (λ (its : Heads). record {
      content = content_on before number;
      session = session;
      mode = its.ports.mode;
      port = Some number;
    }) heads

module _ (before after : Durable) (ports : List Port) (number : ℕ) (port : Port)
    (at : AreAtPorts before ports) (below : slice_get ports number ≡ Some port)
    (put : Port) (heads : after.heads ≡ before.heads)
    (elsewhere : (other : ℕ) → other ≢ number
    → content_on after other ≡ content_on before other)
    (here : IsAtPort after number put) where
  by_place : (other : ℕ) (its : Port) → slice_get (slice_set ports number put) other ≡ Some its
      → (is_here : Bool) → nat_eq other number ≡ is_here → IsAtPort after other its
  by_place other its there true is =
      let same : other ≡ number = eqb-true other number is in
      let found : slice_get (slice_set ports number put) number ≡ Some put =
      set_there ports number put port below in
      let at_other : slice_get (slice_set ports number put) number ≡ Some its =
      subst (λ (place : ℕ). slice_get (slice_set ports number put) place ≡ Some its) same there in
      let equal : put ≡ its = cc (found, at_other) in
      subst (λ (place : ℕ). IsAtPort after place its) (sym same)
      (subst (λ (one : Port). IsAtPort after number one) equal here)
  by_place other its there false is =
      let apart : other ≢ number = eqb-false other number is in
      let stays : slice_get ports other ≡ Some its =
      sym (set_others ports number other put (λ same. apart (sym same))) ∙ there in
      at.each other its stays
      ∙ sym (card_stays before after other its.session heads (elsewhere other apart))

  -- each port has the card that stands there, after a change at one
  pub stand_after : AreAtPorts after (slice_set ports number put)
  stand_after = record {
    count = length-set ports number put ∙ at.count
        ∙ ap (λ (its : Heads). its.ports.count) (sym heads);
    each = λ other its there. by_place other its there (nat_eq other number) refl;
  }

-- the ports after a change at one of them
module _ (ports : List Port) (number : ℕ) (port put : Port) (below : number < length ports)
    (is : port ≡ get_or ports number port) where
  pub found : slice_get ports number ≡ Some port
  found = slice_get_read ports (length ports) number port refl below is

  pub ports_put : (change : PortState → PortState) → port_state put ≡ change (port_state port)
      → map port_state (slice_set ports number put)
      ≡ slice_set (map port_state ports) number
      (change (slice_index_or (map port_state ports) number fresh_port))
  ports_put change same =
      map-set port_state ports number put
      ∙ ap (λ (its : PortState). slice_set (map port_state ports) number its)
      (same ∙ ap change (sym (state_at ports number port below is)))

  pub number_put : (slice_index_or (map port_state ports) number fresh_port).statements + 1
      ≡ port.statements + 1
  number_put = ap (λ (its : PortState). its.statements + 1) (state_at ports number port below is)

  pub session_put : (slice_index_or (map port_state ports) number fresh_port).session
      ≡ port.session
  session_put = ap (λ (its : PortState). its.session) (state_at ports number port below is)

  pub desk_put : (slice_index_or (map port_state ports) number fresh_port).desk ≡ port.desk
  desk_put = ap (λ (its : PortState). its.desk) (state_at ports number port below is)

  pub load_put : (slice_index_or (map port_state ports) number fresh_port).load ≡ port.load
  load_put = ap (λ (its : PortState). its.load) (state_at ports number port below is)

-- a port whose card and session stay is at its place
pub same_card : (durable : Durable) (number : ℕ) (port put : Port) → IsAtPort durable number port
    → put.card ≡ port.card → put.session ≡ port.session → IsAtPort durable number put
same_card durable number port put at card session =
    ap card_of card ∙ at ∙ ap (card_on durable number) (sym session)

-- and so is one that was reset
pub reset_card : (durable : Durable) (number : ℕ) (port put : Port) (session : Session)
    → IsAtPort durable number port → put.session ≡ session
    → card_of put.card ≡ record (card_of port.card) { session = session }
    → IsAtPort durable number put
reset_card durable number port put session at same card =
    card ∙ ap (λ (its : Card). record its { session = session }) at
    ∙ ap (card_on durable number) (sym same)
