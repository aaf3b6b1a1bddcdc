-- The cards of the ports after a request: those of the ports that don't move are as they were.
use Rattle.std.proofs.Common.{◌≡◌, ◌≢◌, ℕ, zero, suc, Bool, true, false, not, nat_eq, List, []}
use Rattle.std.proofs.Common.{◌∷◌, filter, length, Option, Some, None, refl, sym, ◌∙◌, ap}
use Rattle.std.proofs.Common.{subst, cond}
use Rattle.std.specs.List.{AllByRecursion}
use Rattle.std.specs.Prelude.{IfSome, slice_get, slice_index_or, unwrap_or}
use Rattle.std.proofs.lemmas.Bool.{eqb-false, false≢true}
use Rattle.file_rows.specs.declared.content.Content.{Content}
use Rattle.isdr_commands.specs.declared.moves.Move.{Move}
use Rattle.notify_list.proofs.NoteLemmas.{any_of_none, each_passes}
use Rattle.port_table.specs.Ports.{StandsOn, unbound}
use Rattle.port_table.specs.declared.ports.Ports.{Ports}
use Rattle.record_codec.proofs.LocalLemmas.{contents_stay}
use Rattle.record_codec.specs.Apply.{apply}
use Rattle.record_codec.specs.Gone.{is_among, unbound_each}
use Rattle.record_codec.specs.Heads.{IsHeld, held_content}
use Rattle.record_codec.specs.IsDurable.{IsDurable}
use Rattle.record_codec.specs.Local.{TouchesContent}
use Rattle.record_codec.specs.declared.durable.Durable.{Durable}
use Rattle.record_codec.specs.declared.profile.ProfileHead.{ProfileHead}
use Rattle.record_codec.specs.declared.record.Record.{Record}
use Rattle.record_codec.specs.declared.record.Record.TheVariants as records
use Rattle.uicc_channels.specs.declared.session.Session.{Session}
use Rattle.port_table.specs.declared.port_mode.PortMode.{PortMode}
use Rattle.card_core.proofs.CarriedLemmas.{IsCarried, IsOfRequest}
use Rattle.card_core.proofs.EachLemmas.{also_there}
use Rattle.card_core.specs.AtPort.{AreAtPorts, IsAtPort, IsMovedTo}
use Rattle.card_core.specs.IsdrCommand.{move_at}
use Rattle.card_core.specs.Port.{blank_content, content_held, content_on, profile_on}
use Rattle.card_core.specs.Recorded.{recorded}
use Rattle.card_core.specs.World.{card_on}
use Rattle.card_core.specs.declared.port.Port.{Port}

each_mode : (numbers : List ℕ) (ports : Ports) → (unbound_each numbers ports).mode ≡ ports.mode
each_mode [] ports = refl
each_mode (number ∷ numbers) ports = each_mode numbers (unbound number ports)

each_count : (numbers : List ℕ) (ports : Ports)
    → (unbound_each numbers ports).count ≡ ports.count
each_count [] ports = refl
each_count (number ∷ numbers) ports = each_count numbers (unbound number ports)

-- a request leaves how the ports are shared, and their number
module _ (durable : Durable) where
  entry_mode : (entry : Record) → IsOfRequest entry
      → (apply durable entry).heads.ports.mode ≡ durable.heads.ports.mode
  entry_mode (records.PutCard mode ports eid next_number next_note notes) kind = absurd kind
  entry_mode (records.PutProfile installation profile port) kind = absurd kind
  entry_mode (records.Content profile change) kind = absurd kind
  entry_mode (records.Bind profile port displaced) kind = refl
  entry_mode (records.Unbind profile) kind = refl
  entry_mode (records.Gone profiles) kind = each_mode profiles durable.heads.ports
  entry_mode (records.Name profile nickname) kind = refl
  entry_mode (records.NoteGone number) kind = refl

  entry_count : (entry : Record) → IsOfRequest entry
      → (apply durable entry).heads.ports.count ≡ durable.heads.ports.count
  entry_count (records.PutCard mode ports eid next_number next_note notes) kind = absurd kind
  entry_count (records.PutProfile installation profile port) kind = absurd kind
  entry_count (records.Content profile change) kind = absurd kind
  entry_count (records.Bind profile port displaced) kind = refl
  entry_count (records.Unbind profile) kind = refl
  entry_count (records.Gone profiles) kind = each_count profiles durable.heads.ports
  entry_count (records.Name profile nickname) kind = refl
  entry_count (records.NoteGone number) kind = refl

  pub mode_stays : (entry : Option Record) → IfSome entry IsOfRequest
      → (recorded durable entry).heads.ports.mode ≡ durable.heads.ports.mode
  mode_stays None kind = refl
  mode_stays (Some entry) kind = entry_mode entry kind

  pub count_stays : (entry : Option Record) → IfSome entry IsOfRequest
      → (recorded durable entry).heads.ports.count ≡ durable.heads.ports.count
  count_stays None kind = refl
  count_stays (Some entry) kind = entry_count entry kind

-- a profile that goes is held no more
pub not_held : (numbers : List ℕ) (number : ℕ) → is_among numbers number ≡ true
    → (profiles : List ProfileHead)
    → IsHeld number (filter (λ head. not (is_among numbers head.number)) profiles) → ⊥
not_held numbers number among profiles =
    any_of_none (λ (head : ProfileHead). head.number ≡ number)
    (filter (λ head. not (is_among numbers head.number)) profiles)
    (each_passes (λ (head : ProfileHead). head.number ≡ number → ⊥)
    (λ head. not (is_among numbers head.number)) (λ head stays same.
    let goes : is_among numbers head.number ≡ true = ap (is_among numbers) same ∙ among in
    false≢true (sym (ap not goes) ∙ stays)) profiles)

-- a profile that stands on a port after a request has the content that it had
module _ (durable : Durable) (are : IsDurable durable) (profile port : ℕ) where
  untouched : (entry : Record) → IsOfRequest entry → IsDurable (apply durable entry)
      → StandsOn (apply durable entry).heads.ports profile port → TouchesContent entry profile → ⊥
  untouched (records.PutCard mode ports eid next_number next_note notes) kind after on touches =
      absurd kind
  untouched (records.PutProfile installation put at) kind after on touches =
      absurd kind
  untouched (records.Content other change) kind after on touches =
      absurd kind
  untouched (records.Bind bound at displaced) kind after on touches = touches
  untouched (records.Unbind bound) kind after on touches = touches
  untouched (records.Gone profiles) kind after on among =
      not_held profiles profile among durable.heads.profiles
      (after.heads.ports.held profile port on)
  untouched (records.Name named nickname) kind after on touches = touches
  untouched (records.NoteGone number) kind after on touches = touches

  pub held_stays : (entry : Option Record) → IfSome entry IsOfRequest
      → IsDurable (recorded durable entry)
      → StandsOn (recorded durable entry).heads.ports profile port
      → held_content profile (recorded durable entry) ≡ held_content profile durable
  held_stays None kind after on = refl
  held_stays (Some entry) kind after on =
      contents_stay durable entry profile are.contents.pairs (untouched entry kind after on)

-- no move is at the port
pub none_at : (moves : List Move) (port : ℕ) → move_at moves port ≡ None
    → AllByRecursion (λ (move : Move). move.port ≢ port) moves
none_at [] port none = tt
none_at (move ∷ moves) port none =
    by (nat_eq move.port port) refl (λ rest. none_at moves port rest) none
  where
    by : (here : Bool) → nat_eq move.port port ≡ here
        → (move_at moves port ≡ None → AllByRecursion (λ (it : Move). it.port ≢ port) moves)
        → cond here (Some move) (move_at moves port) ≡ None
        → AllByRecursion (λ (it : Move). it.port ≢ port) (move ∷ moves)
    by true is rest none = absurd cc
    by false is rest none = (eqb-false move.port port is, rest none)

pub stands : (on : List (Option ℕ)) (port profile : ℕ) → slice_index_or on port None ≡ Some profile
    → slice_get on port ≡ Some (Some profile)
stands [] port profile is = absurd (cc)
stands (place ∷ on) zero profile is = ap Some is
stands (place ∷ on) (suc port) profile is = stands on port profile is

same_place : (on other : List (Option ℕ)) (port : ℕ) → slice_get on port ≡ slice_get other port
    → slice_index_or on port None ≡ slice_index_or other port None
same_place [] [] port same = refl
same_place [] (place ∷ other) zero same = absurd cc
same_place [] (place ∷ other) (suc port) same = same_place [] other port same
same_place (place ∷ on) [] zero same = absurd cc
same_place (place ∷ on) [] (suc port) same = same_place on [] port same
same_place (place ∷ on) (one ∷ other) zero same = cc
same_place (place ∷ on) (one ∷ other) (suc port) same = same_place on other port same

module _ (durable : Durable) (are : IsDurable durable) (entry : Option Record)
    (moves : List Move) (carried : IsCarried durable entry moves)
    (after : IsDurable (recorded durable entry)) where
  -- a port that doesn't move has the content that it had
  pub content_at_unmoved : (port : ℕ) → move_at moves port ≡ None
      → content_on (recorded durable entry) port ≡ content_on durable port
  content_at_unmoved port none =
      ap (content_held (recorded durable entry)) (sym there)
      ∙ by (profile_on durable port) refl
    where
      there : profile_on durable port ≡ profile_on (recorded durable entry) port
      there =
          same_place durable.heads.ports.on (recorded durable entry).heads.ports.on port
          (sym (carried.moves.others port (none_at moves port none)))

      by : (on : Option ℕ) → profile_on durable port ≡ on
          → content_held (recorded durable entry) on ≡ content_held durable on
      by None is = refl
      by (Some profile) is =
          ap (λ (held : Option Content). unwrap_or held blank_content)
          (held_stays durable are profile port entry carried.kind after
          (stands (recorded durable entry).heads.ports.on port profile (sym there ∙ is)))

  pub card_at_unmoved : (port : ℕ) (session : Session) → move_at moves port ≡ None
      → card_on (recorded durable entry) port session ≡ card_on durable port session
  card_at_unmoved port session none =
      ap (λ (its : Content). record {
        content = its;
        session = session;
        mode = (recorded durable entry).heads.ports.mode;
        port = Some port;
      }) (content_at_unmoved port none)
      ∙ ap (λ (its : PortMode). record {
        content = content_on durable port;
        session = session;
        mode = its;
        port = Some port;
      }) (mode_stays durable entry carried.kind)

  -- each port has the card that stands there after a request
  stands_moved : (port : ℕ) (kept : Option ℕ) (before its : Port) (move : Option Move)
      → move_at moves port ≡ move → IsAtPort durable port before
      → IsMovedTo (recorded durable entry) port kept move before its
      → IsAtPort (recorded durable entry) port its
  stands_moved port kept before its None none at moved =
      subst (λ (one : Port). IsAtPort (recorded durable entry) port one) (sym moved)
      (at ∙ sym (card_at_unmoved port before.session none))
  stands_moved port kept before its (Some move) is at moved = moved.1

  pub stand_moved : (kept : ℕ → Option ℕ) (before ports : List Port)
      → AreAtPorts durable before → length ports ≡ length before
      → ((port : ℕ) (one its : Port) → slice_get before port ≡ Some one
      → slice_get ports port ≡ Some its
      → IsMovedTo (recorded durable entry) port (kept port) (move_at moves port) one its)
      → AreAtPorts (recorded durable entry) ports
  stand_moved kept before ports at same each = record {
    count = same ∙ at.count ∙ sym (count_stays durable entry carried.kind);
    each = λ port its there. by port its there (slice_get before port) refl;
  }
    where
      by : (port : ℕ) (its : Port) → slice_get ports port ≡ Some its → (one : Option Port)
          → slice_get before port ≡ one → IsAtPort (recorded durable entry) port its
      by port its there None is =
          let found = also_there before ports port its same there in
          absurd (cc (found.1, is))
      by port its there (Some one) is =
          stands_moved port (kept port) one its (move_at moves port) refl
          (at.each port one is) (each port one its is there)
