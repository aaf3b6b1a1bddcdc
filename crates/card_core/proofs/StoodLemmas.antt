-- Which profiles stand where before and after a request.
use Rattle.std.proofs.Common.{◌≡◌, ◌≢◌, ◌⊎◌, ℕ, List, [], ◌∷◌, Option, Some, None, sym, ◌∙◌, ap}
use Rattle.std.proofs.Common.{subst, inl, inr}
use Rattle.std.specs.Prelude.{IfSome, slice_get}
use Rattle.isdr_commands.specs.Laws.{IsMoved}
use Rattle.isdr_commands.specs.declared.moves.Move.{Move}
use Rattle.port_table.specs.Ports.{StandsNowhere, StandsOn}
use Rattle.port_table.specs.declared.ports.Ports.{Ports}
use Rattle.record_codec.proofs.PortLemmas.{set_cases, were_on}
use Rattle.record_codec.specs.Apply.{apply}
use Rattle.record_codec.specs.FitsCard.{FitsCard}
use Rattle.record_codec.specs.IsDurable.{IsDurable}
use Rattle.record_codec.specs.declared.durable.Durable.{Durable}
use Rattle.record_codec.specs.declared.record.Record.{Record}
use Rattle.record_codec.specs.declared.record.Record.TheVariants as records
use Rattle.card_core.proofs.CarriedLemmas.{IsCarried, IsOfRequest}
use Rattle.card_core.proofs.GivenLemmas.{move_found}
use Rattle.card_core.proofs.MovedLemmas.{none_at}
use Rattle.card_core.specs.IsdrCommand.{move_at}
use Rattle.card_core.specs.Recorded.{recorded}

some_is : {X : Type 0} (x y : X) → Some x ≡ Some y → x ≡ y
some_is x y same = cc

module _ (durable : Durable) (profile port : ℕ) where
  abbrev Stood : Type 0
  Stood = StandsOn durable.heads.ports profile port ⊎ StandsNowhere durable.heads.ports profile

  bound_stood : (bound at : ℕ) → StandsNowhere durable.heads.ports bound
      → ((port ≡ at) × (Some bound ≡ Some profile))
      ⊎ (slice_get durable.heads.ports.on port ≡ Some (Some profile)) → Stood
  bound_stood bound at nowhere (inl here) =
      inr (subst (StandsNowhere durable.heads.ports) (some_is bound profile here.1) nowhere)
  bound_stood bound at nowhere (inr there) = inl there

  entry_stood : (entry : Record) → IsOfRequest entry → FitsCard durable entry
      → StandsOn (apply durable entry).heads.ports profile port → Stood
  entry_stood (records.PutCard mode ports eid next_number next_note notes) kind fits on = absurd kind
  entry_stood (records.PutProfile installation put at) kind fits on = absurd kind
  entry_stood (records.Content other change) kind fits on = absurd kind
  entry_stood (records.Bind bound at displaced) kind fits on =
      bound_stood bound at fits.place.nowhere
      (set_cases durable.heads.ports.on at port (Some bound) (Some profile) on)
  entry_stood (records.Unbind bound) kind fits on =
      inl (were_on (bound ∷ []) durable.heads.ports profile port on).0
  entry_stood (records.Gone profiles) kind fits on =
      inl (were_on profiles durable.heads.ports profile port on).0
  entry_stood (records.Name named nickname) kind fits on = inl on
  entry_stood (records.NoteGone number) kind fits on = inl on

  -- a profile that stands on a port after a request stood there before, or on none
  pub stood : (entry : Option Record) → IfSome entry IsOfRequest
      → IfSome entry (FitsCard durable)
      → StandsOn (recorded durable entry).heads.ports profile port → Stood
  stood None kind fits on = inl on
  stood (Some entry) kind fits on = entry_stood entry kind fits on

module _ (durable : Durable) (are : IsDurable durable) (entry : Option Record)
    (moves : List Move) (carried : IsCarried durable entry moves) (profile : ℕ) where
  abbrev before : Ports
  before = durable.heads.ports

  abbrev after : Ports
  after = (recorded durable entry).heads.ports

  leaves_at : (move : Move) → IsMoved before after move → move.leaves ≡ Some profile
      → StandsOn before profile move.port
  leaves_at move moved is = moved.left ∙ ap (λ (its : Option ℕ). Some its) is

  comes_at : (move : Move) → IsMoved before after move → move.comes ≡ Some profile
      → StandsOn after profile move.port
  comes_at move moved is = moved.came ∙ ap (λ (its : Option ℕ). Some its) is

  -- another move than the one at the port of the profile is none of the profile's
  module _ (port : ℕ) (on : StandsOn before profile port) where
    pub none_leaves : (move : Move) → IsMoved before after move → move.port ≢ port
        → move.leaves ≢ Some profile
    none_leaves move moved apart is =
        apart (are.heads.ports.rule.one_port profile move.port port (leaves_at move moved is) on)

    pub stood_there : (other : ℕ) → StandsOn after profile other → other ≡ port
    stood_there other there =
        elim (stood durable profile other entry carried.kind carried.fits there) [
          | inl was ↦ are.heads.ports.rule.one_port profile other port was on
          | inr nowhere ↦ absurd (nowhere port on)
        ]

    pub none_comes : (move : Move) → IsMoved before after move → move.port ≢ port
        → move.comes ≢ Some profile
    none_comes move moved apart is = apart (stood_there move.port (comes_at move moved is))

    -- the move at its port takes it away
    module _ (move : Move) (found : move_at moves port ≡ Some move) where
      its : (move.port ≡ port) × IsMoved before after move
      its = move_found (IsMoved before after) moves port move carried.moves.each found

      pub it_leaves : move.leaves ≡ Some profile
      it_leaves =
          some_is move.leaves (Some profile)
          (sym its.1.left ∙ ap (slice_get before.on) its.0 ∙ on)

      pub comes_not : move.comes ≢ Some profile
      comes_not is = its.1.changes (it_leaves ∙ sym is)

      pub then_nowhere : StandsNowhere after profile
      then_nowhere other there =
          let here : slice_get after.on port ≡ Some (Some profile) =
          ap (slice_get after.on) (sym (stood_there other there)) ∙ there in
          comes_not (some_is move.comes (Some profile)
          (sym its.1.came ∙ ap (slice_get after.on) its.0 ∙ here))

  -- where it stood on none, no move takes it away
  module _ (nowhere : StandsNowhere before profile) where
    pub leaves_none : (move : Move) → IsMoved before after move → move.leaves ≢ Some profile
    leaves_none move moved is = nowhere move.port (leaves_at move moved is)

    module _ (port : ℕ) (on : StandsOn after profile port)
        (after_are : IsDurable (recorded durable entry)) where
      pub comes_alone : (move : Move) → IsMoved before after move → move.port ≢ port
          → move.comes ≢ Some profile
      comes_alone move moved apart is =
          apart (after_are.heads.ports.rule.one_port profile move.port port
          (comes_at move moved is) on)

      pub not_unmoved : move_at moves port ≡ None → ⊥
      not_unmoved none =
          nowhere port (sym (carried.moves.others port (none_at moves port none)) ∙ on)

      pub it_comes : (move : Move) → move_at moves port ≡ Some move
          → (move.port ≡ port) × (move.comes ≡ Some profile)
      it_comes move found =
          let its = move_found (IsMoved before after) moves port move carried.moves.each found in (
            its.0,
            some_is move.comes (Some profile)
                (sym its.1.came ∙ ap (slice_get after.on) its.0 ∙ on),
          )
