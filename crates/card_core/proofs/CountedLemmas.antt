-- A statement with which the count of shared statements stays looks at its own port alone.
use Rattle.std.proofs.Common.{◌≡◌, ◌+◌, ℕ, Bool, true, false, cond, nat_eq, List}
use Rattle.std.proofs.Common.{Result, Ok, Err, refl, sym, ◌∙◌, ap, subst, arith}
use Rattle.std.proofs.Common.{inl, inr, eqb-true}
use Rattle.std.specs.Prelude.{◌&&◌}
use Rattle.apdu_codec.specs.Command.{Apdu}
use Rattle.apdu_codec.specs.declared.status.Sw.{Sw}
use Rattle.lsi_refresh.specs.Lsi.{lsi_of}
use Rattle.lsi_refresh.specs.declared.lsi.Lsi.{Lsi}
use Rattle.lsi_refresh.specs.declared.lsi.Lsi.TheVariants as lsi
use Rattle.profile_card.specs.Card.{IsSound}
use Rattle.profile_card.specs.Own.{is_common}
use Rattle.card_core.specs.Failed.{FailsWith}
use Rattle.card_core.specs.IsdrCommand.{is_shared_command}
use Rattle.card_core.specs.IsdrCommand.{isdr_made}
use Rattle.card_core.specs.ManageLsi.{lsi_asked_for, lsi_made}
use Rattle.card_core.specs.OwnCommand.{own_made}
use Rattle.card_core.specs.Statements.{AnswersBytes, command_made}
use Rattle.card_core.specs.Stepped.{Happens}
use Rattle.card_core.specs.Stretch.{is_for, is_shared_at}
use Rattle.card_core.specs.Stretch.{resets_a_port, view_at}
use Rattle.card_core.specs.World.{Made, WorldState, card_in, count_if}
use Rattle.card_core.specs.World.{port_in}
use Rattle.card_core.specs.declared.event.Event.{Event}
use Rattle.card_core.specs.declared.event.Event.TheVariants as events
use Rattle.card_core.specs.declared.event.LoadStep.{LoadStep}
use Rattle.card_core.specs.declared.event.LoadStep.TheVariants as steps
use Rattle.card_core.proofs.LocalLemmas.{Counts, IsLocal, command_is_local, failed_local}
use Rattle.card_core.proofs.LocalLemmas.{load_local_is, reset_local, unspelled_local}

-- a count that stays although one was added where it is so
not_counted_by : (count : ℕ) (is_so : Bool) → count + count_if is_so ≡ count → is_so ≡ false
not_counted_by count true same = absurd (omega (arith, same))
not_counted_by count false same = refl

module _ (port : ℕ) (state : WorldState) (sound : IsSound (card_in state port)) where
  -- the count of shared statements rises with a shared command
  lsi_counts : (asked : Result Lsi Sw)
      → (lsi_asked_for state port asked).state.shared
      ≡ state.shared + count_if (resets_a_port asked)
  lsi_counts (Ok lsi.Count) = omega arith
  lsi_counts (Ok (lsi.Reset other)) = omega arith
  lsi_counts (Err sw) = omega arith

  command_counts : (c : Apdu)
      → (command_made state port c).state.shared
      ≡ state.shared + count_if (is_shared_at (view_at state port) c)
  command_counts c = by (is_common (port_in state port).session c) (nat_eq c.ins 0x7A)
    where
      by : (common is_lsi : Bool) → (cond common
          (cond is_lsi (lsi_made state port c) (isdr_made state port c))
          (own_made state port c)).state.shared
          ≡ state.shared + count_if (common && cond is_lsi
          (resets_a_port (lsi_of c state.durable.heads.ports.count)) (is_shared_command c))
      by true true = lsi_counts (lsi_of c state.durable.heads.ports.count)
      by true false = refl
      by false is_lsi = omega arith

  -- a statement with which the count of shared statements stays is such a one
  counted_bytes_local : (bytes : List ℕ) (made : Made) → AnswersBytes state port bytes made
      → made.state.shared ≡ state.shared → IsLocal port state (events.Apdu port bytes) false made
  counted_bytes_local bytes made (inl spelled) stays =
      command_is_local port state sound bytes spelled.0 made spelled.1
      (not_counted_by state.shared (is_shared_at (view_at state port) spelled.0)
      (sym (command_counts spelled.0) ∙ ap (λ (its : Made). its.state.shared) (sym spelled.2)
      ∙ stays)) spelled.2
  counted_bytes_local bytes made (inr none) stays =
      unspelled_local port state bytes made none.0 none.1

  counted_failed_local : (bytes : List ℕ) (made : Made)
      → FailsWith state (events.Apdu port bytes) made → made.state.shared ≡ state.shared
      → IsLocal port state (events.Apdu port bytes) true made
  counted_failed_local bytes made is stays =
      failed_local port state sound bytes is.0 is.1 made is.2
      (not_counted_by state.shared (Counts port state sound (view_at state port) is.0)
      (ap (λ (its : Made). its.state.shared) (sym is.3) ∙ stays)) is.3

  counted_step_local : (step : LoadStep) (failed : Bool) (made : Made)
      → Happens failed state (events.Load port step) made → made.state.shared ≡ state.shared
      → IsLocal port state (events.Load port step) failed made
  counted_step_local (steps.Begin metadata) failed made is stays =
      load_local_is port state sound (steps.Begin metadata) failed made tt is
  counted_step_local (steps.Piece piece) failed made is stays =
      load_local_is port state sound (steps.Piece piece) failed made tt is
  counted_step_local steps.End false made is stays =
      let raised : made.state.shared ≡ state.shared + 1 =
      ap (λ (its : Made). its.state.shared) is.2 in
      absurd (omega (arith, raised, stays))
  counted_step_local steps.End true made is stays =
      let raised : made.state.shared ≡ state.shared + 1 =
      ap (λ (its : Made). its.state.shared) is.1 in
      absurd (omega (arith, raised, stays))

  pub counted_local : (failed : Bool) (event : Event) (made : Made)
      → is_for port event ≡ true → Happens failed state event made
      → made.state.shared ≡ state.shared → IsLocal port state event failed made
  counted_local false (events.Apdu came bytes) made comes =
      subst (λ (n : ℕ). Happens false state (events.Apdu n bytes) made
      → made.state.shared ≡ state.shared → IsLocal port state (events.Apdu n bytes) false made)
      (sym (eqb-true came port comes)) (counted_bytes_local bytes made)
  counted_local true (events.Apdu came bytes) made comes =
      subst (λ (n : ℕ). Happens true state (events.Apdu n bytes) made
      → made.state.shared ≡ state.shared → IsLocal port state (events.Apdu n bytes) true made)
      (sym (eqb-true came port comes)) (counted_failed_local bytes made)
  counted_local false (events.Reset came) made comes =
      subst (λ (n : ℕ). Happens false state (events.Reset n) made
      → made.state.shared ≡ state.shared → IsLocal port state (events.Reset n) false made)
      (sym (eqb-true came port comes)) (λ is stays. reset_local port state sound made is)
  counted_local true (events.Reset came) made comes = λ is. absurd is
  counted_local failed (events.Load came step) made comes =
      subst (λ (n : ℕ). Happens failed state (events.Load n step) made
      → made.state.shared ≡ state.shared → IsLocal port state (events.Load n step) failed made)
      (sym (eqb-true came port comes)) (counted_step_local step failed made)
  counted_local failed events.Power made comes = absurd cc
