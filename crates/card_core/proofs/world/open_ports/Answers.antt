use Rattle.std.proofs.Common.{◌≡◌, ◌+◌, ◌∷◌, [], ℕ, List, length, Some, arith, subst, sym, ◌∙◌, ap}
use Rattle.std.proofs.Common.{replicate, length-append, inl, inr}
use Rattle.std.specs.Prelude.{slice_get}
use Rattle.card_core.proofs.EachLemmas.{all_alike, push_cases}
use Rattle.card_core.specs.AtPort.{IsAtPort, port_state}
use Rattle.card_core.specs.PortState.{fresh_port}
use Rattle.card_core.specs.declared.port.Port.{Port}
use Rattle.card_core.proofs.world.open_ports.Goals as goal

pub loop-number-preserved : goal.loop-number-preserved
loop-number-preserved c =
    let before : List Port = c.loop-number.ports.items in
    let put : Port = c.in_ok-open.field-0 in
    let pushed = c.in_ok-push.ensures.items in
    let cases : (place : ℕ) (its : Port) → slice_get c.push.new.self.items place ≡ Some its → _ =
    λ place its there. push_cases before place put its
    (subst (λ (xs : List Port). slice_get xs place ≡ Some its) pushed there) in
    record {
      count = ap length pushed ∙ length-append before (put ∷ [])
          ∙ ap (λ (n : ℕ). n + 1) c.loop-number.invariant.count;
      cards = λ place its there. elim (cases place its there) [
        | inl same ↦ subst (IsAtPort c.args.durable.now place) same.1
            (subst (λ (n : ℕ). IsAtPort c.args.durable.now n put)
            (sym (same.0 ∙ c.loop-number.invariant.count)) c.in_ok-open.ensures.here)
        | inr found ↦ c.loop-number.invariant.cards place its found
      ];
      fresh = λ place its there. elim (cases place its there) [
        | inl same ↦ ap port_state (sym same.1) ∙ c.in_ok-open.ensures.state
        | inr found ↦ c.loop-number.invariant.fresh place its found
      ];
    }

pub returns-clause-states : goal.returns-clause-states
returns-clause-states c =
    all_alike port_state fresh_port c.loop-number.ports.items c.loop-number.invariant.fresh
    ∙ ap (λ (n : ℕ). replicate n fresh_port) (c.loop-number.invariant.count
    ∙ omega (arith, c.loop-number.auto.number-end, c.loop-number-test.false))
