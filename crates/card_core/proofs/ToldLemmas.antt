-- The lines of any statement, in the words of the law.
use Rattle.std.proofs.Common.{◌≡◌, ◌⊎◌, ◌<◌, ◌≤◌, ℕ, Bool, true, false, nat_eq, refl, sym}
use Rattle.std.proofs.Common.{subst, arith, inl, inr, eqb-true}
use Rattle.std.proofs.lemmas.Bool.{eqb-false}
use Rattle.card_core.proofs.LineLemmas.{own_first, own_rank}
use Rattle.card_core.proofs.RankLemmas.{AtMost, each_two_with, each_weaker}
use Rattle.card_core.proofs.StatementLemmas.{IsLineOf, IsStatementMade, its_port, statement_made}
use Rattle.card_core.specs.Lines.{IsLineBy, IsToldInOrder, OwnFirst}
use Rattle.card_core.specs.Merge.{ComesToPort}
use Rattle.card_core.specs.Run.{IsOnCard}
use Rattle.card_core.specs.Sound.{IsSoundState}
use Rattle.card_core.specs.Stepped.{Happens}
use Rattle.card_core.specs.Stretch.{is_for}
use Rattle.card_core.specs.World.{Made, WorldState}
use Rattle.card_core.specs.declared.entry.Entry.{Entry}
use Rattle.card_core.specs.declared.event.Event.{Event}
use Rattle.card_core.specs.declared.event.Event.TheVariants as events

comes_here : (port : ℕ) (event : Event) → is_for port event ≡ true
    → ComesToPort event × (its_port event ≡ port)
comes_here port (events.Apdu came bytes) is = (tt, eqb-true came port is)
comes_here port (events.Reset came) is = (tt, eqb-true came port is)
comes_here port (events.Load came step) is = (tt, eqb-true came port is)
comes_here port events.Power is = absurd cc

own_or_by_port : (port : ℕ) (one other : Entry) → AtMost (own_first port) one other
    → OwnFirst port one other
own_or_by_port port one other =
    by (nat_eq port one.port) (nat_eq port other.port) refl refl
  where
    by : (here there : Bool) → nat_eq port one.port ≡ here → nat_eq port other.port ≡ there
        → (own_rank here < own_rank there) ⊎ ((own_rank here ≡ own_rank there)
        × ((one.port < other.port) ⊎ ((one.port ≡ other.port) × Unit {0})))
        → OwnFirst port one other
    by true there is its order = inl (sym (eqb-true port one.port is))
    by false true is its (inl less) = absurd (omega (arith, less))
    by false true is its (inr same) = let equal = same.0 in absurd (omega (arith, equal))
    by false false is its (inl less) = absurd (omega (arith, less))
    by false false is its (inr same) =
        inr ((λ equal. eqb-false port other.port its (sym equal)), most same.1)
      where
        most : (one.port < other.port) ⊎ ((one.port ≡ other.port) × Unit {0})
            → one.port ≤ other.port
        most (inl less) = omega (arith, less)
        most (inr equal) = let is = equal.0 in omega (arith, is)

pub told_in_order : (state : WorldState) → IsSoundState state → (port : ℕ) (event : Event)
    (failed : Bool) (made : Made) → is_for port event ≡ true
    → IsOnCard state.durable.heads.ports.count event → Happens failed state event made
    → IsToldInOrder port state made
told_in_order state sound port event failed made comes on happens =
    let here = comes_here port event comes in
    let its : IsStatementMade port state made =
    subst (λ (n : ℕ). IsStatementMade n state made) here.1
    (statement_made state sound failed event made here.0 on happens) in
    record {
      lines = each_weaker (IsLineOf port state) (IsLineBy port state)
          (λ entry line. record { turn = line.turn; maker = line.maker; within = line.within })
          made.entries its.lines;
      order = each_two_with (IsLineOf port state) (AtMost (own_first port)) (OwnFirst port)
          (λ one other line also order. own_or_by_port port one other order) made.entries its.lines
          its.order;
      counts = its.counts;
      shared = its.shared;
    }
