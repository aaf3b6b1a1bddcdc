-- A run, event by event.
use Rattle.std.proofs.Common.{◌≡◌, ◌≤◌, ◌<◌, ◌+◌, ◌^◌, ℕ, Bool, true, false, cond, nat_eq, List, []}
use Rattle.std.proofs.Common.{◌∷◌, ◌++◌}
use Rattle.std.proofs.Common.{length, take, get_or, refl, sym, ◌∙◌, ap, subst, arith, eqb-true}
use Rattle.std.proofs.Common.{append_assoc, append-nil}
use Rattle.std.proofs.lemmas.List.{length-map, take_more}
use Rattle.std.proofs.lemmas.List.Sums.{sum_by-append, sum_by_more_le}
use Rattle.std.proofs.lemmas.Option.{slice_get_read}
use Rattle.std.specs.List.{AllByRecursion, sum_by}
use Rattle.apdu_codec.specs.Command.{Apdu}
use Rattle.profile_card.specs.Own.{is_common}
use Rattle.card_core.proofs.EachLemmas.{all_there}
use Rattle.card_core.specs.AtPort.{port_state}
use Rattle.card_core.specs.IsdrCommand.{isdr_made}
use Rattle.card_core.specs.ManageLsi.{lsi_made}
use Rattle.card_core.specs.OwnCommand.{own_made}
use Rattle.card_core.specs.PortState.{PortState}
use Rattle.card_core.specs.Run.{IsOnCard, package_bytes}
use Rattle.card_core.specs.Statements.{Makes, MakesAll, command_made}
use Rattle.card_core.specs.Whole.{IsWholeCard, world_state}
use Rattle.card_core.specs.World.{Made, WorldState, port_in}
use Rattle.card_core.specs.declared.entry.Entry.{Entry}
use Rattle.card_core.specs.declared.event.Event.{Event}
use Rattle.card_core.specs.declared.world.World.{World}

-- a command for the common part that isn't MANAGE LSI is the ISD-R's
pub isdr_command : (state : WorldState) (port : ℕ) (c : Apdu) (its : PortState)
    → port_in state port ≡ its → is_common its.session c ≡ true → (c.ins ≡ 0x7A → ⊥)
    → isdr_made state port c ≡ command_made state port c
isdr_command state port c its is common unlike =
    by (is_common (port_in state port).session c) (nat_eq c.ins 0x7A)
    (ap (λ (one : PortState). is_common one.session c) is ∙ common) refl
  where
    by : (one other : Bool) → one ≡ true → nat_eq c.ins 0x7A ≡ other
        → isdr_made state port c
        ≡ cond one (cond other (lsi_made state port c) (isdr_made state port c))
        (own_made state port c)
    by false other is test = absurd cc
    by true true is test = absurd (unlike (eqb-true c.ins 0x7A test))
    by true false is test = refl

-- one more event at the end
pub makes_one_more : (state : WorldState) (events : List Event) (entries : List Entry)
    (now : WorldState) (event : Event) (made : Made) → MakesAll state events entries now
    → Makes now event made
    → MakesAll state (events ++ event ∷ []) (entries ++ made.entries) made.state
makes_one_more state [] entries now event made all makes = (
  made,
  [],
  subst (λ (its : WorldState). Makes its event made) all.1 makes,
  (refl, refl),
  ap (λ (its : List Entry). its ++ made.entries) all.0 ∙ sym (append-nil made.entries),
)
makes_one_more state (first ∷ events) entries now event made all makes = (
  all.0,
  all.1 ++ made.entries,
  all.2,
  makes_one_more all.0.state events all.1 now event made all.3 makes,
  ap (λ (its : List Entry). its ++ made.entries) all.4
      ∙ append_assoc all.0.entries all.1 made.entries,
)

-- the ports of a card are as many as it says
pub ports_are : (world : World) → IsWholeCard world
    → length (world_state world).ports ≡ world.durable.heads.ports.count
ports_are world whole = length-map world.ports.items port_state ∙ whole.at.count

-- the next event of a list
module _ (events : List Event) (index : ℕ) (event : Event) (less : index < length events)
    (is : event ≡ get_or events index event) where
  pub next_taken : take (index + 1) events ≡ take index events ++ event ∷ []
  next_taken =
      take_more events index event less
      ∙ ap (λ (its : Event). take index events ++ its ∷ []) (sym is)

  pub next_sum : sum_by package_bytes (take index events) + package_bytes event
      ≡ sum_by package_bytes (take (index + 1) events)
  next_sum =
      let last : package_bytes event ≡ sum_by package_bytes (event ∷ []) = omega arith in
      ap (λ (n : ℕ). sum_by package_bytes (take index events) + n) last
      ∙ sym (sum_by-append package_bytes (take index events) (event ∷ []))
      ∙ ap (sum_by package_bytes) (sym next_taken)

  pub next_room : sum_by package_bytes events < 2 ^ 32
      → sum_by package_bytes (take index events) + package_bytes event < 2 ^ 32
  next_room few =
      let most : sum_by package_bytes (take index events) + package_bytes (get_or events index event)
      ≤ sum_by package_bytes events =
      sum_by_more_le package_bytes events index event less in
      let same : package_bytes event ≡ package_bytes (get_or events index event) =
      ap package_bytes is in
      omega (arith, most, same, few)

  pub next_on : (count : ℕ) → AllByRecursion (IsOnCard count) events → IsOnCard count event
  next_on count each =
      all_there (IsOnCard count) events index event each
      (slice_get_read events (length events) index event refl less is)
