-- One step of a card beside the card of a profile alone: what each step gives the profile, and what
-- its card alone comes to.
use Rattle.std.proofs.Common.{◌≡◌, ◌≢◌, ◌≤◌, ℕ, Bool, true, false, cond, nat_eq, List, []}
use Rattle.std.proofs.Common.{◌∷◌, ◌++◌, Option, Some, None, refl, sym, ◌∙◌, ap, subst, arith, inl}
use Rattle.std.proofs.Common.{inr}
use Rattle.std.proofs.Common.{append_assoc, eqb-true}
use Rattle.std.proofs.lemmas.Bool.{eq-eqb}
use Rattle.std.specs.Prelude.{slice_index_or}
use Rattle.apdu_codec.specs.declared.answers.Answer.{Answer}
use Rattle.file_rows.specs.declared.content.Content.{Content}
use Rattle.port_table.specs.declared.ports.Ports.{Ports}
use Rattle.profile_card.specs.Card.{Card}
use Rattle.profile_card.specs.Step.{Event as CardEvent, Outcome, Steps, StepsAt, silent}
use Rattle.record_codec.specs.Heads.{held_content}
use Rattle.record_codec.specs.IsDurable.{IsDurable}
use Rattle.record_codec.specs.declared.durable.Durable.{Durable}
use Rattle.card_core.proofs.KeptLemmas.{held_below}
use Rattle.card_core.proofs.MovedLemmas.{stands}
use Rattle.card_core.proofs.StepShareLemmas.{Shares, SharesAt, SharesBytes, SharesOwn, lines_given}
use Rattle.card_core.specs.Alone.{IsCardOf, RunsAlone, answer_list}
use Rattle.card_core.specs.Port.{profile_on}
use Rattle.card_core.specs.Share.{Share}
use Rattle.card_core.specs.Share.{given_there, joined_share, no_share}
use Rattle.card_core.specs.Stepped.{Stepped}
use Rattle.card_core.specs.World.{WorldState, card_in, card_on, port_in}

-- a profile that stands on a port has a number below the next one
pub standing_below : (durable : Durable) → IsDurable durable → (profile port : ℕ)
    → profile_on durable port ≡ Some profile → durable.heads.next_number ≤ profile → ⊥
standing_below durable are profile port on low =
    held_below profile durable.heads.next_number durable.heads.profiles are.heads.profiles.below
    (are.heads.ports.held profile port (stands durable.heads.ports.on port profile on)) low

-- a profile stands on one port
pub one_port : (durable : Durable) → IsDurable durable → (profile one other : ℕ)
    → profile_on durable one ≡ Some profile → profile_on durable other ≡ Some profile
    → one ≡ other
one_port durable are profile one other here there =
    are.heads.ports.rule.one_port profile one other
    (stands durable.heads.ports.on one profile here)
    (stands durable.heads.ports.on other profile there)

pub given_here : (profile : ℕ) (on : Option ℕ) (given : List CardEvent) → on ≡ Some profile
    → given_there profile on given ≡ given
given_here profile on given is =
    ap (λ (its : Option ℕ). given_there profile its given) is
    ∙ ap (λ (same : Bool). cond same given []) (eq-eqb profile profile refl)

pub given_not : (profile : ℕ) (on : Option ℕ) (given : List CardEvent) → on ≢ Some profile
    → given_there profile on given ≡ []
given_not profile None given apart = refl
given_not profile (Some other) given apart = by (nat_eq other profile) refl
  where
    by : (same : Bool) → nat_eq other profile ≡ same → cond same given [] ≡ []
    by true is = absurd (apart (ap (λ (n : ℕ). Some n) (eqb-true other profile is)))
    by false is = refl

-- a run of a card alone is one run behind another
pub runs_more : (card : Card) (one other : List CardEvent) (first rest : List Answer)
    (middle after : Card) → RunsAlone card one first middle → RunsAlone middle other rest after
    → RunsAlone card (one ++ other) (first ++ rest) after
runs_more card [] other first rest middle after runs more =
    subst (λ (its : List Answer). RunsAlone card other (its ++ rest) after) (sym runs.0)
    (subst (λ (its : Card). RunsAlone its other rest after) runs.1 more)
runs_more card (event ∷ one) other first rest middle after runs more = (
  runs.0,
  runs.1 ++ rest,
  runs.2,
  runs_more runs.0.card one other runs.1 rest middle after runs.3 more,
  ap (λ (its : List Answer). its ++ rest) runs.4
      ∙ append_assoc (answer_list runs.0.answer) runs.1 rest,
)

pub runs_silent : (card after : Card) (event : CardEvent) → Steps card event (silent after)
    → RunsAlone card (event ∷ []) [] after
runs_silent card after event step = (silent after, [], step, (refl, refl), refl)

pub runs_answered : (card : Card) (event : CardEvent) (outcome : Outcome) (answer : Answer)
    → Steps card event outcome → outcome.answer ≡ Some answer
    → RunsAlone card (event ∷ []) (answer ∷ []) outcome.card
runs_answered card event outcome answer step is = (
  outcome,
  [],
  step,
  (refl, refl),
  ap (λ (its : Option Answer). answer_list its ++ []) (sym is),
)

-- on no port only a new one counts
pub steps_nowhere : (card : Card) (event : CardEvent) (outcome : Outcome) → card.port ≡ None
    → StepsAt None card event outcome → Steps card event outcome
steps_nowhere card event outcome is step =
    subst (λ (port : Option ℕ). StepsAt port card event outcome) (sym is) step

module _ (profile : ℕ) (content : Content) where
  -- the card of the profile alone now; a profile that isn't installed yet has that content
  pub record IsNow (state : WorldState) (card : Card) : Type 0 where
    pub its : IsCardOf profile state card
    pub pending : state.durable.heads.next_number ≤ profile → card.content ≡ content

  -- a step gives the profile a share, and its card alone comes by it to what is the profile's then
  abbrev pub Goes : Stepped → Card → Type 0
  Goes step card =
      (share : Share) × (after : Card) × Shares profile step share
      × RunsAlone card share.given share.answers after × IsNow step.made.state after

  pub goes : (step : Stepped) (card after : Card) (own : Share) (lines : List CardEvent)
      → SharesOwn profile step step.failed own → lines_given profile step ≡ lines
      → RunsAlone card (own.given ++ lines) (own.answers ++ []) after
      → IsNow step.made.state after → Goes step card
  goes step card after own lines is given runs now = (
    joined_share own (record { given = lines_given profile step; answers = [] }),
    after,
    (own, is, refl),
    subst (λ (its : List CardEvent). RunsAlone card (own.given ++ its) (own.answers ++ []) after)
        (sym given) runs,
    now,
  )

  -- nothing comes to the profile
  pub goes_quiet : (step : Stepped) (card : Card) → SharesOwn profile step step.failed no_share
      → lines_given profile step ≡ [] → IsNow step.made.state card → Goes step card
  goes_quiet step card is none now = goes step card card no_share [] is none (refl, refl) now

  -- a line tells of one event
  pub goes_told : (step : Stepped) (card after : Card) (event : CardEvent)
      → SharesOwn profile step step.failed no_share
      → lines_given profile step ≡ event ∷ [] → Steps card event (silent after)
      → IsNow step.made.state after → Goes step card
  goes_told step card after event is told steps now =
      goes step card after no_share (event ∷ []) is told (runs_silent card after event steps) now

  -- the statement is such an event
  pub goes_given : (step : Stepped) (card after : Card) (event : CardEvent)
      → SharesOwn profile step step.failed (record { given = event ∷ []; answers = [] })
      → lines_given profile step ≡ [] → Steps card event (silent after)
      → IsNow step.made.state after → Goes step card
  goes_given step card after event is none steps now =
      goes step card after (record { given = event ∷ []; answers = [] }) [] is none
      (runs_silent card after event steps) now

  -- or it is a command that the profile's card answers
  pub goes_answered : (step : Stepped) (card : Card) (event : CardEvent) (outcome : Outcome)
      (answer : Answer)
      → SharesOwn profile step step.failed
      (record { given = event ∷ []; answers = answer ∷ [] })
      → lines_given profile step ≡ [] → Steps card event outcome
      → outcome.answer ≡ Some answer → IsNow step.made.state outcome.card → Goes step card
  goes_answered step card event outcome answer is none steps answered now =
      goes step card outcome.card (record { given = event ∷ []; answers = answer ∷ [] }) [] is none
      (runs_answered card event outcome answer steps answered) now

  -- what comes to a port is of the profile that stands there
  pub bytes_here : (step : Stepped) (port : ℕ) (bytes : List ℕ) (share : Share)
      → profile_on step.before.durable port ≡ Some profile → SharesBytes step port bytes share
      → SharesAt profile (profile_on step.before.durable port) step port bytes share
  bytes_here step port bytes share on is =
      subst (λ (its : Option ℕ). SharesAt profile its step port bytes share) (sym on)
      (inl (refl, is))

  pub bytes_not_here : (step : Stepped) (port : ℕ) (bytes : List ℕ)
      → profile_on step.before.durable port ≢ Some profile
      → SharesAt profile (profile_on step.before.durable port) step port bytes no_share
  bytes_not_here step port bytes = by (profile_on step.before.durable port)
    where
      by : (on : Option ℕ) → on ≢ Some profile
          → SharesAt profile on step port bytes no_share
      by None apart = refl
      by (Some other) apart = inr (λ same. apart (ap (λ (n : ℕ). Some n) same), refl)

  -- the card of a profile on a port is the card there
  pub now_at : (state : WorldState) (card : Card) (port : ℕ) → IsDurable state.durable
      → profile_on state.durable port ≡ Some profile → card ≡ card_in state port
      → IsNow state card
  now_at state card port are on is = record {
    its = inl (port, on, is);
    pending = λ low. absurd (standing_below state.durable are profile port on low);
  }

  module _ (state : WorldState) where
    -- nothing of the profile changes
    pub record Leaves (now : WorldState) : Type 0 where
      pub ports : now.durable.heads.ports ≡ state.durable.heads.ports
      pub next : state.durable.heads.next_number ≤ now.durable.heads.next_number
      pub cards : (port : ℕ) → profile_on state.durable port ≡ Some profile
          → card_in now port ≡ card_in state port
      pub held : ((port : ℕ) → profile_on state.durable port ≢ Some profile) → (its : Content)
          → held_content profile now.durable ≡ Some its
          → held_content profile state.durable ≡ Some its

    pub stays : (now : WorldState) (card : Card) → Leaves now → IsNow state card
        → IsNow now card
    stays now card leaves is = record {
      its = by is.its;
      pending = λ low.
          let le : state.durable.heads.next_number ≤ now.durable.heads.next_number =
          leaves.next in
          is.pending (omega (arith, le, low));
    }
      where
        on_is : (port : ℕ) → profile_on now.durable port ≡ profile_on state.durable port
        on_is port =
            ap (λ (its : Ports). slice_index_or its.on port None) leaves.ports

        by : IsCardOf profile state card → IsCardOf profile now card
        by (inl at) =
            inl (at.0, on_is at.0 ∙ at.1, at.2 ∙ sym (leaves.cards at.0 at.1))
        by (inr none) = inr (record {
          nowhere = λ port on. none.nowhere port (sym (on_is port) ∙ on);
          port = none.port;
          mode = none.mode ∙ ap (λ (its : Ports). its.mode) (sym leaves.ports);
          content = λ its held. none.content its (leaves.held none.nowhere its held);
        })

    -- a statement that changes no session and nothing that is kept
    pub leaves_all : (now : WorldState) → now.durable ≡ state.durable
        → ((port : ℕ) → (port_in now port).session ≡ (port_in state port).session)
        → Leaves now
    leaves_all now kept sessions = record {
      ports = ap (λ (its : Durable). its.heads.ports) kept;
      next =
          let same : now.durable.heads.next_number ≡ state.durable.heads.next_number =
          ap (λ (its : Durable). its.heads.next_number) kept in omega (arith, same);
      cards = λ port on.
          ap (λ (its : Durable). card_on its port (port_in now port).session) kept
          ∙ ap (card_on state.durable port) (sessions port);
      held = λ nowhere its held. ap (held_content profile) (sym kept) ∙ held;
    }
