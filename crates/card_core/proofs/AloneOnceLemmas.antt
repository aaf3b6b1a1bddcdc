-- What a profile is given decides its answers.
use Rattle.std.proofs.Common.{◌≡◌, ℕ, Bool, true, false, List, [], ◌∷◌, ◌++◌, Option, Some, None}
use Rattle.std.proofs.Common.{sym}
use Rattle.std.proofs.Common.{◌∙◌, ap, subst, inl, inr}
use Rattle.apdu_codec.proofs.MeaningLemmas.{Spells-once}
use Rattle.apdu_codec.specs.declared.answers.Answer.{Answer}
use Rattle.profile_card.proofs.RunLemmas.{Steps-once}
use Rattle.profile_card.specs.Card.{Card}
use Rattle.profile_card.specs.Step.{Event as CardEvent, Outcome}
use Rattle.card_core.specs.Alone.{IsAnsweredAlone, RunsAlone, StartsAlone, answer_list}
use Rattle.card_core.specs.Fed.{IsFed, IsToldAlone, seen_by}
use Rattle.card_core.specs.Share.{AreShares, IsBytesShare, IsEventShare, IsOwnShare, IsShare}
use Rattle.card_core.specs.Share.{IsShareAt, Seen, Share, command_share, given_by_lines}
use Rattle.card_core.specs.Share.{joined_share, seen_in}
use Rattle.card_core.specs.Stepped.{Stepped}
use Rattle.card_core.specs.Told.{Told, has_failed, told_of}
use Rattle.card_core.specs.World.{WorldState}
use Rattle.card_core.specs.declared.entry.Entry.{Entry}
use Rattle.card_core.specs.declared.event.Event.{Event}
use Rattle.card_core.specs.declared.event.Event.TheVariants as events

-- what is told gives a profile one share
module _ (seen : Seen) (entries : List Entry) where
  bytes_once : (port : ℕ) (bytes : List ℕ) (one other : Share)
      → IsBytesShare seen entries port bytes one → IsBytesShare seen entries port bytes other
      → one ≡ other
  bytes_once port bytes one other (inl is) (inl its) =
      is.2 ∙ ap (command_share seen entries port bytes) (Spells-once bytes is.0 its.0 is.1 its.1)
      ∙ sym its.2
  bytes_once port bytes one other (inl is) (inr none) = absurd (none.0 is.0 is.1)
  bytes_once port bytes one other (inr none) (inl its) = absurd (none.0 its.0 its.1)
  bytes_once port bytes one other (inr none) (inr its) = none.1 ∙ sym its.1

  at_once : (profile : ℕ) (on : Option ℕ) (port : ℕ) (bytes : List ℕ) (one other : Share)
      → IsShareAt profile on seen entries port bytes one
      → IsShareAt profile on seen entries port bytes other → one ≡ other
  at_once profile None port bytes one other is its = is ∙ sym its
  at_once profile (Some there) port bytes one other (inl is) (inl its) =
      bytes_once port bytes one other is.1 its.1
  at_once profile (Some there) port bytes one other (inl is) (inr its) = absurd (its.0 is.0)
  at_once profile (Some there) port bytes one other (inr is) (inl its) = absurd (is.0 its.0)
  at_once profile (Some there) port bytes one other (inr is) (inr its) = is.1 ∙ sym its.1

  event_once : (profile : ℕ) (event : Event) (one other : Share)
      → IsEventShare profile seen entries event one
      → IsEventShare profile seen entries event other → one ≡ other
  event_once profile (events.Apdu port bytes) one other is its =
      at_once profile (seen.on port) port bytes one other is its
  event_once profile (events.Reset port) one other is its = is ∙ sym its
  event_once profile (events.Load port its_step) one other is its = is ∙ sym its
  event_once profile events.Power one other is its = is ∙ sym its

own_once : (profile : ℕ) (seen : Seen) (told : Told) (failed : Bool) (one other : Share)
    → IsOwnShare profile seen told failed one → IsOwnShare profile seen told failed other
    → one ≡ other
own_once profile seen told false one other is its =
    event_once seen told.entries profile told.event one other is its
own_once profile seen told true one other is its = is ∙ sym its

share_once : (profile : ℕ) (seen : Seen) (told : Told) (failed : Bool) (one other : Share)
    → IsShare profile seen told failed one → IsShare profile seen told failed other → one ≡ other
share_once profile seen told failed one other is its =
    let lines : Share =
    record { given = given_by_lines profile seen told.entries; answers = [] } in
    is.2 ∙ ap (λ (share : Share). joined_share share lines)
    (own_once profile seen told failed is.0 its.0 is.1 its.1) ∙ sym its.2

-- so does a run
pub AreShares-once : (profile : ℕ) (taken : List Stepped) (one other : Share)
    → AreShares profile taken one → AreShares profile taken other → one ≡ other
AreShares-once profile [] one other is its = is ∙ sym its
AreShares-once profile (step ∷ taken) one other is its =
    let first : is.0 ≡ its.0 =
    share_once profile (seen_in step.before) (told_of step) step.failed is.0 its.0 is.2 its.2 in
    let rest : is.1 ≡ its.1 = AreShares-once profile taken is.1 its.1 is.3 its.3 in
    is.4 ∙ ap (λ (share : Share). joined_share share is.1) first
    ∙ ap (joined_share its.0) rest ∙ sym its.4

-- a card alone answers the same events alike
pub RunsAlone-once : (card : Card) (given : List CardEvent) (one other : List Answer)
    (last another : Card) → RunsAlone card given one last → RunsAlone card given other another
    → (one ≡ other) × (last ≡ another)
RunsAlone-once card [] one other last another runs its =
    (runs.0 ∙ sym its.0, runs.1 ∙ sym its.1)
RunsAlone-once card (event ∷ given) one other last another runs its =
    let same : runs.0 ≡ its.0 = Steps-once card event runs.0 its.0 runs.2 its.2 in
    let rest = RunsAlone-once its.0.card given runs.1 its.1 last another
    (subst (λ (outcome : Outcome). RunsAlone outcome.card given runs.1 last) same runs.3) its.3 in (
      runs.4
          ∙ ap (λ (outcome : Outcome). answer_list outcome.answer ++ runs.1) same
          ∙ ap (λ (answers : List Answer). answer_list its.0.answer ++ answers) rest.0
          ∙ sym its.4,
      rest.1,
    )

-- and so does what is told of a run
pub IsFed-once : (profile ports : ℕ) (card : Card) (told : List Told) (one other : Share)
    → IsFed profile ports card told one → IsFed profile ports card told other → one ≡ other
IsFed-once profile ports card [] one other is its = is ∙ sym its
IsFed-once profile ports card (first ∷ told) one other is its =
    let same : is.0 ≡ its.0 =
    share_once profile (seen_by profile ports card) first (has_failed first) is.0 its.0 is.4
    its.4 in
    let next : is.3 ≡ its.3 =
    (RunsAlone-once card its.0.given is.2 its.2 is.3 its.3
    (subst (λ (share : Share). RunsAlone card share.given is.2 is.3) same is.5) its.5).1 in
    let rest : is.1 ≡ its.1 =
    IsFed-once profile ports its.3 told is.1 its.1
    (subst (λ (now : Card). IsFed profile ports now told is.1) next is.6) its.6 in
    is.7 ∙ ap (λ (share : Share). joined_share share is.1) same
    ∙ ap (joined_share its.0) rest ∙ sym its.7

-- so the same things given to the same card are answered alike in any two runs
given_alike : (card : Card) (share its : Share) (now another : Card)
    → RunsAlone card share.given share.answers now
    → RunsAlone card its.given its.answers another → share.given ≡ its.given
    → share.answers ≡ its.answers
given_alike card share its now another runs its_runs same =
    (RunsAlone-once card its.given share.answers its.answers now another
    (subst (λ (given : List CardEvent). RunsAlone card given share.answers now) same runs)
    its_runs).0

module _ (profile : ℕ) (start other : WorldState) (taken others : List Stepped)
    (after another : WorldState) (card : Card) (share its : Share)
    (starts : StartsAlone profile start taken card)
    (its_starts : StartsAlone profile other others card) where
  pub answers_alike : IsAnsweredAlone profile start taken after
      → IsAnsweredAlone profile other others another → AreShares profile taken share
      → AreShares profile others its → share.given ≡ its.given → share.answers ≡ its.answers
  answers_alike alone its_alone are its_are =
      let runs = alone card starts in
      let its_runs = its_alone card its_starts in
      given_alike card share its runs.1 its_runs.1
      (subst (λ (one : Share). RunsAlone card one.given one.answers runs.1)
      (AreShares-once profile taken runs.0 share runs.2 are) runs.3)
      (subst (λ (one : Share). RunsAlone card one.given one.answers its_runs.1)
      (AreShares-once profile others its_runs.0 its its_runs.2 its_are) its_runs.3)

  -- also by what is told of them
  pub told_alike : (told its_told : List Told) → IsToldAlone profile start taken told after
      → IsToldAlone profile other others its_told another
      → IsFed profile start.durable.heads.ports.count card told share
      → IsFed profile other.durable.heads.ports.count card its_told its
      → share.given ≡ its.given → share.answers ≡ its.answers
  told_alike told its_told alone its_alone fed its_fed =
      let runs = alone card starts in
      let its_runs = its_alone card its_starts in
      given_alike card share its runs.1 its_runs.1
      (subst (λ (one : Share). RunsAlone card one.given one.answers runs.1)
      (IsFed-once profile start.durable.heads.ports.count card told runs.0 share runs.2 fed)
      runs.3)
      (subst (λ (one : Share). RunsAlone card one.given one.answers its_runs.1)
      (IsFed-once profile other.durable.heads.ports.count card its_told its_runs.0 its its_runs.2
      its_fed) its_runs.3)
