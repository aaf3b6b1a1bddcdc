-- The share of a profile in a run, by what its steps show.
use Rattle.std.proofs.Common.{◌≡◌, ◌≢◌, ◌⊎◌, ℕ, Bool, true, false, cond, List, [], ◌∷◌}
use Rattle.std.proofs.Common.{◌++◌}
use Rattle.std.proofs.Common.{flat_map, map, Option, Some, None, slice_index_or, refl, sym, ◌∙◌, ap}
use Rattle.std.proofs.Common.{inl, inr}
use Rattle.std.specs.List.{AllByRecursion}
use Rattle.plain_lists.specs.EachTwo.{EachTwo}
use Rattle.profile_card.specs.Step.{Event as CardEvent}
use Rattle.profile_card.specs.Step.Event.{Reset as Restart}
use Rattle.record_codec.specs.declared.durable.Heads.{Heads}
use Rattle.card_core.proofs.AloneLemmas.{given_not}
use Rattle.card_core.proofs.AloneStepLemmas.{here_or_not}
use Rattle.card_core.proofs.ChangeLemmas.{one_line, ranks}
use Rattle.card_core.proofs.FollowLemmas.{HasOneLine, IsTold, number_of}
use Rattle.card_core.proofs.LocalLemmas.{IsOwnLine}
use Rattle.card_core.proofs.ShownLemmas.{MaySwap, Shown, shown, told_item}
use Rattle.card_core.proofs.SortLemmas.{in_order, is_before, order_each, put}
use Rattle.card_core.proofs.StatementLemmas.{its_port}
use Rattle.card_core.proofs.StepShareLemmas.{SharesAt, SharesEvent, SharesOwn}
use Rattle.card_core.specs.Merge.{ComesToPort}
use Rattle.card_core.specs.Port.{profile_on}
use Rattle.card_core.specs.Share.{AreShares, IsEventShare, IsOwnShare, IsShare, IsShareAt, Seen}
use Rattle.card_core.specs.Share.{Share, given_by_line, given_by_lines, joined_share, no_share}
use Rattle.card_core.specs.Stepped.{Stepped}
use Rattle.card_core.specs.World.{Made, WorldState}
use Rattle.card_core.specs.declared.entry.Entry.{Entry}
use Rattle.card_core.specs.declared.entry.Line.{Line}
use Rattle.card_core.specs.declared.entry.Line.TheVariants as lines
use Rattle.card_core.specs.declared.event.Event.{Event}
use Rattle.card_core.specs.declared.event.Event.TheVariants as events

-- which profile stands on a port
abbrev stands_at : Heads → ℕ → Option ℕ
stands_at heads port = slice_index_or heads.ports.on port None

-- what an item shows of its card
abbrev seen_of : Shown → Seen
seen_of item = record {
  on = λ port. stands_at item.heads port;
  session = λ port. item.here.session;
  ports = item.heads.ports.count;
}

abbrev EventGives : ℕ → Shown → Event → Share → Type 0
EventGives profile item event share =
    IsEventShare profile (seen_of item) item.entries event share

abbrev OwnGives : ℕ → Shown → Event → Bool → Share → Type 0
OwnGives profile item event failed share =
    IsOwnShare profile (seen_of item) (record { event = event; entries = item.entries }) failed
    share

abbrev lines_give : ℕ → Shown → List CardEvent
lines_give profile item = given_by_lines profile (seen_of item) item.entries

-- the share of a profile in an item
abbrev pub Gives : ℕ → Shown → Share → Type 0
Gives profile item share =
    IsShare profile (seen_of item) (told_item item) item.failed share

abbrev pub AllGive : ℕ → List Shown → Share → Type 0
AllGive profile [] share = share ≡ no_share
AllGive profile (item ∷ items) share =
    (first : Share) × (rest : Share) × Gives profile item first × AllGive profile items rest
    × (share ≡ joined_share first rest)

-- a step gives what it shows
module _ (profile : ℕ) (before : WorldState) (failed : Bool) (made : Made) (share : Share) where
  abbrev its_step : Event → Stepped
  its_step event = record { before = before; event = event; failed = failed; made = made }

  at_shows : (port : ℕ) (bytes : List ℕ) (on : Option ℕ)
      → SharesAt profile on (its_step (events.Apdu port bytes)) port bytes share
      → IsShareAt profile on (seen_of (shown (its_step (events.Apdu port bytes)))) made.entries port
      bytes share
  at_shows port bytes None its = its
  at_shows port bytes (Some other) its = its

  at_shown : (port : ℕ) (bytes : List ℕ) (on : Option ℕ)
      → IsShareAt profile on (seen_of (shown (its_step (events.Apdu port bytes)))) made.entries port
      bytes share
      → SharesAt profile on (its_step (events.Apdu port bytes)) port bytes share
  at_shown port bytes None its = its
  at_shown port bytes (Some other) its = its

  event_shows : (event : Event) → SharesEvent profile (its_step event) event share
      → EventGives profile (shown (its_step event)) event share
  event_shows (events.Apdu port bytes) its =
      at_shows port bytes (profile_on before.durable port) its
  event_shows (events.Reset port) its = its
  event_shows (events.Load port step) its = its
  event_shows events.Power its = its

  event_shown : (event : Event) → EventGives profile (shown (its_step event)) event share
      → SharesEvent profile (its_step event) event share
  event_shown (events.Apdu port bytes) its =
      at_shown port bytes (profile_on before.durable port) its
  event_shown (events.Reset port) its = its
  event_shown (events.Load port step) its = its
  event_shown events.Power its = its

module _ (profile : ℕ) where
  own_shows : (step : Stepped) (share : Share) (failed : Bool)
      → SharesOwn profile step failed share → OwnGives profile (shown step) step.event failed share
  own_shows step share false its =
      event_shows profile step.before step.failed step.made share step.event its
  own_shows step share true its = its

  own_shown : (step : Stepped) (share : Share) (failed : Bool)
      → OwnGives profile (shown step) step.event failed share → SharesOwn profile step failed share
  own_shown step share false its =
      event_shown profile step.before step.failed step.made share step.event its
  own_shown step share true its = its

  pub all_show : (taken : List Stepped) (share : Share) → AreShares profile taken share
      → AllGive profile (map shown taken) share
  all_show [] share are = are
  all_show (step ∷ taken) share are = (
    are.0,
    are.1,
    (are.2.0, own_shows step are.2.0 step.failed are.2.1, are.2.2),
    all_show taken are.1 are.3,
    are.4,
  )

  pub all_shown : (taken : List Stepped) (share : Share) → AllGive profile (map shown taken) share
      → AreShares profile taken share
  all_shown [] share give = give
  all_shown (step ∷ taken) share give = (
    give.0,
    give.1,
    (give.2.0, own_shown step give.2.0 step.failed give.2.1, give.2.2),
    all_shown taken give.1 give.3,
    give.4,
  )

  -- an unshared statement gives nothing to a profile that isn't on its port
  at_quiet : (item : Shown) (port : ℕ) (bytes : List ℕ) (share : Share) (on : Option ℕ)
      → on ≢ Some profile → IsShareAt profile on (seen_of item) item.entries port bytes share
      → share ≡ no_share
  at_quiet item port bytes share None apart gives = gives
  at_quiet item port bytes share (Some other) apart (inl its) =
      absurd (apart (ap (λ (n : ℕ). Some n) its.0))
  at_quiet item port bytes share (Some other) apart (inr its) = its.1

  own_quiet : (item : Shown) (event : Event) (failed : Bool) (share : Share) → ComesToPort event
      → stands_at item.heads (its_port event) ≢ Some profile
      → OwnGives profile item event failed share → share ≡ no_share
  own_quiet item event true share comes apart gives = gives
  own_quiet item (events.Apdu port bytes) false share comes apart gives =
      at_quiet item port bytes share (stands_at item.heads port) apart gives
  own_quiet item (events.Reset port) false share comes apart gives = gives
  own_quiet item (events.Load port step) false share comes apart gives = gives
  own_quiet item events.Power false share comes apart gives = absurd comes

  line_quiet : (on : Option ℕ) (port number : ℕ) (line : Line) → IsOwnLine number line
      → on ≢ Some profile → given_by_line profile on port line ≡ []
  line_quiet on port number (lines.Answered its answer cause) own apart = refl
  line_quiet on port number (lines.OwnReset its) own apart =
      given_not profile on (Restart ∷ []) apart
  line_quiet on port number (lines.Loaded its outcome) own apart = refl
  line_quiet on port number (lines.ForeignReset maker) own apart = absurd own
  line_quiet on port number (lines.Unbound other refresh kept maker commit) own apart = absurd own
  line_quiet on port number (lines.Bound other refresh kept maker commit) own apart = absurd own

  item_quiet : (item : Shown) (share : Share) → ComesToPort item.event → HasOneLine item
      → stands_at item.heads (its_port item.event) ≢ Some profile → Gives profile item share
      → share ≡ no_share
  item_quiet item share comes one apart gives =
      gives.2
      ∙ ap (λ (own : Share). joined_share own (record {
        given = lines_give profile item;
        answers = [];
      })) (own_quiet item item.event item.failed gives.0 comes apart gives.1)
      ∙ ap (λ (given : List CardEvent). joined_share no_share (record {
        given = given;
        answers = [];
      })) none
    where
      none : lines_give profile item ≡ []
      none =
          ap (λ (entries : List Entry). flat_map (λ entry. given_by_line profile
          (stands_at item.heads entry.port) entry.port entry.line) entries) one.are
          ∙ ap (λ (given : List CardEvent). given ++ [])
          (line_quiet (stands_at item.heads (its_port item.event)) (its_port item.event)
          (number_of item) one.line one.own apart)

  -- of two items one gives the profile nothing
  abbrev pub OneQuiet : Shown → Shown → Type 0
  OneQuiet one other = (first second : Share) → Gives profile one first
      → Gives profile other second → (first ≡ no_share) ⊎ (second ≡ no_share)

  pub one_quiet : (count : ℕ) (one other : Shown) → IsTold count one → IsTold count other
      → ComesToPort one.event → ComesToPort other.event → MaySwap one other
      → other.heads ≡ one.heads → OneQuiet one other
  one_quiet count one other told its comes comes_too may same first second gives also =
      elim (here_or_not profile (stands_at one.heads (its_port one.event))) [
        | inl here ↦ inr (item_quiet other second comes_too (one_line count other its may.second)
            (λ there. may.apart (told.once profile (its_port one.event) (its_port other.event) here
            (ap (λ (heads : Heads). stands_at heads (its_port other.event)) (sym same) ∙ there)))
            also)
        | inr away ↦ inl (item_quiet one first comes (one_line count one told may.first) away
            gives)
      ]

  shares_swap : (one other rest : Share) → (one ≡ no_share) ⊎ (other ≡ no_share)
      → joined_share one (joined_share other rest) ≡ joined_share other (joined_share one rest)
  shares_swap one other rest (inl none) =
      ap (λ (its : Share). joined_share its (joined_share other rest)) none
      ∙ ap (λ (its : Share). joined_share other (joined_share its rest)) (sym none)
  shares_swap one other rest (inr none) =
      ap (λ (its : Share). joined_share one (joined_share its rest)) none
      ∙ ap (λ (its : Share). joined_share its (joined_share one rest)) (sym none)

  module _ (phases : List (List Event)) where
    abbrev pub QuietSwaps : Shown → Shown → Type 0
    QuietSwaps one other = is_before (ranks phases) other one ≡ true → OneQuiet one other

    put_give : (item : Shown) (items : List Shown) (share : Share)
        → AllByRecursion (QuietSwaps item) items → AllGive profile (item ∷ items) share
        → AllGive profile (put (ranks phases) item items) share
    put_give item [] share swaps give = give
    put_give item (other ∷ items) share swaps give =
        by (is_before (ranks phases) other item) refl
        (put_give item items (joined_share give.0 give.3.1) swaps.1
        (give.0, give.3.1, give.2, give.3.3, refl))
      where
        by : (before : Bool) → is_before (ranks phases) other item ≡ before
            → AllGive profile (put (ranks phases) item items) (joined_share give.0 give.3.1)
            → AllGive profile
            (cond before (other ∷ put (ranks phases) item items) (item ∷ other ∷ items)) share
        by true is rest = (
          give.3.0,
          joined_share give.0 give.3.1,
          give.3.2,
          rest,
          give.4 ∙ ap (joined_share give.0) give.3.4
              ∙ shares_swap give.0 give.3.0 give.3.1
              (swaps.0 is give.0 give.3.0 give.2 give.3.2),
        )
        by false is rest = give

    -- in order the items give the same
    pub order_give : (items : List Shown) (share : Share) → EachTwo QuietSwaps items
        → AllGive profile items share → AllGive profile (in_order (ranks phases) items) share
    order_give [] share swaps give = give
    order_give (item ∷ items) share swaps give =
        put_give item (in_order (ranks phases) items) share
        (order_each (ranks phases) (QuietSwaps item) items swaps.0)
        (give.0, give.1, give.2, order_give items give.1 swaps.1 give.3, give.4)
