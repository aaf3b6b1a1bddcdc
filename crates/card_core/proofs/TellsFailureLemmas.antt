-- The lines of a statement tell whether it failed, wherever that counts for a profile.
use Rattle.std.proofs.Common.{◌≡◌, ◌⊎◌, ℕ, Bool, true, false, cond, nat_eq, List, [], ◌∷◌, Option}
use Rattle.std.proofs.Common.{Some, None, Result, Ok, Err, refl, sym, ◌∙◌, ap, subst, inl, inr}
use Rattle.std.specs.List.{list_any}
use Rattle.std.specs.Prelude.{◌||◌}
use Rattle.apdu_codec.proofs.MeaningLemmas.{Spells-once}
use Rattle.apdu_codec.specs.Answer.{status_alone}
use Rattle.apdu_codec.specs.Command.{Apdu, Spells, refusal}
use Rattle.apdu_codec.specs.declared.status.Sw.{Sw}
use Rattle.lsi_refresh.specs.Lsi.{lsi_of}
use Rattle.lsi_refresh.specs.declared.lsi.Lsi.{Lsi}
use Rattle.lsi_refresh.specs.declared.lsi.Lsi.TheVariants as lsi
use Rattle.profile_card.proofs.FailingLemmas.{fine_decision, fine_refusal}
use Rattle.profile_card.specs.Commands.{decision}
use Rattle.profile_card.specs.Failing.{is_failing}
use Rattle.profile_card.specs.Own.{is_common}
use Rattle.profile_card.specs.Step.Event.{Command}
use Rattle.card_core.proofs.SoundLemmas.{sound_card}
use Rattle.card_core.specs.Failed.{failed_answer}
use Rattle.card_core.specs.IsdrCommand.{isdr_made}
use Rattle.card_core.specs.ManageLsi.{lsi_asked_for, lsi_made}
use Rattle.card_core.specs.OwnCommand.{own_made}
use Rattle.card_core.specs.Port.{profile_on}
use Rattle.card_core.specs.Share.{IsBytesShare, IsEventShare, IsOwnShare, IsShare, IsShareAt, Seen}
use Rattle.card_core.specs.Share.{Share, answers_in, command_share, given_by_lsi, no_share, seen_in}
use Rattle.card_core.specs.Sound.{IsSoundState}
use Rattle.card_core.specs.Statements.{AnswersBytes, command_made}
use Rattle.card_core.specs.Stepped.{Happens}
use Rattle.card_core.specs.Told.{Told, has_failed, tells_failure}
use Rattle.card_core.specs.World.{Made, WorldState, answered_alone, card_in, next_maker, port_in}
use Rattle.card_core.specs.declared.entry.Cause.{Cause}
use Rattle.card_core.specs.declared.entry.Entry.{Entry}
use Rattle.card_core.specs.declared.entry.Line.TheVariants.{ForeignReset}
use Rattle.card_core.specs.declared.event.Event.{Event}
use Rattle.card_core.specs.declared.event.Event.TheVariants as events

says_failed : (cause : Option Cause) → is_failing (failed_answer cause).sw ≡ true
says_failed None = refl
says_failed (Some cause) = refl

or_false : (its : Bool) → its ≡ false → (its || false) ≡ false
or_false its is = ap (λ (one : Bool). one || false) is

module _ (profile : ℕ) (state : WorldState) (sound : IsSoundState state) where
  abbrev seen : Seen
  seen = seen_in state

  abbrev told : Event → Made → Told
  told event made = record { event = event; entries = made.entries }

  -- what isn't the profile's is so whether it failed or not
  either : (event : Event) (made : Made) (failed : Bool) (own : Share)
      → IsEventShare profile seen made.entries event own → own ≡ no_share
      → IsOwnShare profile seen (told event made) failed own
  either event made true own is none = none
  either event made false own is none = is

  -- what is the profile's of a statement that didn't fail
  abbrev Tells : Event → Made → Type 0
  Tells event made = (own : Share) → IsEventShare profile seen made.entries event own
      → IsOwnShare profile seen (told event made) (has_failed (told event made)) own

  not_failed : (event : Event) (made : Made) → has_failed (told event made) ≡ false
      → Tells event made
  not_failed event made none own is =
      subst (λ (failed : Bool). IsOwnShare profile seen (told event made) failed own) (sym none) is

  module _ (port : ℕ) (bytes : List ℕ) where
    abbrev event : Event
    event = events.Apdu port bytes

    -- bytes that come to the profile's port; elsewhere they give it nothing
    by_place : (made : Made) → ((own : Share) → IsBytesShare seen made.entries port bytes own
        → (has_failed (told event made) ≡ false) ⊎ (own ≡ no_share)) → Tells event made
    by_place made so own is = place (profile_on state.durable port) is
      where
        known : (has_failed (told event made) ≡ false) ⊎ (own ≡ no_share)
            → IsOwnShare profile seen (told event made) (has_failed (told event made)) own
        known (inl none) = not_failed event made none own is
        known (inr none) = either event made (has_failed (told event made)) own is none

        place : (on : Option ℕ) → IsShareAt profile on seen made.entries port bytes own
            → IsOwnShare profile seen (told event made) (has_failed (told event made)) own
        place None none = known (inr none)
        place (Some other) (inl its) = known (so own its.1)
        place (Some other) (inr its) = known (inr its.1)

    module _ (c : Apdu) (spelled : Spells bytes c) where
      share_is : (entries : List Entry) (own : Share) → IsBytesShare seen entries port bytes own
          → own ≡ command_share seen entries port bytes c
      share_is entries own (inl its) =
          its.2 ∙ ap (command_share seen entries port bytes)
          (Spells-once bytes its.0 c its.1 spelled)
      share_is entries own (inr none) = absurd (none.0 c spelled)

      -- the common part's answers are nobody's
      common_share : (entries : List Entry) → is_common (port_in state port).session c ≡ true
          → command_share seen entries port bytes c ≡ record {
            given = cond (nat_eq c.ins 0x7A)
                (given_by_lsi port (lsi_of c state.durable.heads.ports.count)) [];
            answers = [];
          }
      common_share entries is =
          ap (λ (common : Bool). cond common (record {
            given = cond (nat_eq c.ins 0x7A)
                (given_by_lsi port (lsi_of c state.durable.heads.ports.count)) [];
            answers = [];
          }) (record { given = Command bytes ∷ []; answers = answers_in entries })) is

      lsi_tells : is_common (port_in state port).session c ≡ true → nat_eq c.ins 0x7A ≡ true
          → (asked : Result Lsi Sw) → lsi_of c state.durable.heads.ports.count ≡ asked
          → (own : Share)
          → IsBytesShare seen (lsi_asked_for state port asked).entries port bytes own
          → (has_failed (told event (lsi_asked_for state port asked)) ≡ false)
          ⊎ (own ≡ no_share)
      lsi_tells common is_lsi (Ok lsi.Count) is own its = inl refl
      lsi_tells common is_lsi (Ok (lsi.Reset other)) is own its = inl (foreign (nat_eq other port))
        where
          line : Entry
          line = record {
            turn = state.shared;
            port = other;
            line = ForeignReset
                (next_maker state port);
          }

          foreign : (here : Bool)
              → list_any (λ entry. tells_failure entry.line) (cond here [] (line ∷ [])) ≡ false
          foreign true = refl
          foreign false = refl
      lsi_tells common is_lsi (Err sw) is own its =
          inr (share_is (lsi_asked_for state port (Err sw)).entries own its
          ∙ common_share (lsi_asked_for state port (Err sw)).entries common
          ∙ ap (λ (here : Bool). record {
            given = cond here
                (given_by_lsi port (lsi_of c state.durable.heads.ports.count)) [];
            answers = [];
          }) is_lsi
          ∙ ap (λ (asked : Result Lsi Sw). record {
            given = given_by_lsi port asked;
            answers = [];
          }) is)

      command_tells : Tells event (command_made state port c)
      command_tells =
          by (is_common (port_in state port).session c) (nat_eq c.ins 0x7A) refl refl
        where
          by : (common is_lsi : Bool) → is_common (port_in state port).session c ≡ common
              → nat_eq c.ins 0x7A ≡ is_lsi
              → Tells event (cond common (cond is_lsi (lsi_made state port c)
              (isdr_made state port c)) (own_made state port c))
          by true true common is_lsi =
              by_place (lsi_made state port c)
              (lsi_tells common is_lsi (lsi_of c state.durable.heads.ports.count) refl)
          by true false common is_lsi =
              by_place (isdr_made state port c)
              (λ own its. inr (share_is (isdr_made state port c).entries own its
              ∙ common_share (isdr_made state port c).entries common
              ∙ ap (λ (here : Bool). record {
                given = cond here
                    (given_by_lsi port (lsi_of c state.durable.heads.ports.count)) [];
                answers = [];
              }) is_lsi))
          by false is_lsi own is =
              not_failed event (own_made state port c)
              (or_false (is_failing (decision (card_in state port) c).answer.sw)
              (fine_decision (card_in state port) (sound_card state sound port) c))

    bytes_tell : (made : Made) → AnswersBytes state port bytes made → Tells event made
    bytes_tell made (inl spelled) =
        subst (Tells event) (sym spelled.2) (command_tells spelled.0 spelled.1)
    bytes_tell made (inr none) =
        subst (Tells event) (sym none.1)
        (not_failed event (answered_alone state port (status_alone (refusal bytes)))
        (or_false (is_failing (refusal bytes)) (fine_refusal bytes)))

  -- the own share of a profile, by the lines
  pub own_tells_failure : (event : Event) (failed : Bool) (made : Made)
      → Happens failed state event made → (own : Share)
      → IsOwnShare profile seen (told event made) failed own
      → IsOwnShare profile seen (told event made) (has_failed (told event made)) own
  own_tells_failure (events.Apdu port bytes) false made is own its =
      bytes_tell port bytes made is own its
  own_tells_failure (events.Reset port) false made is own its =
      either (events.Reset port) made (has_failed (told (events.Reset port) made)) own its its
  own_tells_failure (events.Load port step) false made is own its =
      either (events.Load port step) made (has_failed (told (events.Load port step) made)) own its
      its
  own_tells_failure events.Power false made is own its =
      not_failed events.Power made
      (ap (λ (its : Made). has_failed (told events.Power its)) is) own its
  own_tells_failure (events.Apdu port bytes) true made is own its =
      subst (λ (failed : Bool). IsOwnShare profile seen (told (events.Apdu port bytes) made)
      failed own) (sym failed) its
    where
      failed : has_failed (told (events.Apdu port bytes) made) ≡ true
      failed =
          ap (λ (its : Made). has_failed (told (events.Apdu port bytes) its)) is.3
          ∙ ap (λ (one : Bool). one || false) (says_failed is.1)
  own_tells_failure (events.Reset port) true made is own its = absurd is
  own_tells_failure (events.Load port step) true made is own its =
      either (events.Load port step) made (has_failed (told (events.Load port step) made)) own its
      its
  own_tells_failure events.Power true made is own its = absurd is

  -- the share of a profile in a step, by its lines alone
  pub share_tells_failure : (event : Event) (failed : Bool) (made : Made)
      → Happens failed state event made → (share : Share)
      → IsShare profile seen (told event made) failed share
      → IsShare profile seen (told event made) (has_failed (told event made)) share
  share_tells_failure event failed made is share its =
      (its.0, own_tells_failure event failed made is its.0 its.1, its.2)
