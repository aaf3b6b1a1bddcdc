-- What a step gives a profile is what is told of it feeds the profile's card.
use Rattle.std.proofs.Common.{◌≡◌, ◌≢◌, ℕ, Bool, true, false, cond, nat_eq, List, [], ◌∷◌}
use Rattle.std.proofs.Common.{◌++◌, Option, Some, None, refl, sym, ◌∙◌, ap, subst, inl, inr}
use Rattle.std.proofs.Common.{eqb-true}
use Rattle.std.proofs.lemmas.Bool.{eq-eqb}
use Rattle.profile_card.specs.Card.{Card}
use Rattle.profile_card.specs.Step.{Event as CardEvent}
use Rattle.profile_card.specs.Step.Event.{Reset as Restart}
use Rattle.record_codec.specs.IsDurable.{IsDurable}
use Rattle.uicc_channels.specs.declared.session.Session.{Session}
use Rattle.card_core.proofs.AloneLemmas.{given_here, given_not, one_port}
use Rattle.card_core.proofs.AloneStepLemmas.{here_or_not}
use Rattle.card_core.specs.Alone.{IsCardOf}
use Rattle.card_core.specs.Fed.{seen_by, stands_where}
use Rattle.card_core.specs.Port.{profile_on}
use Rattle.card_core.specs.Share.{IsBytesShare, IsEventShare, IsOwnShare, IsShare, IsShareAt}
use Rattle.card_core.specs.Share.{Seen, Share, command_share, given_by_entry, given_by_line}
use Rattle.card_core.specs.Share.{given_by_lines, given_there, joined_share, no_share, seen_in}
use Rattle.card_core.specs.Told.{Told}
use Rattle.card_core.specs.World.{WorldState, port_in}
use Rattle.card_core.specs.declared.entry.Entry.{Entry}
use Rattle.card_core.specs.declared.entry.Line.{Line}
use Rattle.card_core.specs.declared.entry.Line.TheVariants as lines
use Rattle.card_core.specs.declared.event.Event.{Event}
use Rattle.card_core.specs.declared.event.Event.TheVariants as events

-- two views in which a profile stands on the same ports, with the same session there
pub record ShowSame (profile : ℕ) (one other : Seen) : Type 0 where
  pub here : (port : ℕ) → one.on port ≡ Some profile → other.on port ≡ Some profile
  pub away : (port : ℕ) → one.on port ≢ Some profile → other.on port ≢ Some profile
  pub session : (port : ℕ) → one.on port ≡ Some profile → one.session port ≡ other.session port
  pub ports : one.ports ≡ other.ports

module _ (profile : ℕ) (one other : Seen) (same : ShowSame profile one other) where
  there_alike : (port : ℕ) (given : List CardEvent)
      → given_there profile (one.on port) given ≡ given_there profile (other.on port) given
  there_alike port given = elim (here_or_not profile (one.on port)) [
    | inl here ↦ given_here profile (one.on port) given here
        ∙ sym (given_here profile (other.on port) given (same.here port here))
    | inr away ↦ given_not profile (one.on port) given away
        ∙ sym (given_not profile (other.on port) given (same.away port away))
  ]

  line_alike : (place port : ℕ) (line : Line)
      → given_by_line profile (one.on place) port line
      ≡ given_by_line profile (other.on place) port line
  line_alike place port (lines.Answered number answer cause) = refl
  line_alike place port (lines.OwnReset number) = there_alike place (Restart ∷ [])
  line_alike place port (lines.Loaded number outcome) = refl
  line_alike place port (lines.ForeignReset by) = there_alike place (Restart ∷ [])
  line_alike place port (lines.Unbound its refresh kept by commit) = refl
  line_alike place port (lines.Bound its refresh kept by commit) = refl

  lines_alike : (entries : List Entry)
      → given_by_lines profile one entries ≡ given_by_lines profile other entries
  lines_alike [] = refl
  lines_alike (entry ∷ entries) =
      ap (λ (its : List CardEvent). its ++ given_by_lines profile one entries)
      (line_alike entry.port entry.port entry.line)
      ∙ ap (λ (its : List CardEvent). given_by_entry profile other entry ++ its)
      (lines_alike entries)

  -- bytes at a port where the profile stands
  bytes_alike : (entries : List Entry) (port : ℕ) (bytes : List ℕ) (share : Share)
      → one.on port ≡ Some profile → IsBytesShare one entries port bytes share
      → IsBytesShare other entries port bytes share
  bytes_alike entries port bytes share here (inl spelled) =
      inl (
        spelled.0,
        spelled.1,
        spelled.2
            ∙ ap (λ (session : Session). command_share (record {
              on = one.on;
              session = λ place. session;
              ports = one.ports;
            }) entries port bytes spelled.0) (same.session port here)
            ∙ ap (λ (n : ℕ). command_share (record {
              on = one.on;
              session = λ place. other.session port;
              ports = n;
            }) entries port bytes spelled.0) same.ports,
      )
  bytes_alike entries port bytes share here (inr none) = inr none

  at_alike : (entries : List Entry) (port : ℕ) (bytes : List ℕ) (share : Share)
      → IsShareAt profile (one.on port) one entries port bytes share
      → IsShareAt profile (other.on port) other entries port bytes share
  at_alike entries port bytes share is = elim (here_or_not profile (one.on port)) [
    | inl here ↦ subst (λ (on : Option ℕ). IsShareAt profile on other entries port bytes share)
        (sym (same.here port here))
        (inl (
          refl,
          bytes_alike entries port bytes share here
              (its_bytes (one.on port) here is),
        ))
    | inr away ↦ not_its (other.on port) (same.away port away) (its_none (one.on port) away is)
  ]
    where
      its_bytes : (on : Option ℕ) → on ≡ Some profile
          → IsShareAt profile on one entries port bytes share
          → IsBytesShare one entries port bytes share
      its_bytes None here its = absurd cc
      its_bytes (Some there) here (inl its) = its.1
      its_bytes (Some there) here (inr its) = absurd (its.0 (cc))

      its_none : (on : Option ℕ) → on ≢ Some profile
          → IsShareAt profile on one entries port bytes share → share ≡ no_share
      its_none None away its = its
      its_none (Some there) away (inl its) = absurd (away (ap (λ (n : ℕ). Some n) its.0))
      its_none (Some there) away (inr its) = its.1

      not_its : (on : Option ℕ) → on ≢ Some profile → share ≡ no_share
          → IsShareAt profile on other entries port bytes share
      not_its None away none = none
      not_its (Some there) away none = inr (λ its. away (ap (λ (n : ℕ). Some n) its), none)

  event_alike : (entries : List Entry) (event : Event) (share : Share)
      → IsEventShare profile one entries event share
      → IsEventShare profile other entries event share
  event_alike entries (events.Apdu port bytes) share is = at_alike entries port bytes share is
  event_alike entries (events.Reset port) share is = is
  event_alike entries (events.Load port step) share is = is
  event_alike entries events.Power share is = is

  own_alike : (told : Told) (failed : Bool) (share : Share)
      → IsOwnShare profile one told failed share → IsOwnShare profile other told failed share
  own_alike told false share is = event_alike told.entries told.event share is
  own_alike told true share is = is

  -- what is told gives the profile the same
  pub share_alike : (told : Told) (failed : Bool) (share : Share)
      → IsShare profile one told failed share → IsShare profile other told failed share
  share_alike told failed share is = (
    is.0,
    own_alike told failed is.0 is.1,
    is.2
        ∙ ap (λ (given : List CardEvent). joined_share is.0
        (record { given = given; answers = [] })) (lines_alike told.entries),
  )

-- the card of the profile alone shows what the whole card does
module _ (profile : ℕ) (state : WorldState) (are : IsDurable state.durable) (card : Card)
    (its : IsCardOf profile state card) where
  stands_here : (place port : ℕ) → place ≡ port
      → stands_where profile (Some place) port ≡ Some profile
  stands_here place port same =
      ap (λ (here : Bool). cond here (Some profile) None) (eq-eqb place port same)

  stands_only : (place port : ℕ) → stands_where profile (Some place) port ≡ Some profile
      → place ≡ port
  stands_only place port = by (nat_eq place port) refl
    where
      by : (here : Bool) → nat_eq place port ≡ here
          → cond here (Some profile) None ≡ Some profile → place ≡ port
      by true is stands = eqb-true place port is
      by false is stands = absurd cc

  pub shows_same : (ports : ℕ) → state.durable.heads.ports.count ≡ ports
      → ShowSame profile (seen_in state) (seen_by profile ports card)
  shows_same ports count = elim its [
    | inl at ↦ record {
      here = λ port on.
          ap (λ (place : Option ℕ). stands_where profile place port)
          (ap (λ (its : Card). its.port) at.2)
          ∙ stands_here at.0 port
          (one_port state.durable are profile at.0 port at.1 on);
      away = λ port away stands.
          let same : at.0 ≡ port =
          stands_only at.0 port
          (ap (λ (place : Option ℕ). stands_where profile place port)
          (ap (λ (its : Card). its.port) (sym at.2)) ∙ stands) in
          away (ap (profile_on state.durable) (sym same) ∙ at.1);
      session = λ port on.
          ap (λ (n : ℕ). (port_in state n).session)
          (sym (one_port state.durable are profile at.0 port at.1 on))
          ∙ ap (λ (its : Card). its.session) (sym at.2);
      ports = count;
    }
    | inr none ↦ record {
      here = λ port on. absurd (none.nowhere port on);
      away = λ port away stands.
          nowhere (ap (λ (place : Option ℕ). stands_where profile place port) (sym none.port)
          ∙ stands);
      session = λ port on. absurd (none.nowhere port on);
      ports = count;
    }
  ]
    where
      nowhere : None ≡ Some profile → ⊥
      nowhere same = cc
