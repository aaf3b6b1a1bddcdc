-- What a profile is fed by what is told of statements, and the answers that are told of it.
use Rattle.std.specs.Prelude.{ℕ, ◌≡◌, ◌==◌, if◌then◌else◌, List, [], ◌∷◌, Option, Some, None, map}
use Rattle.std.specs.List.{AllByRecursion}
use Rattle.apdu_codec.specs.declared.answers.Answer.{Answer}
use Rattle.profile_card.specs.Card.{Card}
use Rattle.card_core.specs.Alone.{IsAnsweredAlone, IsCardOf, RunsAlone, StartsAlone}
use Rattle.card_core.specs.Share.{IsShare, Seen, Share, joined_share, no_share}
use Rattle.card_core.specs.Stepped.{AreSteps, NotFailed, Stepped}
use Rattle.card_core.specs.Stretch.{entries_of}
use Rattle.card_core.specs.Told.{Told, has_failed, told_of}
use Rattle.card_core.specs.World.{WorldState}
use Rattle.card_core.specs.declared.entry.Entry.{Entry}
use Rattle.card_core.specs.declared.event.Event.{Event}

-- the profile, where its card stands on that port
abbrev pub stands_where : ℕ → Option ℕ → ℕ → Option ℕ
stands_where profile None port = None
stands_where profile (Some place) port = if place == port then Some profile else None

-- what the card of a profile alone shows: where the profile stands, and the session there
abbrev pub seen_by : ℕ → ℕ → Card → Seen
seen_by profile ports card = record {
  on = λ port. stands_where profile card.port port;
  session = λ port. card.session;
  ports = ports;
}

-- The walk over what is told of statements, one after another, on a card with so many ports. It
-- begins with the card of the profile alone, and each statement feeds that card. So the walk knows
-- where the profile stands, by the lines that bind and unbind it, and which bytes are its own
-- commands, by the session. That a statement failed its own line tells. The share is all that the
-- profile is fed, and the answers that are told of its own commands.
abbrev pub IsFed : ℕ → ℕ → Card → List Told → Share → Type 0
IsFed profile ports card [] share = share ≡ no_share
IsFed profile ports card (told ∷ rest) share =
    (first : Share) × (others : Share) × (answers : List Answer) × (next : Card)
    × IsShare profile (seen_by profile ports card) told (has_failed told) first
    × RunsAlone card first.given answers next × IsFed profile ports next rest others
    × (share ≡ joined_share first others)

-- the answers that are told of a profile are those of its card alone over what the profile is fed
abbrev pub IsToldAlone : ℕ → WorldState → List Stepped → List Told → WorldState → Type 0
IsToldAlone profile start steps told after =
    (card : Card) → StartsAlone profile start steps card
    → (share : Share) × (now : Card) × IsFed profile start.durable.heads.ports.count card told share
    × RunsAlone card share.given share.answers now × IsCardOf profile after now

-- a run of a card that made these lines, in which each profile is answered so, also by what is told
-- of each event
pub record AnswersEachAlone (start : WorldState) (events : List Event) (entries : List Entry)
    (after : WorldState) : Type 0 where
  pub steps : List Stepped
  pub came : AreSteps start events steps after
  pub made : AllByRecursion NotFailed steps
  pub lines : entries ≡ entries_of steps
  pub alone : (profile : ℕ) → IsAnsweredAlone profile start steps after
  pub told : (profile : ℕ) → IsToldAlone profile start steps (map told_of steps) after
