-- What a step of a whole card gives one of its profiles, and which answers are the profile's.
use Rattle.std.specs.Prelude.{ℕ, ◌≡◌, ◌⊎◌, ◌==◌, if◌then◌else◌, Bool, true, false, List, [], ◌∷◌}
use Rattle.std.specs.Prelude.{◌++◌, Option, Some, None, Result, Ok, Err}
use Rattle.std.specs.List.{flat_map}
use Rattle.apdu_codec.specs.Command.{Apdu, Spells}
use Rattle.apdu_codec.specs.declared.answers.Answer.{Answer}
use Rattle.apdu_codec.specs.declared.status.Sw.{Sw}
use Rattle.lsi_refresh.specs.Lsi.{lsi_of}
use Rattle.lsi_refresh.specs.declared.lsi.Lsi.{Lsi}
use Rattle.lsi_refresh.specs.declared.lsi.Lsi.TheVariants as lsi
use Rattle.profile_card.specs.Own.{is_common}
use Rattle.profile_card.specs.Step.{Event as CardEvent}
use Rattle.profile_card.specs.Step.Event.{Bound as BoundTo, Command, Power as PowerCycle}
use Rattle.profile_card.specs.Step.Event.{Reset as Restart, Unbound as Freed}
use Rattle.uicc_channels.specs.declared.session.Session.{Session}
use Rattle.card_core.specs.Port.{profile_on}
use Rattle.card_core.specs.Stepped.{Stepped}
use Rattle.card_core.specs.Told.{Told, told_of}
use Rattle.card_core.specs.World.{WorldState, port_in}
use Rattle.card_core.specs.declared.entry.Entry.{Entry}
use Rattle.card_core.specs.declared.entry.Line.{Line}
use Rattle.card_core.specs.declared.entry.Line.TheVariants as lines
use Rattle.card_core.specs.declared.event.Event.{Event}
use Rattle.card_core.specs.declared.event.Event.TheVariants as events

-- what tells to whom a statement belongs: which profile stands on each port, the session there, and
-- how many ports the card has
pub record Seen : Type 0 where
  pub on : ℕ → Option ℕ
  pub session : ℕ → Session
  pub ports : ℕ

abbrev pub seen_in : WorldState → Seen
seen_in state = record {
  on = λ port. profile_on state.durable port;
  session = λ port. (port_in state port).session;
  ports = state.durable.heads.ports.count;
}

-- what comes to a port is given to the profile that stands there
abbrev pub given_there : ℕ → Option ℕ → List CardEvent → List CardEvent
given_there profile None given = []
given_there profile (Some other) given = if other == profile then given else []

-- what a line of the log gives the card of a profile alone, which stands there or not: a reset of
-- its port from anywhere, that it leaves a port, and that it comes to one
abbrev pub given_by_line : ℕ → Option ℕ → ℕ → Line → List CardEvent
given_by_line profile on port (lines.Answered number answer cause) = []
given_by_line profile on port (lines.OwnReset number) =
    given_there profile on (Restart ∷ [])
given_by_line profile on port (lines.Loaded number outcome) = []
given_by_line profile on port (lines.ForeignReset by) =
    given_there profile on (Restart ∷ [])
given_by_line profile on port (lines.Unbound other refresh kept by commit) =
    if other == profile then Freed ∷ [] else []
given_by_line profile on port (lines.Bound other refresh kept by commit) =
    if other == profile then BoundTo port refresh kept ∷ [] else []

abbrev pub given_by_entry : ℕ → Seen → Entry → List CardEvent
given_by_entry profile seen entry =
    given_by_line profile (seen.on entry.port) entry.port entry.line

abbrev pub given_by_lines : ℕ → Seen → List Entry → List CardEvent
given_by_lines profile seen entries = flat_map (given_by_entry profile seen) entries

-- a MANAGE LSI that resets its own port has no line beside its answer
abbrev pub given_by_lsi : ℕ → Result Lsi Sw → List CardEvent
given_by_lsi came (Ok lsi.Count) = []
given_by_lsi came (Ok (lsi.Reset port)) = if port == came then Restart ∷ [] else []
given_by_lsi came (Err sw) = []

-- the answer of a statement
abbrev pub answer_of_line : Line → List Answer
answer_of_line (lines.Answered number answer cause) = answer ∷ []
answer_of_line (lines.OwnReset number) = []
answer_of_line (lines.Loaded number outcome) = []
answer_of_line (lines.ForeignReset by) = []
answer_of_line (lines.Unbound other refresh kept by commit) = []
answer_of_line (lines.Bound other refresh kept by commit) = []

abbrev pub answers_in : List Entry → List Answer
answers_in entries = flat_map (λ entry. answer_of_line entry.line) entries

-- what a profile's card is given, and the answers that count as its own
pub record Share : Type 0 where
  pub given : List CardEvent
  pub answers : List Answer

abbrev pub no_share : Share
no_share = record { given = []; answers = [] }

abbrev pub joined_share : Share → Share → Share
joined_share one other = record {
  given = one.given ++ other.given;
  answers = one.answers ++ other.answers;
}

-- bytes at the port of the profile are its own command unless the common part of the card answers
-- them
abbrev pub command_share : Seen → List Entry → ℕ → List ℕ → Apdu → Share
command_share seen entries port bytes c =
    if is_common (seen.session port) c
    then record {
      given = if c.ins == 0x7A then given_by_lsi port (lsi_of c seen.ports) else [];
      answers = [];
    }
    else record { given = Command bytes ∷ []; answers = answers_in entries }

abbrev pub IsBytesShare : Seen → List Entry → ℕ → List ℕ → Share → Type 0
IsBytesShare seen entries port bytes share =
    ((c : Apdu) × Spells bytes c × (share ≡ command_share seen entries port bytes c))
    ⊎ (((c : Apdu) → ¬ Spells bytes c)
    × (share ≡ record { given = Command bytes ∷ []; answers = answers_in entries }))

-- what comes to another port is none of the profile's
abbrev pub IsShareAt : ℕ → Option ℕ → Seen → List Entry → ℕ → List ℕ → Share → Type 0
IsShareAt profile None seen entries port bytes share = share ≡ no_share
IsShareAt profile (Some other) seen entries port bytes share =
    ((other ≡ profile) × IsBytesShare seen entries port bytes share)
    ⊎ ((other ≡ profile → ⊥) × (share ≡ no_share))

-- a power cycle comes to each profile
abbrev pub IsEventShare : ℕ → Seen → List Entry → Event → Share → Type 0
IsEventShare profile seen entries (events.Apdu port bytes) share =
    IsShareAt profile (seen.on port) seen entries port bytes share
IsEventShare profile seen entries (events.Reset port) share = share ≡ no_share
IsEventShare profile seen entries (events.Load port its) share = share ≡ no_share
IsEventShare profile seen entries events.Power share =
    share ≡ record { given = PowerCycle ∷ []; answers = [] }

-- a statement that failed counts for no profile
abbrev pub IsOwnShare : ℕ → Seen → Told → Bool → Share → Type 0
IsOwnShare profile seen told false share =
    IsEventShare profile seen told.entries told.event share
IsOwnShare profile seen told true share = share ≡ no_share

-- the share of a profile in what is told, of a statement that failed or didn't: what came to its
-- port, and then what the lines tell
abbrev pub IsShare : ℕ → Seen → Told → Bool → Share → Type 0
IsShare profile seen told failed share =
    (own : Share) × IsOwnShare profile seen told failed own
    × (share ≡ joined_share own
    (record { given = given_by_lines profile seen told.entries; answers = [] }))

-- its share in a run
abbrev pub AreShares : ℕ → List Stepped → Share → Type 0
AreShares profile [] share = share ≡ no_share
AreShares profile (step ∷ steps) share =
    (first : Share) × (rest : Share)
    × IsShare profile (seen_in step.before) (told_of step) step.failed first
    × AreShares profile steps rest × (share ≡ joined_share first rest)
