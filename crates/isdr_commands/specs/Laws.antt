-- What holds of every request that is accepted.
use Rattle.std.specs.Prelude.{ℕ, true, ◌≡◌, ◌≢◌, ◌<◌, ◌≤◌, ◌↔◌, Any, List, length, Some, IsSomeAnd}
use Rattle.std.specs.Prelude.{slice_get, ⊤}
use Rattle.std.specs.List.{AllByRecursion}
use Rattle.isdr_codec.specs.declared.request.Request.{Request}
use Rattle.isdr_codec.specs.declared.request.Request.TheVariants.{Delete, Disable, Enable}
use Rattle.isdr_codec.specs.declared.request.Request.TheVariants.{MemoryReset, Nickname}
use Rattle.isdr_codec.specs.declared.request.Who.{Who}
use Rattle.isdr_codec.specs.declared.request.Who.TheVariants.{Iccid}
use Rattle.isdr_commands.specs.Profiles.{profile_named}
use Rattle.isdr_commands.specs.MemoryReset.{is_reset}
use Rattle.isdr_commands.specs.declared.decision.Decision.{Decision}
use Rattle.isdr_commands.specs.declared.moves.Move.{Move}
use Rattle.plain_lists.specs.EachTwo.{EachTwo}
use Rattle.port_table.specs.Ports.{StandsOn}
use Rattle.port_table.specs.declared.ports.Ports.{Ports}
use Rattle.record_codec.specs.Apply.{apply}
use Rattle.record_codec.specs.FitsCard.{FitsCard}
use Rattle.record_codec.specs.Heads.{head_of, held_content}
use Rattle.record_codec.specs.IsDurable.{IsDurable}
use Rattle.record_codec.specs.declared.durable.Durable.{Durable}
use Rattle.record_codec.specs.declared.profile.ProfileHead.{ProfileHead}
use Rattle.record_codec.specs.declared.record.Record.{Record}

-- a nickname has at most 64 bytes, where the request has one
abbrev pub HasShortNickname : Request → Type 0
HasShortNickname (Nickname iccid name) = length name ≤ 64
HasShortNickname _ = ⊤

-- a request came on a port of a card
pub record IsAsked (durable : Durable) (came : ℕ) (request : Request) : Type 0 where
  pub card : IsDurable durable
  pub below : came < durable.heads.ports.count
  pub nickname : HasShortNickname request

-- an eUICCMemoryReset of the profile's class
abbrev pub Resets : Request → ProfileHead → Type 0
Resets (MemoryReset operational test) head = is_reset operational test head ≡ true
Resets _ head = ⊥

abbrev pub IsNamedBy : List ProfileHead → Who → ℕ → Type 0
IsNamedBy profiles who number =
    IsSomeAnd (profile_named who profiles) (λ head. head.number ≡ number)

-- the request names that profile
abbrev pub NamesProfile : List ProfileHead → Request → ℕ → Type 0
NamesProfile profiles (Nickname iccid name) number = IsNamedBy profiles (Iccid iccid) number
NamesProfile profiles (Enable who refresh port) number = IsNamedBy profiles who number
NamesProfile profiles (Disable who refresh) number = IsNamedBy profiles who number
NamesProfile profiles (Delete who) number = IsNamedBy profiles who number
NamesProfile profiles (MemoryReset operational test) number =
    IsSomeAnd (head_of number profiles) (λ head. is_reset operational test head ≡ true)
NamesProfile profiles _ number = ⊥

-- the profile leaves a port
abbrev pub Displaces : Decision → ℕ → Type 0
Displaces decision number = Any (λ (move : Move). move.leaves ≡ Some number) decision.moves

-- the profile has the content, the head and the port that it had before
pub record LeavesProfile (before after : Durable) (number : ℕ) : Type 0 where
  pub content : held_content number after ≡ held_content number before
  pub head : head_of number after.heads.profiles ≡ head_of number before.heads.profiles
  pub port : (port : ℕ) → StandsOn after.heads.ports number port
      ↔ StandsOn before.heads.ports number port

-- the move's port held what leaves and holds what comes, which differ
pub record IsMoved (before after : Ports) (move : Move) : Type 0 where
  pub left : slice_get before.on move.port ≡ Some move.leaves
  pub came : slice_get after.on move.port ≡ Some move.comes
  pub changes : move.leaves ≢ move.comes

-- the moves name just the ports whose profile changes, each once, and each as it changes
pub record AreMoves (before after : Ports) (moves : List Move) : Type 0 where
  pub each : AllByRecursion (IsMoved before after) moves
  pub once : EachTwo (λ one other. one.port ≢ other.port) moves
  pub others : (port : ℕ) → AllByRecursion (λ move. move.port ≢ port) moves
      → slice_get after.on port ≡ slice_get before.on port

-- the record fits the card, and after it just the ports of the moves have changed
pub record IsCarriedOut (durable : Durable) (entry : Record) (decision : Decision) : Type 0 where
  pub fits : FitsCard durable entry
  pub moves : AreMoves durable.heads.ports (apply durable entry).heads.ports decision.moves
