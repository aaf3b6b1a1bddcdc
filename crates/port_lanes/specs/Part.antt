-- What a port has to do in a section.
use Rattle.std.specs.Prelude.{ℕ, ◌≡◌, ◌<◌, ◌≤◌, ◌+◌, ◌^◌, true, List, length, None, Option}
use Rattle.std.specs.Prelude.{if◌then◌else◌, nat_lt, slice_get, slice_index_or}
use Rattle.std.specs.List.{AllByRecursion}
use Rattle.card_core.specs.Stretch.{is_for}
use Rattle.card_core.specs.declared.event.Event.{Event}
use Rattle.port_lanes.specs.declared.part.Part.{Part}

-- the events are that port's
abbrev pub AreFor : ℕ → List Event → Type 0
AreFor port events = AllByRecursion (λ event. is_for port event ≡ true) events

-- how many statements it has until the end of the phase, of which so many ended; behind the last
-- phase it has them all
abbrev pub until_end : Part → ℕ → ℕ
until_end part ended = slice_index_or part.ends ended (length part.statements)

-- the statement behind so many others, where it stands before the end of the phase
abbrev pub next_until : Part → ℕ → ℕ → Option Event
next_until part ended made =
    if nat_lt made (until_end part ended) then slice_get part.statements made else None

-- it has no more statements than a section may have
pub record IsPart (port : ℕ) (part : Part) : Type 0 where
  pub few : length part.statements + 1 < 2 ^ 32
  pub for : AreFor port part.statements
  pub ends : AllByRecursion (λ end. end ≤ length part.statements) part.ends
