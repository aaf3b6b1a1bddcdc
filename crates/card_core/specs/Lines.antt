-- What any statement counts, and its lines.
use Rattle.std.specs.Prelude.{ℕ, ◌≡◌, ◌≢◌, ◌⊎◌, ◌<◌, ◌≤◌, ◌+◌, ◌==◌}
use Rattle.std.specs.List.{AllByRecursion}
use Rattle.plain_lists.specs.EachTwo.{EachTwo}
use Rattle.card_core.specs.Merge.{maker_of}
use Rattle.card_core.specs.World.{Made, WorldState, count_if, next_maker, port_in}
use Rattle.card_core.specs.declared.entry.Entry.{Entry}

-- it tells how many shared statements came before it and which statement made it, and is about a
-- port of the card
pub record IsLineBy (port : ℕ) (state : WorldState) (entry : Entry) : Type 0 where
  pub turn : entry.turn ≡ state.shared
  pub maker : maker_of entry ≡ next_maker state port
  pub within : entry.port < state.durable.heads.ports.count

-- lines about that port come first, and then those about others, from the lowest on
abbrev pub OwnFirst : ℕ → Entry → Entry → Type 0
OwnFirst port one other =
    (one.port ≡ port) ⊎ ((other.port ≢ port) × (one.port ≤ other.port))

-- the lines of a statement at a port are its own, in that order; it counts once at its port, and at
-- most once as shared
pub record IsToldInOrder (port : ℕ) (state : WorldState) (made : Made) : Type 0 where
  pub lines : AllByRecursion (IsLineBy port state) made.entries
  pub order : EachTwo (OwnFirst port) made.entries
  pub counts : (number : ℕ) → (port_in made.state number).statements
      ≡ (port_in state number).statements + count_if (number == port)
  pub shared : (made.state.shared ≡ state.shared) ⊎ (made.state.shared ≡ state.shared + 1)
