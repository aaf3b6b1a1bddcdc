-- A card over a list of events.
use Rattle.std.specs.Prelude.{ℕ, ◌<◌, ◌^◌, ⊤, List, length}
use Rattle.std.specs.List.{AllByRecursion, sum_by}
use Rattle.card_core.specs.declared.event.Event.{Event}
use Rattle.card_core.specs.declared.event.Event.TheVariants.{Apdu as Bytes, Load, Power, Reset}
use Rattle.card_core.specs.declared.event.LoadStep.{LoadStep}
use Rattle.card_core.specs.declared.event.LoadStep.TheVariants.{Begin, End, Piece}

-- it comes to one of so many ports, or to the card
abbrev pub IsOnCard : ℕ → Event → Type 0
IsOnCard count (Bytes port bytes) = port < count
IsOnCard count (Reset port) = port < count
IsOnCard count (Load port step) = port < count
IsOnCard count Power = ⊤

abbrev pub piece_bytes : LoadStep → ℕ
piece_bytes (Begin metadata) = 0
piece_bytes (Piece piece) = length piece
piece_bytes End = 0

-- how many bytes of a package it brings
abbrev pub package_bytes : Event → ℕ
package_bytes (Bytes port bytes) = 0
package_bytes (Reset port) = 0
package_bytes (Load port step) = piece_bytes step
package_bytes Power = 0

-- the events may come to a card with so many ports: there are fewer than 4,294,967,296, and so many
-- bytes of packages
pub record MayCome (count : ℕ) (events : List Event) : Type 0 where
  pub few : length events < 2 ^ 32
  pub ports : AllByRecursion (IsOnCard count) events
  pub bytes : sum_by package_bytes events < 2 ^ 32
