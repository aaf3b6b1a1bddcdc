-- The lines of a script that are statements, by their words.
use Rattle.std.specs.Prelude.{◌≡◌, ℕ, ◌+◌, ◌<◌, ◌≤◌, ◌⊎◌, List, [], ◌∷◌, length, codes}
use Rattle.card_core.specs.declared.event.Event.{Event}
use Rattle.card_core.specs.declared.event.Event.TheVariants.{Apdu, Reset, Load, Power}
use Rattle.card_core.specs.declared.event.LoadStep.{LoadStep}
use Rattle.card_core.specs.declared.event.LoadStep.TheVariants.{Begin, Piece, End}
use Rattle.script_text.specs.Words.{SpellsHex}

-- the digits spell the bytes, of which there are at most so many
abbrev pub SpellsWithin : ℕ → List ℕ → List ℕ → Type 0
SpellsWithin most digits bytes = (length bytes ≤ most) × SpellsHex digits bytes

-- HEX: one word that spells the bytes, at most so many of them, or no word for no byte
abbrev pub IsHex : ℕ → List (List ℕ) → List ℕ → Type 0
IsHex most hex bytes =
    ((hex ≡ []) × (bytes ≡ []))
    ⊎ ((digits : List ℕ) × (hex ≡ digits ∷ []) × SpellsWithin most digits bytes)

-- a port's number, a digit from 0 to 7, with this behind it
abbrev pub IsPort : List ℕ → ℕ → List ℕ → Type 0
IsPort word port behind = (port < 8) × (word ≡ (48 + port) ∷ behind)

-- `port N: HEX`, a command of at most 1,024 bytes
pub record IsPortLine (its : List (List ℕ)) (port : ℕ) (apdu : List ℕ) : Type 0 where
  pub number : List ℕ
  pub hex : List (List ℕ)
  pub words : its ≡ codes "port" ∷ number ∷ hex
  pub at : IsPort number port (codes ":")
  pub bytes : IsHex 1024 hex apdu

-- `reset N`
pub record IsResetLine (its : List (List ℕ)) (port : ℕ) : Type 0 where
  pub number : List ℕ
  pub words : its ≡ codes "reset" ∷ number ∷ []
  pub at : IsPort number port []

-- `begin HEX`, with at most 4,096 bytes of metadata; `piece HEX`, with at most 1,048,576 bytes of
-- the package; `end`
abbrev pub IsStep : List (List ℕ) → LoadStep → Type 0
IsStep its (Begin metadata) =
    (hex : List (List ℕ)) × (its ≡ codes "begin" ∷ hex) × IsHex 4096 hex metadata
IsStep its (Piece bytes) =
    (hex : List (List ℕ)) × (its ≡ codes "piece" ∷ hex) × IsHex 1048576 hex bytes
IsStep its End = its ≡ codes "end" ∷ []

-- `load N` and a step
pub record IsLoadLine (its : List (List ℕ)) (port : ℕ) (step : LoadStep) : Type 0 where
  pub number : List ℕ
  pub more : List (List ℕ)
  pub words : its ≡ codes "load" ∷ number ∷ more
  pub at : IsPort number port []
  pub of_step : IsStep more step

-- the words are those of the statement
abbrev pub IsStatement : List (List ℕ) → Event → Type 0
IsStatement its (Apdu port apdu) = IsPortLine its port apdu
IsStatement its (Reset port) = IsResetLine its port
IsStatement its (Load port step) = IsLoadLine its port step
IsStatement its Power = ⊥
