use Rattle.std.specs.Prelude.{ℕ, ◌≡◌, ◌≢◌, ◌≤◌, ◌+◌, ◌⊎◌, Option, List, [], ◌∷◌, ◌++◌, length, map}
use Rattle.std.specs.Prelude.{sum_by, find, Any, IsTrue, ⊤}
use Rattle.std.specs.List.{AllByRecursion}
use Rattle.plain_lists.specs.EachTwo.{EachTwo}
use Rattle.file_rows.specs.Path.{same_path}
use Rattle.file_rows.specs.FileHead.{Holds, IsFile, ShareName, ShareSfi, holds_files}
use Rattle.file_rows.specs.PinRow.{IsPin, ShareKey}
use Rattle.file_rows.specs.declared.content.Content.{Content}
use Rattle.file_rows.specs.declared.content.TheConstants.{QUOTA}
use Rattle.file_rows.specs.declared.head.FileHead.{FileHead}
use Rattle.file_rows.specs.declared.head.Kind.TheVariants.{Master}
use Rattle.file_rows.specs.declared.pin.PinRow.{PinRow}
use Rattle.file_rows.specs.declared.row.FileRow.{FileRow}

-- how much of the quota the files take: each its body, and 32 bytes more
abbrev pub use_of : List FileRow → ℕ
use_of rows = sum_by (λ row. length row.body + 32) rows

abbrev pub heads_of : List FileRow → List FileHead
heads_of rows = map (λ row. row.head) rows

-- the file of that path, where there is one
abbrev pub file_at : List ℕ → List FileRow → Option FileRow
file_at path rows = find (λ row. same_path row.head.path path) rows

-- each file stands in a directory that was there before it
abbrev pub StandInEarlier : List FileHead → List FileHead → Type 0
StandInEarlier earlier [] = ⊤
StandInEarlier earlier (head ∷ heads) = Any (λ directory. Holds directory head) earlier
    × StandInEarlier (earlier ++ head ∷ []) heads

-- the MF is the first file, no other is one, and each other stands in an earlier directory
abbrev pub AreTree : List FileHead → Type 0
AreTree [] = ⊥
AreTree (first ∷ heads) =
    (first.kind ≡ Master) × AllByRecursion (λ head. head.kind ≢ Master) heads
    × StandInEarlier (first ∷ []) heads

-- the files of a card
pub record AreFiles (rows : List FileRow) : Type 0 where
  pub tree : AreTree (heads_of rows)
  pub each : AllByRecursion IsFile (heads_of rows)
  pub bodies : AllByRecursion (λ row. length row.body ≡ row.head.size) rows
  pub paths : EachTwo (λ one other. one.path ≢ other.path) (heads_of rows)
  pub sfis : EachTwo (λ one other. ¬ ShareSfi one other) (heads_of rows)
  pub names : EachTwo (λ one other. ¬ ShareName one other) (heads_of rows)

-- a PIN's home is a directory of the card
abbrev pub IsAtHome : List FileHead → PinRow → Type 0
IsAtHome heads pin = Any (λ head. IsTrue (holds_files head.kind) × (head.path ≡ pin.home)) heads

-- the PINs of a card with these files
pub record ArePins (heads : List FileHead) (pins : List PinRow) : Type 0 where
  pub each : AllByRecursion IsPin pins
  pub homes : AllByRecursion (IsAtHome heads) pins
  pub numbers : EachTwo (λ one other. one.number ≢ other.number) pins
  pub keys : EachTwo (λ one other. ¬ ShareKey one other) pins

-- a card without files and PINs
pub record IsEmpty (content : Content) : Type 0 where
  pub rows : content.rows ≡ []
  pub pins : content.pins ≡ []

-- a card with files
pub record IsFileSystem (content : Content) : Type 0 where
  pub files : AreFiles content.rows
  pub pins : ArePins (heads_of content.rows) content.pins

-- what a card may hold
pub record IsValid (content : Content) : Type 0 where
  pub quota : use_of content.rows ≤ QUOTA
  pub few_pins : length content.pins ≤ 32
  pub system : IsEmpty content ⊎ IsFileSystem content
