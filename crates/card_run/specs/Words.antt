-- The forms of the words after the program's name.
use Rattle.std.specs.Prelude.{◌≡◌, ◌≢◌, ℕ, List, [], ◌∷◌, Ok, ◌+◌, codes, length, map}
use Rattle.std.specs.Prelude.{String, string_bytes}
use Rattle.std.specs.declared.alloc.Global.{Global}
use Rattle.hex.specs.Hex.{decode_of}
use Rattle.card_core.specs.Listing.{mode_text}
use Rattle.card_journal.specs.Made.{HasPorts}
use Rattle.card_run.specs.declared.words.Form.{Form}
use Rattle.card_run.specs.declared.words.Form.TheVariants.{Demo, List as Listing, New}
use Rattle.card_run.specs.declared.words.NewCard.{NewCard}

-- the name of an image isn't empty and doesn't begin with `-`
abbrev pub IsImageName : List ℕ → Type 0
IsImageName [] = ⊥
IsImageName (byte ∷ bytes) = byte ≢ 45

-- The words spell the card: the mode is `A1`, `A2` or `B`, the number of ports one digit, that a
-- card of the mode may have, and the EID 32 hex digits in either case.
pub record AreSpelled (card : NewCard) (mode ports eid : List ℕ) : Type 0 where
  pub mode_is : mode ≡ mode_text card.mode
  pub ports_are : ports ≡ (48 + card.ports) ∷ []
  pub range : HasPorts card.mode card.ports
  pub eid_is : decode_of eid ≡ Ok card.eid
  pub whole : length card.eid ≡ 16

-- `new IMAGE --mode M --ports N --eid E`
pub record AsksForNew (words : List (List ℕ)) (card : NewCard) : Type 0 where
  pub image : List ℕ
  pub mode : List ℕ
  pub ports : List ℕ
  pub eid : List ℕ
  pub are : words ≡ codes "new" ∷ image ∷ codes "--mode" ∷ mode ∷ codes "--ports" ∷ ports
      ∷ codes "--eid" ∷ eid ∷ []
  pub name : IsImageName image
  pub its : AreSpelled card mode ports eid

-- `list IMAGE`
pub record AsksForListing (words : List (List ℕ)) : Type 0 where
  pub image : List ℕ
  pub are : words ≡ codes "list" ∷ image ∷ []
  pub name : IsImageName image

-- the words are of the form
abbrev pub AreOf : Form → List (List ℕ) → Type 0
AreOf Demo words = words ≡ codes "demo" ∷ []
AreOf Listing words = AsksForListing words
AreOf (New card) words = AsksForNew words card

-- the bytes of each word
abbrev pub word_bytes : List (String Global) → List (List ℕ)
word_bytes words = map string_bytes words

-- the image that words of a form name is the second of them
abbrev pub NamesImage : List (List ℕ) → List ℕ → Type 0
NamesImage words image = (first : List ℕ) × (others : List (List ℕ)) × IsImageName image
    × (words ≡ first ∷ image ∷ others)
