-- What the image of a flash holds: a card, or none.
use Rattle.std.specs.Prelude.{ℕ, ◌≡◌, ◌+◌, ◌*◌, List, [], ◌∷◌, ⊤}
use Rattle.flash_pages.specs.Bank.{bank_bytes}
use Rattle.flash_pages.specs.Bytes.{part}
use Rattle.flash_pages.specs.Flash.{block_len}
use Rattle.flash_pages.specs.Rows.{HasRows}
use Rattle.flash_pages.specs.Switch.{live_of}
use Rattle.flash_pages.specs.declared.bank.Bank.{Bank}
use Rattle.record_codec.specs.Apply.{apply, fold}
use Rattle.record_codec.specs.Begin.{IsBegun}
use Rattle.record_codec.specs.FitsCard.{FitsCard}
use Rattle.record_codec.specs.Sizes.{Codes}
use Rattle.record_codec.specs.declared.durable.Durable.{Durable}
use Rattle.record_codec.specs.declared.record.Record.{Record}
use Rattle.record_codec.specs.declared.record.Record.TheVariants.{PutCard, PutProfile, Content}
use Rattle.record_codec.specs.declared.record.Record.TheVariants.{Bind, Unbind, Gone, Name}
use Rattle.record_codec.specs.declared.record.Record.TheVariants.{NoteGone}

-- block 0 is the switch row, and two banks of 1,216 blocks each lie behind it
abbrev pub bank_of : ℕ → Bank
bank_of live = record { first = 1 + 1216 * live; blocks = 1216 }

abbrev pub switch_row : List ℕ → List ℕ
switch_row image = part 0 block_len image

-- the bytes of the live bank
abbrev pub live_bytes : List ℕ → List ℕ
live_bytes image = bank_bytes (bank_of (live_of (switch_row image))) image

-- these bodies are the codings of these records, one by one
abbrev pub AreCodings : List (List ℕ) → List Record → Type 0
AreCodings [] [] = ⊤
AreCodings [] (entry ∷ entries) = ⊥
AreCodings (body ∷ bodies) [] = ⊥
AreCodings (body ∷ bodies) (entry ∷ entries) = Codes body entry × AreCodings bodies entries

-- the record makes a new card
abbrev pub MakesCard : Record → Type 0
MakesCard (PutCard mode ports eid next_number next_note notes) = ⊤
MakesCard (PutProfile installation profile port) = ⊥
MakesCard (Content profile change) = ⊥
MakesCard (Bind profile port displaced) = ⊥
MakesCard (Unbind profile) = ⊥
MakesCard (Gone profiles) = ⊥
MakesCard (Name profile nickname) = ⊥
MakesCard (NoteGone number) = ⊥

-- none of the records makes a new card, and each fits what the ones before it leave
abbrev pub Follow : Durable → List Record → Type 0
Follow held [] = ⊤
Follow held (entry ∷ entries) =
    (¬ MakesCard entry) × FitsCard held entry × Follow (apply held entry) entries

-- a card may begin with the first record, the others follow it, and this is what they leave
abbrev pub Leave : List Record → Durable → Type 0
Leave [] held = ⊥
Leave (first ∷ entries) held =
    (new : Durable) × IsBegun first new × Follow new entries × (held ≡ fold new entries)

-- the open rows of the live bank are the codings of records that leave this
pub record HoldsCard (image : List ℕ) (held : Durable) : Type 0 where
  pub bodies : List (List ℕ)
  pub entries : List Record
  pub rows : HasRows (live_bytes image) bodies
  pub codings : AreCodings bodies entries
  pub left : Leave entries held
