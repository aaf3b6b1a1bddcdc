-- The parts that a reader hands out. The bytes of the parts, one after another, are those that
-- came.
use Rattle.std.specs.Prelude.{◌≡◌, ◌⊎◌, ℕ, ◌+◌, ◌≤◌, min, [], ◌∷◌, ◌++◌, length, if◌then◌else◌}
use Rattle.ber_tlv.specs.Head.{BeginsWithHead}
use Rattle.package_reader.specs.ReaderState.{ReaderState, opens, IsAtClose}
use Rattle.package_reader.specs.NextHead.{FitsIn, left_in, SpellsNone, MayBecomeHead}
use Rattle.package_reader.specs.declared.part.Part.{Part}
use Rattle.package_reader.specs.declared.part.Part.TheVariants.{Head, Bytes, Close, More, Bad}

-- a head is due: no TLV is at its end, and no value is being read
pub record AwaitsHead (state : ReaderState) : Type 0 where
  pub unended : ¬ IsAtClose state
  pub value : state.value ≡ 0

-- nothing changes but that no bytes are shown
abbrev pub ShowsNothing : ReaderState → ReaderState → Type 0
ShowsNothing old new = new ≡ record old { shown = [] }

-- the bytes of the part are taken from those that came
pub record ReadsOn (old new : ReaderState) : Type 0 where
  pub unread : old.unread ≡ new.shown ++ new.unread
  pub place : new.place ≡ old.place + length new.shown

-- a TLV that fits into the one around it; a constructed one is opened
pub record HandsOutHead (old : ReaderState) (tag n place : ℕ) (new : ReaderState) : Type 0 where
  pub awaited : AwaitsHead old
  pub here : place ≡ old.place
  pub takes : ReadsOn old new
  pub head : BeginsWithHead old.unread tag n new.unread
  pub fits : FitsIn (left_in old.ends old.place) (length new.shown + n)
  pub ends : new.ends ≡ (if opens new.shown then old.ends ++ (new.place + n) ∷ [] else old.ends)
  pub value : new.value ≡ (if opens new.shown then 0 else n)

-- as much of a value as came
pub record HandsOutBytes (old : ReaderState) (count : ℕ) (new : ReaderState) : Type 0 where
  pub unended : ¬ IsAtClose old
  pub some : 1 ≤ count
  pub most : count ≡ min old.value (length old.unread)
  pub takes : ReadsOn old new
  pub shown : length new.shown ≡ count
  pub value : old.value ≡ new.value + count
  pub ends : new.ends ≡ old.ends

-- the innermost open TLV ends here
pub record HandsOutClose (old new : ReaderState) : Type 0 where
  pub ends : old.ends ≡ new.ends ++ old.place ∷ []
  pub rest : new ≡ record old { ends = new.ends; shown = [] }

-- the value's bytes, or a whole head, haven't come
pub record HandsOutMore (old new : ReaderState) : Type 0 where
  pub unended : ¬ IsAtClose old
  pub wants : ((1 ≤ old.value) × (old.unread ≡ []))
      ⊎ ((old.value ≡ 0) × MayBecomeHead (left_in old.ends old.place) old.unread)
  pub stays : ShowsNothing old new

-- no TLV stands where a head is due
pub record HandsOutBad (old : ReaderState) (place : ℕ) (new : ReaderState) : Type 0 where
  pub awaited : AwaitsHead old
  pub here : place ≡ old.place
  pub none : SpellsNone (left_in old.ends old.place) old.unread
  pub stays : ShowsNothing old new

abbrev pub HandsOut : ReaderState → Part → ReaderState → Type 0
HandsOut old (Head tag n place) new = HandsOutHead old tag n place new
HandsOut old (Bytes count) new = HandsOutBytes old count new
HandsOut old Close new = HandsOutClose old new
HandsOut old More new = HandsOutMore old new
HandsOut old (Bad place) new = HandsOutBad old place new
