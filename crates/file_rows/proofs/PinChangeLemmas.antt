-- What a change leaves of the PINs.
use Rattle.std.proofs.Common.{◌≡◌, ◌≢◌, ◌↔◌, ℕ, Bool, true, false, cond, not, ◌==◌, List, [], ◌∷◌}
use Rattle.std.proofs.Common.{refl, sym, ◌∙◌, ap, Contains, ⊎_elim, arith}
use Rattle.std.proofs.lemmas.Bool.{true≢false}
use Rattle.std.proofs.lemmas.Bool.Decides.{Decides-eqb}
use Rattle.std.specs.Bool.{IsTrue}
use Rattle.file_rows.specs.Change.{TouchesPin, changed, with_pin}
use Rattle.file_rows.specs.Path.{stands_below}
use Rattle.file_rows.specs.declared.change.Change.{Change}
use Rattle.file_rows.specs.declared.change.Change.TheVariants.{WriteRange, WriteRecord, PinSet}
use Rattle.file_rows.specs.declared.change.Change.TheVariants.{FileAdd, FileGone, FileState}
use Rattle.file_rows.specs.declared.change.Change.TheVariants.{FileSize}
use Rattle.file_rows.specs.declared.content.Content.{Content}
use Rattle.file_rows.specs.declared.pin.PinRow.{PinRow}
use Rattle.file_rows.proofs.ListLemmas.{contains-filter, contains_cases, contains_later}
use Rattle.file_rows.proofs.ListLemmas.{contains_same, filter-contains}
use Rattle.file_rows.proofs.PathLemmas.{is_false}

from_not : (b : Bool) → not b ≡ true → b ≡ false
from_not true e = absurd (true≢false (sym e))
from_not false e = refl

module _ (set : PinRow) where
  abbrev one_set : PinRow → Bool → PinRow
  one_set pin b = cond b set pin

  -- a PIN with another number is there as before
  other_was : (pin : PinRow) → pin.number ≢ set.number → (pins : List PinRow) → Contains (with_pin set pins) pin → Contains pins pin
  other_was pin apart [] there = there
  other_was pin apart (first ∷ pins) there =
      let step : (b : Bool) → (first.number == set.number) ≡ b → Contains (one_set first b ∷ with_pin set pins) pin → Contains (first ∷ pins) pin
      = λ b. elim b as (λ b. (first.number == set.number) ≡ b → Contains (one_set first b ∷ with_pin set pins) pin → Contains (first ∷ pins) pin) [
        | true ↦ λ e c. ⊎_elim
            (λ same. absurd (apart (ap (λ (p : PinRow). p.number) (sym same))))
            (λ later. contains_later first pins pin (other_was pin apart pins later))
            (contains_cases set (with_pin set pins) pin c)
        | false ↦ λ e c. ⊎_elim
            (λ same. contains_same first pins pin same)
            (λ later. contains_later first pins pin (other_was pin apart pins later))
            (contains_cases first (with_pin set pins) pin c)
      ]
      in step (first.number == set.number) refl there

  other_is : (pin : PinRow) → pin.number ≢ set.number → (pins : List PinRow) → Contains pins pin → Contains (with_pin set pins) pin
  other_is pin apart [] there = there
  other_is pin apart (first ∷ pins) there =
      let step : (b : Bool) → (first.number == set.number) ≡ b → Contains (one_set first b ∷ with_pin set pins) pin
      = λ b. elim b as (λ b. (first.number == set.number) ≡ b → Contains (one_set first b ∷ with_pin set pins) pin) [
        | true ↦ λ e. ⊎_elim
            (λ same. absurd (apart (ap (λ (p : PinRow). p.number) (sym same) ∙ (Decides-eqb first.number set.number).0 e)))
            (λ later. contains_later set (with_pin set pins) pin (other_is pin apart pins later))
            (contains_cases first pins pin there)
        | false ↦ λ e. ⊎_elim
            (λ same. contains_same first (with_pin set pins) pin same)
            (λ later. contains_later first (with_pin set pins) pin (other_is pin apart pins later))
            (contains_cases first pins pin there)
      ]
      in step (first.number == set.number) refl

  -- the PIN with the number is the one that was set
  only_set : (pin : PinRow) → pin.number ≡ set.number → (pins : List PinRow) → Contains (with_pin set pins) pin → pin ≡ set
  only_set pin number [] there = absurd (omega (arith, there.1))
  only_set pin number (first ∷ pins) there =
      let step : (b : Bool) → (first.number == set.number) ≡ b → Contains (one_set first b ∷ with_pin set pins) pin → pin ≡ set
      = λ b. elim b as (λ b. (first.number == set.number) ≡ b → Contains (one_set first b ∷ with_pin set pins) pin → pin ≡ set) [
        | true ↦ λ e c. ⊎_elim (λ same. sym same) (λ later. only_set pin number pins later) (contains_cases set (with_pin set pins) pin c)
        | false ↦ λ e c. ⊎_elim
            (λ same. absurd (true≢false (sym ((Decides-eqb first.number set.number).1 (ap (λ (p : PinRow). p.number) same ∙ number)) ∙ e)))
            (λ later. only_set pin number pins later)
            (contains_cases first (with_pin set pins) pin c)
      ]
      in step (first.number == set.number) refl there

abbrev keeps : List ℕ → PinRow → Bool
keeps top pin = not (stands_below top pin.home)

pub other_pins : (content : Content) (change : Change) (pin : PinRow) → (TouchesPin change pin → ⊥) → Contains (changed content change).pins pin ↔ Contains content.pins pin
other_pins content (WriteRange path offset bytes) pin apart = (λ there. there, λ there. there)
other_pins content (WriteRecord path number bytes) pin apart = (λ there. there, λ there. there)
other_pins content (PinSet set) pin apart = (other_was set pin apart content.pins, other_is set pin apart content.pins)
other_pins content (FileAdd head) pin apart = (λ there. there, λ there. there)
other_pins content (FileGone top) pin apart = (
  λ there. (contains-filter (keeps top) content.pins pin there).0,
  λ there. filter-contains (keeps top) content.pins pin there (ap not (is_false (stands_below top pin.home) apart)),
)
other_pins content (FileState path life) pin apart = (λ there. there, λ there. there)
other_pins content (FileSize path size) pin apart = (λ there. there, λ there. there)

pub set_pin : (content : Content) (set pin : PinRow) → Contains (changed content (PinSet set)).pins pin → pin.number ≡ set.number → pin ≡ set
set_pin content set pin there number = only_set set pin number content.pins there

pub gone_pins : (content : Content) (top : List ℕ) (pin : PinRow) → IsTrue (stands_below top pin.home) → Contains (changed content (FileGone top)).pins pin → ⊥
gone_pins content top pin inside there =
    true≢false (sym inside ∙ from_not (stands_below top pin.home) (contains-filter (keeps top) content.pins pin there).1)
