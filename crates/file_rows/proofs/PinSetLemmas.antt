-- A PIN of a card set.
use Rattle.std.proofs.Common.{◌≡◌, ◌≢◌, ◌↔◌, suc, false, ◌==◌, List, [], ◌∷◌, ◌++◌, length, refl}
use Rattle.std.proofs.Common.{sym, ◌∙◌, ap, subst, ⊎_elim, inr, arith}
use Rattle.std.proofs.lemmas.Bool.Decides.{Decides-eqb}
use Rattle.std.specs.Bool.{IsTrue}
use Rattle.std.specs.List.{Any, AllByRecursion}
use Rattle.plain_lists.specs.EachTwo.{EachTwo}
use Rattle.file_rows.specs.Change.{Fits, KeepsPin, with_pin}
use Rattle.file_rows.specs.Conditions.{IsPinOf}
use Rattle.file_rows.specs.Content.{ArePins, IsAtHome, IsValid, heads_of}
use Rattle.file_rows.specs.FileHead.{holds_files}
use Rattle.file_rows.specs.PinRow.{IsPin, ShareKey}
use Rattle.file_rows.specs.declared.change.Change.TheVariants.{PinSet}
use Rattle.file_rows.specs.declared.content.Content.{Content}
use Rattle.file_rows.specs.declared.head.FileHead.{FileHead}
use Rattle.file_rows.specs.declared.pin.PinRow.{PinRow}
use Rattle.file_rows.proofs.EachLemmas.{each_weaker}
use Rattle.file_rows.proofs.ListLemmas.{any_cases, any_none, any_weaker, each_replaced, each_right}
use Rattle.file_rows.proofs.ListLemmas.{two_replaced}
use Rattle.file_rows.proofs.PathLemmas.{is_false}

-- the PIN stands between others, which setting it leaves alone
pub record PinStands (pins : List PinRow) (set : PinRow) : Type 0 where
  pub before : List PinRow
  pub after : List PinRow
  pub pin : PinRow
  pub was : pins ≡ before ++ pin ∷ after
  pub is : with_pin set pins ≡ before ++ set ∷ after
  pub keeps : KeepsPin pin set

module _ (set : PinRow) where
  unset : (pin : PinRow) → pin.number ≢ set.number → (pin.number == set.number) ≡ false
  unset pin apart = is_false (pin.number == set.number) (λ e. apart ((Decides-eqb pin.number set.number).0 e))

  unchanged : (pins : List PinRow) → AllByRecursion (λ pin. pin.number ≢ set.number) pins → with_pin set pins ≡ pins
  unchanged [] each = refl
  unchanged (pin ∷ pins) each = rw (unset pin each.0) (ap (λ (rest : List PinRow). pin ∷ rest) (unchanged pins each.1))

  other_number : (pin : PinRow) (pins : List PinRow) → AllByRecursion (λ other. pin.number ≢ other.number) pins → Any (λ other. KeepsPin other set) pins → pin.number ≢ set.number
  other_number pin [] each any e = any_none (λ other. KeepsPin other set) any
  other_number pin (other ∷ pins) each any e = ⊎_elim
      (λ keeps. each.0 (e ∙ sym keeps.number))
      (λ later. other_number pin pins each.1 later e)
      (any_cases (λ other. KeepsPin other set) other pins any)

  pub pin_stands : (pins : List PinRow) → EachTwo (λ one other. one.number ≢ other.number) pins → Any (λ pin. KeepsPin pin set) pins → PinStands pins set
  pin_stands [] each any = absurd (any_none (λ pin. KeepsPin pin set) any)
  pin_stands (pin ∷ pins) each any = ⊎_elim
      (λ keeps. record {
        before = [];
        after = pins;
        pin = pin;
        was = refl;
        is = rw ((Decides-eqb pin.number set.number).1 keeps.number)
            (ap (λ (rest : List PinRow). set ∷ rest)
            (unchanged pins (each_weaker (λ other. pin.number ≢ other.number) (λ other. other.number ≢ set.number) (λ other apart e. apart (keeps.number ∙ sym e)) pins each.0)));
        keeps = keeps;
      })
      (λ any_later.
      let later = pin_stands pins each.1 any_later in
      record {
        before = pin ∷ later.before;
        after = later.after;
        pin = later.pin;
        was = ap (λ (rest : List PinRow). pin ∷ rest) later.was;
        is = rw (unset pin (other_number pin pins each.0 any_later)) (ap (λ (rest : List PinRow). pin ∷ rest) later.is);
        keeps = later.keeps;
      })
      (any_cases (λ pin. KeepsPin pin set) pin pins any)

  pub pins_set : (heads : List FileHead) (pins : List PinRow) → ArePins heads pins → IsPinOf pins set → ArePins heads (with_pin set pins)
  pins_set heads pins are of =
      let there = pin_stands pins are.numbers of.there in
      let keeps = there.keeps in
      subst (ArePins heads) (sym there.is) (record {
        each = each_replaced IsPin there.before there.after there.pin set (λ _. of.form) (subst (AllByRecursion IsPin) there.was are.each);
        homes = each_replaced (IsAtHome heads) there.before there.after there.pin set
            (λ home. any_weaker (λ head. IsTrue (holds_files head.kind) × (head.path ≡ there.pin.home)) (λ head. IsTrue (holds_files head.kind) × (head.path ≡ set.home))
            (λ head is. (is.0, is.1 ∙ keeps.home)) heads home)
            (subst (AllByRecursion (IsAtHome heads)) there.was are.homes);
        numbers = two_replaced (λ one other. one.number ≢ other.number) there.before there.after there.pin set
            (λ pin apart e. apart (e ∙ sym keeps.number)) (λ pin apart e. apart (keeps.number ∙ e))
            (subst (EachTwo (λ one other. one.number ≢ other.number)) there.was are.numbers);
        keys = two_replaced (λ one other. ShareKey one other → ⊥) there.before there.after there.pin set
            (λ pin apart share. apart (record { home = share.home ∙ sym keeps.home; key = share.key ∙ sym keeps.key }))
            (λ pin apart share. apart (record { home = keeps.home ∙ share.home; key = keeps.key ∙ share.key }))
            (subst (EachTwo (λ one other. ShareKey one other → ⊥)) there.was are.keys);
      })

  length_set : (pins : List PinRow) → length (with_pin set pins) ≡ length pins
  length_set [] = refl
  length_set (pin ∷ pins) = ap (λ n. suc n) (length_set pins)

  -- a PIN that is there may be set to one that has the form of a PIN
  pub fits_pin : (content : Content) → IsValid content → Fits content (PinSet set) ↔ IsPinOf content.pins set
  fits_pin content valid = (
    λ fits.
        let pins : ArePins (heads_of content.rows) (with_pin set content.pins) = ⊎_elim
        (λ empty. absurd (omega (arith, fits.place.2, ap length empty.pins, length_set content.pins)))
        (λ system. system.pins)
        fits.after.system in
        let were : ArePins (heads_of content.rows) content.pins = ⊎_elim
        (λ empty. absurd (omega (arith, fits.place.2, ap length empty.pins)))
        (λ system. system.pins)
        valid.system in
        let there = pin_stands content.pins were.numbers fits.place in
        record {
          there = fits.place;
          form = (each_right IsPin there.before (set ∷ there.after) (subst (AllByRecursion IsPin) there.is pins.each)).0;
        },
    λ of. record {
      place = of.there;
      after = record {
        quota = valid.quota;
        few_pins = omega (arith, valid.few_pins, length_set content.pins);
        system = ⊎_elim
            (λ empty. absurd (omega (arith, of.there.2, ap length empty.pins)))
            (λ system. inr (record { files = system.files; pins = pins_set (heads_of content.rows) content.pins system.pins of }))
            valid.system;
      };
    },
  )
