-- PINs keep a draft good.
use Rattle.std.proofs.Common.{◌≡◌, ◌≢◌, ◌⊎◌, ℕ, ◌+◌, ◌/◌, ◌%◌, ◌<◌, ◌≤◌, Bool, true, false, cond}
use Rattle.std.proofs.Common.{not, ◌==◌, ◌&&◌, ◌||◌, List, [], ◌∷◌, ◌++◌, length, find, refl, sym}
use Rattle.std.proofs.Common.{◌∙◌, ap, subst, inl, inr, ⊎_elim, Option, Some, None, Result, Ok, Err}
use Rattle.std.proofs.Common.{IfSome, arith}
use Rattle.std.specs.Prelude.{nat_le, unwrap_or}
use Rattle.std.specs.Bool.{IsTrue}
use Rattle.std.specs.List.{AllByRecursion, list_any}
use Rattle.std.proofs.lemmas.Bool.{true≢false}
use Rattle.std.proofs.lemmas.Bool.Decides.{Decides-eqb, nat_tests}
use Rattle.std.proofs.lemmas.List.{length-append}
use Rattle.std.proofs.lemmas.Slice.Eq.{bytes_eq-Decides}
use Rattle.file_rows.specs.Content.{IsAtHome, heads_of}
use Rattle.file_rows.specs.FileHead.{holds_files}
use Rattle.file_rows.specs.Path.{master, same_path}
use Rattle.file_rows.specs.PinRow.{AreTries, IsGlobalKey, IsLocalKey, IsPin, ShareKey}
use Rattle.file_rows.specs.declared.head.FileHead.{FileHead}
use Rattle.file_rows.specs.declared.pin.PinRow.{PinRow}
use Rattle.file_rows.specs.declared.pin.Puk.{Puk}
use Rattle.file_rows.specs.declared.row.FileRow.{FileRow}
use Rattle.file_rows.proofs.EachLemmas.{each_weaker}
use Rattle.file_rows.proofs.FindLemmas.{found_has}
use Rattle.file_rows.proofs.ListLemmas.{any_none, any_of_map, each_append, two_push}
use Rattle.fcp_codec.specs.Creation.{HoldsFilesAt}
use Rattle.fcp_codec.proofs.CreationLemmas.{le_of, two_hold}
use Rattle.profile_install.specs.ElementResult.{then_with}
use Rattle.profile_install.specs.PinEntry.{home_of, is_global_key, is_key_taken, is_local_key}
use Rattle.profile_install.specs.PinEntry.{key_at, pin_key, pin_of, pin_told, pin_with, puk_found}
use Rattle.profile_install.specs.PinEntry.{puk_named, with_pin_field, with_pin_option}
use Rattle.profile_install.specs.PukEntry.{puk_key, puk_of, puk_told, with_puk_field}
use Rattle.profile_install.specs.Values.{are_tries, eight_bytes, kept, one_byte, tries_if_good}
use Rattle.profile_install.specs.Values.{tries_in, tries_of}
use Rattle.profile_install.specs.declared.draft.Draft.{Draft}
use Rattle.profile_install.specs.declared.fault.ElementFault.{ElementFault}
use Rattle.profile_install.specs.declared.fault.ElementFault.TheVariants.{NoRoom, Malformed}
use Rattle.profile_install.specs.declared.fault.ElementFault.TheVariants.{BadParameter}
use Rattle.profile_install.specs.declared.pin_entry.PinFields.{PinFields}
use Rattle.profile_install.specs.declared.puk_entry.NamedPuk.{NamedPuk}
use Rattle.profile_install.specs.declared.puk_entry.PukFields.{PukFields}
use Rattle.profile_install.specs.declared.values.Tries.{Tries}
use Rattle.profile_install.proofs.GoodDraft.{IsGood, IsPuk}
use Rattle.profile_install.proofs.Oks.{if_ok, not_ok, ok_is, then_ok}

abbrev pub AreBytes : List ℕ → Type 0
AreBytes bytes = AllByRecursion (λ byte. byte < 256) bytes

one_is : (value : List ℕ) (byte : ℕ) → AreBytes value → one_byte value ≡ Ok byte → byte < 256
one_is [] byte are e = absurd (not_ok Malformed byte e)
one_is (b ∷ []) byte are e = subst (λ (n : ℕ). n < 256) (ok_is b byte e) are.0
one_is (b ∷ c ∷ more) byte are e = absurd (not_ok Malformed byte e)

abbrev Good : Tries → Type 0
Good tries = AreTries tries.max tries.left

tries_are : (value : List ℕ) (tries : Tries) → AreBytes value → tries_in value ≡ Ok tries
    → AreTries tries.max tries.left
tries_are value tries are e =
    let made = then_ok (λ (byte : ℕ). tries_if_good (tries_of byte)) (one_byte value) tries e in
    let small = one_is value made.0 are made.1 in
    if_ok (are_tries (tries_of made.0)) (Ok (tries_of made.0)) (Err BadParameter) tries made.2
    (λ holds is.
    let both = two_hold (nat_le 1 (made.0 / 16)) (nat_le (made.0 % 16) (made.0 / 16)) holds in
    subst (λ (t : Tries). Good t) (ok_is (tries_of made.0) tries is)
    (record {
      some = le_of 1 (made.0 / 16) both.0;
      few = omega (arith, small);
      left = le_of
          (made.0 % 16) (made.0 / 16) both.1;
    }))
    (λ fails no. absurd (not_ok BadParameter tries no))

-- what a field that is kept has
kept_is : {T : Type 0} (P : T → Type 0) (before : Option T) (found : Result T ElementFault)
    (now : Option T) → ((value : T) → found ≡ Ok value → P value) → kept before found ≡ Ok now
    → IfSome now P
kept_is P (Some before) found now gives e = absurd (not_ok Malformed now e)
kept_is P None (Ok value) now gives e = subst (λ (o : Option _). IfSome o P)
    (ok_is (Some value) now e) (gives value refl)
kept_is P None (Err fault) now gives e = absurd (not_ok fault now e)

pub record ArePukFields (fields : PukFields) : Type 0 where
  pub tries : IfSome fields.tries (λ tries. AreTries tries.max tries.left)

pub puk_field : (puks : List NamedPuk) (fields new : PukFields) (tag : ℕ) (value : List ℕ)
    → AreBytes value → ArePukFields fields → with_puk_field puks fields tag value ≡ Ok new
    → ArePukFields new
puk_field puks fields new tag value are before e =
    let third : Result PukFields ElementFault = cond (tag == 0x84)
    (then_with (λ tries. Ok (record fields { tries = tries }))
    (kept fields.tries (tries_in value))) (Err Malformed) in
    let second : Result PukFields ElementFault = cond (tag == 0x81)
    (then_with (λ its. Ok (record fields { value = its }))
    (kept fields.value (eight_bytes value))) third in
    if_ok (tag == 0x80) (then_with (λ key. Ok (record fields { key = key }))
    (kept fields.key (puk_key puks value))) second new e
    (λ _ is.
    let made = then_ok (λ (key : Option ℕ). let r : Result PukFields ElementFault = Ok
    (record fields { key = key }) in r) (kept fields.key (puk_key puks value)) new is in
    subst (λ (f : PukFields). ArePukFields f) (ok_is (record fields { key = made.0 }) new made.2)
    (record { tries = before.tries }))
    (λ _ rest. if_ok (tag == 0x81)
    (then_with (λ its. Ok (record fields { value = its }))
    (kept fields.value (eight_bytes value))) third new rest
    (λ _ is.
    let made = then_ok (λ (its : Option (List ℕ)). let r : Result PukFields ElementFault = Ok
    (record fields { value = its }) in r) (kept fields.value (eight_bytes value)) new is in
    subst (λ (f : PukFields). ArePukFields f) (ok_is (record fields { value = made.0 }) new made.2)
    (record { tries = before.tries }))
    (λ _ last. if_ok (tag == 0x84)
    (then_with (λ tries. Ok (record fields { tries = tries }))
    (kept fields.tries (tries_in value))) (Err Malformed) new last
    (λ _ is.
    let made = then_ok (λ (tries : Option Tries). let r : Result PukFields ElementFault = Ok
    (record fields { tries = tries }) in r) (kept fields.tries (tries_in value)) new is in
    subst (λ (f : PukFields). ArePukFields f) (ok_is (record fields { tries = made.0 }) new made.2)
    (record {
      tries = kept_is (λ (t : Tries). AreTries t.max t.left) fields.tries (tries_in value)
          made.0 (λ tries is. tries_are value tries are is) made.1;
    }))
    (λ _ no. absurd (not_ok Malformed new no))))

-- the tries that are given, or those that stand for none
tries_or : (given : Option Tries) (other : Tries)
    → IfSome given (λ tries. AreTries tries.max tries.left) → AreTries other.max other.left
    → AreTries (unwrap_or given other).max (unwrap_or given other).left
tries_or None other given default = default
tries_or (Some tries) other given default = given

pub puk_is : (fields : PukFields) (puk : NamedPuk) → ArePukFields fields → puk_told fields ≡ Ok puk
    → IsPuk puk
puk_is fields puk are e = by_parts fields.key fields.value e
  where
    by_parts : (key : Option ℕ) (value : Option (List ℕ))
        → puk_of key value (unwrap_or fields.tries (tries_of 0xAA)) ≡ Ok puk → IsPuk puk
    by_parts None value e = absurd (not_ok Malformed puk e)
    by_parts (Some key) None e = absurd (not_ok Malformed puk e)
    by_parts (Some key) (Some value) e =
        let tries = unwrap_or fields.tries (tries_of 0xAA) in
        let told : NamedPuk = record
        { key = key; puk = record { value = value; max = tries.max; left = tries.left } } in
        subst (λ (p : NamedPuk). IsPuk p) (ok_is told puk e)
        (tries_or fields.tries (tries_of 0xAA) are.tries
        (record { some = omega arith; few = omega arith; left = omega arith }))

-- the key has a home at which no PIN has it
pub record IsKeyFree (draft : Draft) (key : ℕ) : Type 0 where
  pub home : List ℕ
  pub at : home_of draft.home key ≡ Some home
  pub free : is_key_taken draft.pins home key ≡ false

pub record ArePinFields (draft : Draft) (fields : PinFields) : Type 0 where
  pub key : IfSome fields.key (IsKeyFree draft)
  pub puk : IfSome fields.puk (λ puk. AreTries puk.max puk.left)
  pub tries : IfSome fields.tries (λ tries. AreTries tries.max tries.left)

key_free : (draft : Draft) (value : List ℕ) (key : ℕ)
    → pin_key draft.pins draft.home value ≡ Ok key → IsKeyFree draft key
key_free draft value key e =
    let made = then_ok (λ (key : ℕ). key_at draft.pins key (home_of draft.home key))
    (one_byte value) key e in
    by_home made.0 (home_of draft.home made.0) refl made.2
  where
    by_home : (found : ℕ) (home : Option (List ℕ)) → home_of draft.home found ≡ home
        → key_at draft.pins found home ≡ Ok key → IsKeyFree draft key
    by_home found None is e = absurd (not_ok BadParameter key e)
    by_home found (Some home) is e = if_ok (is_key_taken draft.pins home found) (Err BadParameter)
        (Ok found) key e
        (λ taken no. absurd (not_ok BadParameter key no))
        (λ free yes. subst (λ (k : ℕ). IsKeyFree draft k) (ok_is found key yes)
        (record { home = home; at = is; free = free }))

puk_good : (puks : List NamedPuk) (value : List ℕ) (puk : Puk) → AllByRecursion IsPuk puks
    → puk_named puks value ≡ Ok puk → AreTries puk.max puk.left
puk_good puks value puk good e =
    let made = then_ok (λ (key : ℕ). puk_found (find (λ (puk : NamedPuk). puk.key == key) puks))
    (one_byte value) puk e in
    by_found made.0 (find (λ (puk : NamedPuk). puk.key == made.0) puks) refl made.2
  where
    by_found : (key : ℕ) (o : Option NamedPuk) → find (λ (puk : NamedPuk). puk.key == key) puks ≡ o
        → puk_found o ≡ Ok puk → AreTries puk.max puk.left
    by_found key None is e = absurd (not_ok BadParameter puk e)
    by_found key (Some named) is e =
        subst (λ (p : Puk). AreTries p.max p.left) (ok_is named.puk puk e)
        (found_has IsPuk (λ (puk : NamedPuk). puk.key == key) puks named good is)

module _ (draft : Draft) (fields new : PinFields) (tag : ℕ) (value : List ℕ) (are : AreBytes value)
    (before : ArePinFields draft fields) where
  pin_option : AllByRecursion IsPuk draft.puks → with_pin_option draft fields tag value ≡ Ok new
      → ArePinFields draft new
  pin_option puks e =
      let third : Result PinFields ElementFault = cond (tag == 0x84)
      (then_with (λ tries. Ok (record fields { tries = tries }))
      (kept fields.tries (tries_in value))) (Err Malformed) in
      let second : Result PinFields ElementFault = cond (tag == 0x83)
      (then_with (λ attributes. Ok (record fields { attributes = attributes }))
      (kept fields.attributes (one_byte value))) third in
      if_ok (tag == 0x82) (then_with (λ puk. Ok (record fields { puk = puk }))
      (kept fields.puk (puk_named draft.puks value))) second new e
      (λ _ is.
      let made = then_ok (λ (puk : Option Puk). let r : Result PinFields ElementFault = Ok
      (record fields { puk = puk }) in r) (kept fields.puk (puk_named draft.puks value)) new is
      in
      subst (λ (f : PinFields). ArePinFields draft f)
      (ok_is (record fields { puk = made.0 }) new made.2)
      (record {
        key = before.key;
        puk = kept_is (λ (p : Puk). AreTries p.max p.left) fields.puk
            (puk_named draft.puks value) made.0 (λ puk is. puk_good draft.puks value puk puks is)
            made.1;
        tries = before.tries;
      }))
      (λ _ rest. if_ok (tag == 0x83)
      (then_with (λ attributes. Ok (record fields { attributes = attributes }))
      (kept fields.attributes (one_byte value))) third new rest
      (λ _ is.
      let made = then_ok (λ (attributes : Option ℕ). let r : Result PinFields ElementFault = Ok
      (record fields { attributes = attributes }) in r)
      (kept fields.attributes (one_byte value)) new is in
      subst (λ (f : PinFields). ArePinFields draft f)
      (ok_is (record fields { attributes = made.0 }) new made.2)
      (record { key = before.key; puk = before.puk; tries = before.tries }))
      (λ _ last. if_ok (tag == 0x84)
      (then_with (λ tries. Ok (record fields { tries = tries }))
      (kept fields.tries (tries_in value))) (Err Malformed) new last
      (λ _ is.
      let made = then_ok (λ (tries : Option Tries). let r : Result PinFields ElementFault = Ok
      (record fields { tries = tries }) in r) (kept fields.tries (tries_in value)) new is in
      subst (λ (f : PinFields). ArePinFields draft f)
      (ok_is (record fields { tries = made.0 }) new made.2)
      (record {
        key = before.key;
        puk = before.puk;
        tries = kept_is
            (λ (t : Tries). AreTries t.max t.left) fields.tries (tries_in value) made.0
            (λ tries is. tries_are value tries are is) made.1;
      }))
      (λ _ no. absurd (not_ok Malformed new no))))

  pub pin_field : AllByRecursion IsPuk draft.puks → with_pin_field draft fields tag value ≡ Ok new
      → ArePinFields draft new
  pin_field puks e =
      let second : Result PinFields ElementFault = cond (tag == 0x81)
      (then_with (λ its. Ok (record fields { value = its }))
      (kept fields.value (eight_bytes value))) (with_pin_option draft fields tag value) in
      if_ok (tag == 0x80) (then_with (λ key. Ok (record fields { key = key }))
      (kept fields.key (pin_key draft.pins draft.home value))) second new e
      (λ _ is.
      let made = then_ok (λ (key : Option ℕ). let r : Result PinFields ElementFault = Ok
      (record fields { key = key }) in r)
      (kept fields.key (pin_key draft.pins draft.home value)) new is in
      subst (λ (f : PinFields). ArePinFields draft f)
      (ok_is (record fields { key = made.0 }) new made.2)
      (record {
        key = kept_is (IsKeyFree draft) fields.key (pin_key draft.pins draft.home value)
            made.0 (λ key is. key_free draft value key is) made.1;
        puk = before.puk;
        tries =
            before.tries;
      }))
      (λ _ rest. if_ok (tag == 0x81)
      (then_with (λ its. Ok (record fields { value = its }))
      (kept fields.value (eight_bytes value))) (with_pin_option draft fields tag value) new
      rest
      (λ _ is.
      let made = then_ok (λ (its : Option (List ℕ)). let r : Result PinFields ElementFault = Ok
      (record fields { value = its }) in r) (kept fields.value (eight_bytes value)) new is in
      subst (λ (f : PinFields). ArePinFields draft f)
      (ok_is (record fields { value = made.0 }) new made.2)
      (record { key = before.key; puk = before.puk; tries = before.tries }))
      (λ _ last. pin_option puks last))

or_cases : (a b : Bool) → (a || b) ≡ true → (a ≡ true) ⊎ (b ≡ true)
or_cases true b e = inl refl
or_cases false b e = inr e

global_is : (key : ℕ) → is_global_key key ≡ true → IsGlobalKey key
global_is key e = ⊎_elim
    (λ low. let both = two_hold (nat_le 1 key) (nat_le key 8) low in inl
    (le_of 1 key both.0, le_of key 8 both.1))
    (λ other. inr (⊎_elim
    (λ adm. let both = two_hold (nat_le 10 key) (nat_le key 14) adm in inl
    (le_of 10 key both.0, le_of key 14 both.1))
    (λ last. inr ((Decides-eqb key 17).0 last))
    (or_cases (nat_le 10 key && nat_le key 14) (key == 17) other)))
    (or_cases (nat_le 1 key && nat_le key 8) ((nat_le 10 key && nat_le key 14) || (key == 17)) e)

local_is : (key : ℕ) → is_local_key key ≡ true → IsLocalKey key
local_is key e = let both = two_hold (nat_le 129 key) (nat_le key 136) e in
    (le_of 129 key both.0, le_of key 136 both.1)

not_master : (path : List ℕ) → not (length path == 0) ≡ true → path ≢ []
not_master path e none = true≢false (sym e ∙ ap (λ (p : List ℕ). not (length p == 0)) none)

-- where a key is at home
home_is : (last : List ℕ) (key : ℕ) (home : List ℕ) → home_of last key ≡ Some home
    → ((IsGlobalKey key × (home ≡ master)) ⊎ (IsLocalKey key × (home ≢ master))) ×
    ((home ≡ master) ⊎ (home ≡ last))
home_is last key home e = global (is_global_key key) refl e
  where
    local : (b : Bool) → (is_local_key key && not (length last == 0)) ≡ b
        → cond b (Some last) None ≡ Some home
        → ((IsGlobalKey key × (home ≡ master)) ⊎ (IsLocalKey key × (home ≢ master))) ×
        ((home ≡ master) ⊎ (home ≡ last))
    local true is e =
        let both = two_hold (is_local_key key) (not (length last == 0)) is in
        let same : last ≡ home = cc in
        (inr (local_is key both.0, λ none. not_master last both.1 (same ∙ none)), inr (sym same))
    local false is e = absurd (let no : None ≡ Some home = e in cc)

    global : (b : Bool) → is_global_key key ≡ b
        → cond b (Some master) (cond (is_local_key key && not (length last == 0)) (Some last) None)
        ≡ Some home
        → ((IsGlobalKey key × (home ≡ master)) ⊎ (IsLocalKey key × (home ≢ master))) ×
        ((home ≡ master) ⊎ (home ≡ last))
    global true is e = let same : master ≡ home = cc in
        (inl (global_is key is, sym same), inl (sym same))
    global false is e = local (is_local_key key && not (length last == 0)) refl e

none_any : {X : Type 0} (test : X → Bool) (xs : List X) → list_any test xs ≡ false
    → AllByRecursion (λ x. test x ≡ false) xs
none_any test [] e = tt
none_any {X} test (x ∷ xs) e =
    let step : (b : Bool) → test x ≡ b → (b || list_any test xs) ≡ false
    → (test x ≡ false) × AllByRecursion (λ x. test x ≡ false) xs
    = λ b. elim b as (λ b. test x ≡ b → (b || list_any test xs) ≡ false
    → (test x ≡ false) × AllByRecursion (λ x. test x ≡ false) xs) [
      | true ↦ λ is f. absurd (true≢false f)
      | false ↦ λ is f. (is, none_any test xs f)
    ]
    in step (test x) refl e

-- a draft with one PIN more
module _ (draft : Draft) (pin : PinRow) (good : IsGood draft)
    (master_held : HoldsFilesAt draft.rows []) where
  pin_number : pin.number ≡ length draft.pins + 1
      → AllByRecursion (λ (other : PinRow). other.number ≤ length (draft.pins ++ pin ∷ []))
      (draft.pins ++ pin ∷ [])
  pin_number is =
      let long : length (draft.pins ++ pin ∷ []) ≡ length draft.pins + 1 = length-append draft.pins
      (pin ∷ []) in
      each_append (λ (other : PinRow). other.number ≤ length (draft.pins ++ pin ∷ [])) draft.pins
      (pin ∷ [])
      (each_weaker (λ (other : PinRow). other.number ≤ length draft.pins)
      (λ (other : PinRow). other.number ≤ length (draft.pins ++ pin ∷ []))
      (λ other few. omega (arith, few, long)) draft.pins good.numbers)
      (omega (arith, is, long), tt)

  pin_home : (pin.home ≡ master) ⊎ (pin.home ≡ draft.home) → IsAtHome (heads_of draft.rows) pin
  pin_home either =
      let at : HoldsFilesAt draft.rows pin.home = ⊎_elim
      (λ none. subst (HoldsFilesAt draft.rows) (sym none) master_held)
      (λ last. subst (HoldsFilesAt draft.rows) (sym last)
      (⊎_elim (λ none. subst (HoldsFilesAt draft.rows) (sym none) master_held) (λ there. there)
      good.home))
      either in
      any_of_map (λ (row : FileRow). row.head)
      (λ (head : FileHead). IsTrue (holds_files head.kind) × (head.path ≡ pin.home)) draft.rows
      at

  pub with_pin_good : IsPin pin → (pin.home ≡ master) ⊎ (pin.home ≡ draft.home)
      → pin.number ≡ length draft.pins + 1 → is_key_taken draft.pins pin.home pin.key ≡ false
      → length draft.pins < 32
      → IsGood (record draft { pins = draft.pins ++ pin ∷ [] })
  with_pin_good is home number free few = record {
    valid = record {
      quota = good.valid.quota;
      few_pins = omega (arith, few, length-append draft.pins (pin ∷ []));
      system = ⊎_elim
          (λ empty. absurd (any_none _
          (subst (λ (rows : List FileRow). HoldsFilesAt rows []) empty.rows master_held)))
          (λ system. inr (record {
            files = system.files;
            pins = record {
              each = each_append IsPin draft.pins (pin ∷ []) system.pins.each (is, tt);
              homes = each_append (IsAtHome (heads_of draft.rows)) draft.pins (pin ∷ [])
                  system.pins.homes (pin_home home, tt);
              numbers = two_push (λ (one other : PinRow). one.number ≢ other.number) draft.pins pin
                  system.pins.numbers
                  (each_weaker (λ (other : PinRow). other.number ≤ length draft.pins)
                  (λ other. other.number ≢ pin.number)
                  (λ other below same. omega (arith, below, same, number)) draft.pins
                  good.numbers);
              keys = two_push (λ (one other : PinRow). ShareKey one other → ⊥) draft.pins pin
                  system.pins.keys
                  (each_weaker (λ (other : PinRow).
                  ((other.key == pin.key) && same_path other.home pin.home) ≡ false)
                  (λ other. ShareKey other pin → ⊥)
                  (λ other fails share. true≢false
                  (sym (rw (
                    (Decides-eqb other.key pin.key).1 share.key,
                    (bytes_eq-Decides other.home pin.home).1 share.home,
                  ) refl) ∙ fails))
                  draft.pins (none_any (λ (other : PinRow). (other.key == pin.key) && same_path
                  other.home pin.home) draft.pins free));
            };
          }))
          good.valid.system;
    };
    left = good.left;
    home = good.home;
    numbers = pin_number number;
    puks = good.puks;
  }

-- the PIN at the end of its entry
pub pin_good : (draft : Draft) (fields : PinFields) (pin : PinRow) → IsGood draft
    → HoldsFilesAt draft.rows [] → ArePinFields draft fields → pin_told draft fields ≡ Ok pin
    → IsGood (record draft { pins = draft.pins ++ pin ∷ [] })
pin_good draft fields pin good there are e = by_parts fields.key fields.value are.key e
  where
    by_parts : (key : Option ℕ) (value : Option (List ℕ)) → IfSome key (IsKeyFree draft)
        → pin_of draft fields key value ≡ Ok pin
        → IsGood (record draft { pins = draft.pins ++ pin ∷ [] })
    by_parts None value free e = absurd (not_ok Malformed pin e)
    by_parts (Some key) None free e = absurd (not_ok Malformed pin e)
    by_parts (Some key) (Some value) free e =
        if_ok (nat_le 32 (length draft.pins)) (Err NoRoom)
        (Ok (pin_with draft fields key value (unwrap_or fields.tries (tries_of 0x33)))) pin e
        (λ full no. absurd (not_ok NoRoom pin no))
        (λ room yes.
        let few : length draft.pins < 32 = grind (arith, nat_tests) in
        let at = home_is draft.home key free.home free.at in
        let home : unwrap_or (home_of draft.home key) master ≡ free.home = ap
        (λ (o : Option (List ℕ)). unwrap_or o master) free.at in
        let now : PinRow = pin_with draft fields key value (unwrap_or fields.tries (tries_of 0x33))
        in
        let is : IsPin now = record {
          smallest = omega arith;
          largest = omega (arith, few);
          key = subst (λ (h : List ℕ). (IsGlobalKey key × (h ≡ master)) ⊎
              (IsLocalKey key × (h ≢ master))) (sym home) at.0;
          tries = tries_or fields.tries (tries_of 0x33) are.tries
              (record { some = omega arith; few = omega arith; left = omega arith });
          puk = are.puk;
        } in
        subst (λ (p : PinRow). IsGood (record draft { pins = draft.pins ++ p ∷ [] }))
        (ok_is now pin yes)
        (with_pin_good draft now good there is
        (subst (λ (h : List ℕ). (h ≡ master) ⊎ (h ≡ draft.home)) (sym home) at.1) refl
        (subst (λ (h : List ℕ). is_key_taken draft.pins h key ≡ false) (sym home) free.free) few))
