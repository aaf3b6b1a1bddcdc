-- What is written of a file is read again as it was.
use Rattle.std.proofs.Common.{◌≡◌, ℕ, ◌+◌, ◌*◌, ◌/◌, ◌%◌, ◌^◌, ◌<◌, ◌≤◌, Bool, true, false, not}
use Rattle.std.proofs.Common.{cond, eqb, List, [], ◌∷◌, ◌++◌, length, map, take, Option, Some, None}
use Rattle.std.proofs.Common.{refl, sym, ap, subst, arith, rules, append-nil, length-append}
use Rattle.std.specs.Prelude.{is_some, IfSome, option_map}
use Rattle.std.specs.List.{AllByRecursion, filter_map, cons_option}
use Rattle.std.specs.Int.{w16, to_be_bytes}
use Rattle.std.proofs.lemmas.Bool.Decides.{nat_tests}
use Rattle.std.proofs.lemmas.List.{take_all, length-take}
use Rattle.ber_tlv.specs.Length.{length_bytes}
use Rattle.ber_tlv.specs.Tag.{IsTag}
use Rattle.ber_tlv.specs.Tlv.{shortest}
use Rattle.ber_tlv.specs.Walk.{Object, LeadWith, spelled}
use Rattle.ber_tlv.proofs.Walking.{lead_with_spelled}
use Rattle.file_rows.specs.FileHead.{holds_files}
use Rattle.file_rows.specs.declared.head.FileHead.{FileHead}
use Rattle.file_rows.specs.declared.head.Kind.{Kind}
use Rattle.file_rows.specs.declared.head.Kind.TheVariants.{Master, Directory, Application}
use Rattle.file_rows.specs.declared.head.Kind.TheVariants.{Transparent, Linear, Cyclic}
use Rattle.file_rows.specs.declared.head.Life.{Life}
use Rattle.file_rows.specs.declared.head.Life.TheVariants.{Active, Deactivated, Terminated}
use Rattle.file_rows.specs.declared.head.Rule.{Rule}
use Rattle.file_rows.specs.declared.pin.PinRow.{PinRow}
use Rattle.fcp_codec.specs.declared.fcp.Fcp.{Fcp}
use Rattle.fcp_codec.specs.declared.fcp.RuleRef.{RuleRef}
use Rattle.fcp_codec.specs.declared.fcp.RuleRef.TheVariants.{Whole}
use Rattle.fcp_codec.specs.declared.pin_status.PinStatus.{PinStatus}
use Rattle.fcp_codec.specs.declared.pin_status.TheConstants.{KEYS}
use Rattle.fcp_codec.specs.declared.tags.TheConstants.{SIZE, DESCRIPTOR, IDENTIFIER, NAME, SFI}
use Rattle.fcp_codec.specs.declared.tags.TheConstants.{LIFE, RULE, PROPRIETARY, PIN_STATUS, ENABLED}
use Rattle.fcp_codec.specs.FileForm.{form_of}
use Rattle.fcp_codec.specs.Values.{id_of, size_of, sfi_of, life_of}
use Rattle.fcp_codec.specs.RuleRef.{rule_of}
use Rattle.fcp_codec.specs.PinStatus.{status_of, statuses_of, status_objects, template_of}
use Rattle.fcp_codec.specs.PinStatus.{key_object, status_bytes}
use Rattle.file_rows.specs.Path.{own_id}
use Rattle.fcp_codec.specs.Writing.{descriptor_for, life_byte, name_objects, proprietary_objects}
use Rattle.fcp_codec.specs.Writing.{rule_objects, last_objects, objects_for, fcp_for, name_for}
use Rattle.fcp_codec.specs.Writing.{size_for, sfi_for, FitsFields}
use Rattle.fcp_codec.specs.Reading.{NoneIsBad, fcp_of, ReadsAsFcp}

-- two bytes say the number
two_bytes : (n : ℕ) → n < 2 ^ 16 → n / 256 % 256 * 256 + n % 256 ≡ n
two_bytes n h = omega arith

same_fcp : (x y : Fcp) → x.descriptor ≡ y.descriptor → x.id ≡ y.id → x.size ≡ y.size → x.sfi ≡ y.sfi → x.name ≡ y.name → x.life ≡ y.life → x.rule ≡ y.rule → x ≡ y
same_fcp x y a b c d e f g =
    let pairs : (x.descriptor, x.id, x.size, x.sfi, x.name, x.life, x.rule) ≡ (y.descriptor, y.id, y.size, y.sfi, y.name, y.life, y.rule) = cc in
    let made : List ℕ × Option ℕ × Option ℕ × Option ℕ × Option (List ℕ) × Option Life × Option RuleRef → Fcp =
    λ p. record { descriptor = p.0; id = p.1; size = p.2; sfi = p.3; name = p.4; life = p.5; rule = p.6 } in
    ap made pairs

has_form : (kind : Kind) (record_len size : ℕ) → is_some (form_of (descriptor_for kind record_len size)) ≡ true
has_form Master record_len size = refl
has_form Directory record_len size = refl
has_form Application record_len size = refl
has_form Transparent record_len size = refl
has_form Linear record_len size = refl
has_form Cyclic record_len size = refl

life_again : (life : Life) → life_of (life_byte life ∷ []) ≡ Some life
life_again Active = refl
life_again Deactivated = refl
life_again Terminated = refl

id_again : (n : ℕ) → n < 2 ^ 16 → id_of (to_be_bytes w16 n) ≡ Some n
id_again n h = ap Some (two_bytes n h)

size_again : (n : ℕ) → n < 2 ^ 16 → size_of (to_be_bytes w16 n) ≡ Some n
size_again n h = ap Some (two_bytes n h)

sfi_again : (n : ℕ) → n ≤ 30 → sfi_of (n * 8 ∷ []) ≡ Some n
sfi_again n h = grind (arith, nat_tests)

name_again : (bytes : List ℕ) → length bytes ≤ 17 → Some (take 17 bytes) ≡ Some bytes
name_again bytes h = ap Some (take_all 17 bytes h)

rule_again : (rule : Rule) → rule.file < 2 ^ 16 → rule_of (to_be_bytes w16 rule.file ++ rule.row ∷ []) ≡ Some (Whole rule)
rule_again rule h =
    let made : ℕ → Rule = λ n. record { file = n; row = rule.row } in
    ap (λ n. Some (Whole (made n))) (two_bytes rule.file h)

-- each field has a tag of one byte
tag_descriptor : IsTag DESCRIPTOR
tag_descriptor = search rules

tag_identifier : IsTag IDENTIFIER
tag_identifier = search rules

tag_name : IsTag NAME
tag_name = search rules

tag_proprietary : IsTag PROPRIETARY
tag_proprietary = search rules

tag_life : IsTag LIFE
tag_life = search rules

tag_rule : IsTag RULE
tag_rule = search rules

tag_pin_status : IsTag PIN_STATUS
tag_pin_status = search rules

tag_size : IsTag SIZE
tag_size = search rules

tag_sfi : IsTag SFI
tag_sfi = search rules

-- the fields of one file
abbrev all_objects : List ℕ → ℕ → List ℕ → Bool → Life → Option Rule → List Object → List Object
all_objects d n name directory life rule others =
    record { tag = DESCRIPTOR; value = d }
    ∷ record { tag = IDENTIFIER; value = to_be_bytes w16 n }
    ∷ name_objects name ++ proprietary_objects directory
    ++ record { tag = LIFE; value = life_byte life ∷ [] }
    ∷ rule_objects rule ++ others

abbrev CanBeSpelled : List Object → Type 0
CanBeSpelled objects = AllByRecursion (λ (object : Object). IsTag object.tag × (length object.value < 2 ^ 24)) objects

record Shape (objects : List Object) (fcp : Fcp) : Type 0 where
  good : NoneIsBad [] objects
  says : fcp ≡ fcp_of objects
  spell : CanBeSpelled objects

directory_shape : (d : List ℕ) (n : ℕ) (life : Life) (name : List ℕ) (rule : Option Rule) (statuses : List PinStatus)
    → is_some (form_of d) ≡ true → length d < 2 ^ 24 → n < 2 ^ 16 → length name ≤ 17 → IfSome rule (λ r. r.file < 2 ^ 16) → length (spelled (template_of statuses)) < 2 ^ 24
    → Shape (all_objects d n name true life rule (status_objects statuses))
    (record { descriptor = d; id = Some n; size = None; sfi = None; name = name_for name; life = Some life; rule = option_map Whole rule })
directory_shape d n life [] None [] f ld hn hl hr hp = record {
  good = (ap not f, (refl, (refl, (ap (λ o. not (is_some o)) (life_again life), tt))));
  says = same_fcp _ _ refl (sym (id_again n hn)) refl refl refl (sym (life_again life)) refl;
  spell = ((tag_descriptor, ld), ((tag_identifier, omega arith), ((tag_proprietary, omega arith), ((tag_life, omega arith), tt))));
}
directory_shape d n life [] None (x ∷ xs) f ld hn hl hr hp = record {
  good = (ap not f, (refl, (refl, (ap (λ o. not (is_some o)) (life_again life), (refl, tt)))));
  says = same_fcp _ _ refl (sym (id_again n hn)) refl refl refl (sym (life_again life)) refl;
  spell = ((tag_descriptor, ld), ((tag_identifier, omega arith), ((tag_proprietary, omega arith), ((tag_life, omega arith), ((tag_pin_status, hp), tt)))));
}
directory_shape d n life [] (Some rule) [] f ld hn hl hr hp = record {
  good = (ap not f, (refl, (refl, (ap (λ o. not (is_some o)) (life_again life), (refl, tt)))));
  says = same_fcp _ _ refl (sym (id_again n hn)) refl refl refl (sym (life_again life)) (sym (rule_again rule hr));
  spell = ((tag_descriptor, ld), ((tag_identifier, omega arith), ((tag_proprietary, omega arith), ((tag_life, omega arith), ((tag_rule, omega arith), tt)))));
}
directory_shape d n life [] (Some rule) (x ∷ xs) f ld hn hl hr hp = record {
  good = (ap not f, (refl, (refl, (ap (λ o. not (is_some o)) (life_again life), (refl, (refl, tt))))));
  says = same_fcp _ _ refl (sym (id_again n hn)) refl refl refl (sym (life_again life)) (sym (rule_again rule hr));
  spell = ((tag_descriptor, ld), ((tag_identifier, omega arith), ((tag_proprietary, omega arith), ((tag_life, omega arith), ((tag_rule, omega arith), ((tag_pin_status, hp), tt))))));
}
directory_shape d n life (b ∷ bs) None [] f ld hn hl hr hp = record {
  good = (ap not f, (refl, (refl, (refl, (ap (λ o. not (is_some o)) (life_again life), tt)))));
  says = same_fcp _ _ refl (sym (id_again n hn)) refl refl (sym (name_again (b ∷ bs) hl)) (sym (life_again life)) refl;
  spell = ((tag_descriptor, ld), ((tag_identifier, omega arith), ((tag_name, omega arith), ((tag_proprietary, omega arith), ((tag_life, omega arith), tt)))));
}
directory_shape d n life (b ∷ bs) None (x ∷ xs) f ld hn hl hr hp = record {
  good = (ap not f, (refl, (refl, (refl, (ap (λ o. not (is_some o)) (life_again life), (refl, tt))))));
  says = same_fcp _ _ refl (sym (id_again n hn)) refl refl (sym (name_again (b ∷ bs) hl)) (sym (life_again life)) refl;
  spell = ((tag_descriptor, ld), ((tag_identifier, omega arith), ((tag_name, omega arith), ((tag_proprietary, omega arith), ((tag_life, omega arith), ((tag_pin_status, hp), tt))))));
}
directory_shape d n life (b ∷ bs) (Some rule) [] f ld hn hl hr hp = record {
  good = (ap not f, (refl, (refl, (refl, (ap (λ o. not (is_some o)) (life_again life), (refl, tt))))));
  says = same_fcp _ _ refl (sym (id_again n hn)) refl refl (sym (name_again (b ∷ bs) hl)) (sym (life_again life)) (sym (rule_again rule hr));
  spell = ((tag_descriptor, ld), ((tag_identifier, omega arith), ((tag_name, omega arith), ((tag_proprietary, omega arith), ((tag_life, omega arith), ((tag_rule, omega arith), tt))))));
}
directory_shape d n life (b ∷ bs) (Some rule) (x ∷ xs) f ld hn hl hr hp = record {
  good = (ap not f, (refl, (refl, (refl, (ap (λ o. not (is_some o)) (life_again life), (refl, (refl, tt)))))));
  says = same_fcp _ _ refl (sym (id_again n hn)) refl refl (sym (name_again (b ∷ bs) hl)) (sym (life_again life)) (sym (rule_again rule hr));
  spell = ((tag_descriptor, ld), ((tag_identifier, omega arith), ((tag_name, omega arith), ((tag_proprietary, omega arith), ((tag_life, omega arith), ((tag_rule, omega arith), ((tag_pin_status, hp), tt)))))));
}

elementary_shape : (d : List ℕ) (n : ℕ) (life : Life) (name : List ℕ) (rule : Option Rule) (size sfi : ℕ) (none : Bool)
    → is_some (form_of d) ≡ true → length d < 2 ^ 24 → n < 2 ^ 16 → length name ≤ 17 → IfSome rule (λ r. r.file < 2 ^ 16) → size < 2 ^ 16 → sfi ≤ 30
    → Shape (all_objects d n name false life rule (record { tag = SIZE; value = to_be_bytes w16 size } ∷ cond none [] (record { tag = SFI; value = sfi * 8 ∷ [] } ∷ [])))
    (record { descriptor = d; id = Some n; size = Some size; sfi = cond none None (Some sfi); name = name_for name; life = Some life; rule = option_map Whole rule })
elementary_shape d n life [] None size sfi true f ld hn hl hr hs hf = record {
  good = (ap not f, (refl, (ap (λ o. not (is_some o)) (life_again life), (refl, tt))));
  says = same_fcp _ _ refl (sym (id_again n hn)) (sym (size_again size hs)) refl refl (sym (life_again life)) refl;
  spell = ((tag_descriptor, ld), ((tag_identifier, omega arith), ((tag_life, omega arith), ((tag_size, omega arith), tt))));
}
elementary_shape d n life [] None size sfi false f ld hn hl hr hs hf = record {
  good = (ap not f, (refl, (ap (λ o. not (is_some o)) (life_again life), (refl, (ap (λ o. not (is_some o)) (sfi_again sfi hf), tt)))));
  says = same_fcp _ _ refl (sym (id_again n hn)) (sym (size_again size hs)) (sym (sfi_again sfi hf)) refl (sym (life_again life)) refl;
  spell = ((tag_descriptor, ld), ((tag_identifier, omega arith), ((tag_life, omega arith), ((tag_size, omega arith), ((tag_sfi, omega arith), tt)))));
}
elementary_shape d n life [] (Some rule) size sfi true f ld hn hl hr hs hf = record {
  good = (ap not f, (refl, (ap (λ o. not (is_some o)) (life_again life), (refl, (refl, tt)))));
  says = same_fcp _ _ refl (sym (id_again n hn)) (sym (size_again size hs)) refl refl (sym (life_again life)) (sym (rule_again rule hr));
  spell = ((tag_descriptor, ld), ((tag_identifier, omega arith), ((tag_life, omega arith), ((tag_rule, omega arith), ((tag_size, omega arith), tt)))));
}
elementary_shape d n life [] (Some rule) size sfi false f ld hn hl hr hs hf = record {
  good = (ap not f, (refl, (ap (λ o. not (is_some o)) (life_again life), (refl, (refl, (ap (λ o. not (is_some o)) (sfi_again sfi hf), tt))))));
  says = same_fcp _ _ refl (sym (id_again n hn)) (sym (size_again size hs)) (sym (sfi_again sfi hf)) refl (sym (life_again life)) (sym (rule_again rule hr));
  spell = ((tag_descriptor, ld), ((tag_identifier, omega arith), ((tag_life, omega arith), ((tag_rule, omega arith), ((tag_size, omega arith), ((tag_sfi, omega arith), tt))))));
}
elementary_shape d n life (b ∷ bs) None size sfi true f ld hn hl hr hs hf = record {
  good = (ap not f, (refl, (refl, (ap (λ o. not (is_some o)) (life_again life), (refl, tt)))));
  says = same_fcp _ _ refl (sym (id_again n hn)) (sym (size_again size hs)) refl (sym (name_again (b ∷ bs) hl)) (sym (life_again life)) refl;
  spell = ((tag_descriptor, ld), ((tag_identifier, omega arith), ((tag_name, omega arith), ((tag_life, omega arith), ((tag_size, omega arith), tt)))));
}
elementary_shape d n life (b ∷ bs) None size sfi false f ld hn hl hr hs hf = record {
  good = (ap not f, (refl, (refl, (ap (λ o. not (is_some o)) (life_again life), (refl, (ap (λ o. not (is_some o)) (sfi_again sfi hf), tt))))));
  says = same_fcp _ _ refl (sym (id_again n hn)) (sym (size_again size hs)) (sym (sfi_again sfi hf)) (sym (name_again (b ∷ bs) hl)) (sym (life_again life)) refl;
  spell = ((tag_descriptor, ld), ((tag_identifier, omega arith), ((tag_name, omega arith), ((tag_life, omega arith), ((tag_size, omega arith), ((tag_sfi, omega arith), tt))))));
}
elementary_shape d n life (b ∷ bs) (Some rule) size sfi true f ld hn hl hr hs hf = record {
  good = (ap not f, (refl, (refl, (ap (λ o. not (is_some o)) (life_again life), (refl, (refl, tt))))));
  says = same_fcp _ _ refl (sym (id_again n hn)) (sym (size_again size hs)) refl (sym (name_again (b ∷ bs) hl)) (sym (life_again life)) (sym (rule_again rule hr));
  spell = ((tag_descriptor, ld), ((tag_identifier, omega arith), ((tag_name, omega arith), ((tag_life, omega arith), ((tag_rule, omega arith), ((tag_size, omega arith), tt))))));
}
elementary_shape d n life (b ∷ bs) (Some rule) size sfi false f ld hn hl hr hs hf = record {
  good = (ap not f, (refl, (refl, (ap (λ o. not (is_some o)) (life_again life), (refl, (refl, (ap (λ o. not (is_some o)) (sfi_again sfi hf), tt)))))));
  says = same_fcp _ _ refl (sym (id_again n hn)) (sym (size_again size hs)) (sym (sfi_again sfi hf)) (sym (name_again (b ∷ bs) hl)) (sym (life_again life)) (sym (rule_again rule hr));
  spell = ((tag_descriptor, ld), ((tag_identifier, omega arith), ((tag_name, omega arith), ((tag_life, omega arith), ((tag_rule, omega arith), ((tag_size, omega arith), ((tag_sfi, omega arith), tt)))))));
}

at_most_one : (o : Option PinStatus) (rest : List PinStatus) (k : ℕ) → length rest ≤ k → length (cons_option o rest) ≤ k + 1
at_most_one None rest k h = omega arith
at_most_one (Some x) rest k h = omega arith

few : (f : ℕ → Option PinStatus) (keys : List ℕ) → length (filter_map f keys) ≤ length keys
few f [] = omega arith
few f (k ∷ keys) = omega (arith, at_most_one (f k) (filter_map f keys) (length keys) (few f keys))

keys_long : (statuses : List PinStatus) → length (spelled (map key_object statuses)) ≡ 3 * length statuses
keys_long [] = refl
keys_long (x ∷ xs) = omega (arith, keys_long xs)

short_length : (n : ℕ) → length (length_bytes n) ≤ 4
short_length n = grind (arith, nat_tests)

short_take : (k : ℕ) (xs : List ℕ) → length (take k xs) ≤ length xs
short_take k xs = omega (arith, length-take k xs)

short_template : (statuses : List PinStatus) → length statuses ≤ 22 → length (spelled (template_of statuses)) < 2 ^ 24
short_template statuses h =
    let bits = status_bytes statuses in
    let l : length bits ≤ 4 = short_take _ _ in
    let m = short_length (length bits) in
    let k = keys_long statuses in
    omega (arith, length-append (shortest ENABLED bits) (spelled (map key_object statuses)), length-append (length_bytes (length bits)) bits)

short_descriptor : (kind : Kind) (record_len size : ℕ) → length (descriptor_for kind record_len size) < 2 ^ 24
short_descriptor Master record_len size = omega arith
short_descriptor Directory record_len size = omega arith
short_descriptor Application record_len size = omega arith
short_descriptor Transparent record_len size = omega arith
short_descriptor Linear record_len size = omega arith
short_descriptor Cyclic record_len size = omega arith

shape_of : (head : FileHead) (pins : List PinRow) (directory : Bool) → FitsFields head
    → Shape (all_objects (descriptor_for head.kind head.record_len head.size) (own_id head.path) head.name directory head.life head.rule (last_objects directory head pins))
    (record { descriptor = descriptor_for head.kind head.record_len head.size; id = Some (own_id head.path); size = size_for directory head.size; sfi = sfi_for directory head.sfi; name = name_for head.name; life = Some head.life; rule = option_map Whole head.rule })
shape_of head pins true h =
    directory_shape (descriptor_for head.kind head.record_len head.size) (own_id head.path) head.life head.name head.rule (statuses_of head.path pins)
    (has_form head.kind head.record_len head.size) (short_descriptor head.kind head.record_len head.size) h.id h.name h.rule
    (short_template (statuses_of head.path pins) (few (status_of head.path pins) KEYS))
shape_of head pins false h =
    elementary_shape (descriptor_for head.kind head.record_len head.size) (own_id head.path) head.life head.name head.rule head.size head.sfi (eqb head.sfi 0)
    (has_form head.kind head.record_len head.size) (short_descriptor head.kind head.record_len head.size) h.id h.name h.rule h.size h.sfi

pub again : (head : FileHead) (pins : List PinRow) → FitsFields head → ReadsAsFcp (spelled (objects_for head pins)) (fcp_for head)
again head pins h =
    let objects = objects_for head pins in
    let shape = shape_of head pins (holds_files head.kind) h in
    record {
      objects = objects;
      whole = subst (λ s. LeadWith s objects []) (append-nil (spelled objects)) (lead_with_spelled objects [] shape.spell);
      good = shape.good;
      says = shape.says;
    }
