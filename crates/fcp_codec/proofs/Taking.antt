-- One object more is taken or is bad, whichever field it is.
use Rattle.std.proofs.Common.{◌≡◌, ◌⊎◌, ℕ, Bool, true, false, ◌&&◌, ◌||◌, not, cond, eqb, List, []}
use Rattle.std.proofs.Common.{◌∷◌, ◌++◌, Option, Some, None, Result, Ok, Err, refl, sym, ◌∙◌, ap}
use Rattle.std.proofs.Common.{subst, ⊎_elim, inl, inr, arith}
use Rattle.std.specs.Prelude.{is_some, IsSome, IsNone, MatchResult, option_and_then}
use Rattle.std.proofs.lemmas.Bool.Decides.{nat_tests}
use Rattle.ber_tlv.specs.Walk.{Object}
use Rattle.file_rows.specs.declared.head.Life.{Life}
use Rattle.fcp_codec.specs.declared.fault.FcpFault.{FcpFault}
use Rattle.fcp_codec.specs.declared.fault.FcpFault.TheVariants.{BadField}
use Rattle.fcp_codec.specs.declared.fcp.FileForm.{FileForm}
use Rattle.fcp_codec.specs.declared.fcp.RuleRef.{RuleRef}
use Rattle.fcp_codec.specs.declared.read.Fields.{Fields}
use Rattle.fcp_codec.specs.declared.tags.TheConstants.{SIZE, DESCRIPTOR, IDENTIFIER, NAME, SFI}
use Rattle.fcp_codec.specs.declared.tags.TheConstants.{LIFE, RULE, PROPRIETARY, PIN_STATUS}
use Rattle.fcp_codec.specs.FileForm.{form_of}
use Rattle.fcp_codec.specs.RuleRef.{rule_of}
use Rattle.fcp_codec.specs.Values.{descriptor_of, id_of, size_of, sfi_of, name_of, life_of}
use Rattle.fcp_codec.specs.Values.{is_well_formed}
use Rattle.fcp_codec.specs.Reading.{field, is_field, is_bad}
use Rattle.fcp_codec.specs.State.{Keeps, Keep, TakesOneMore}

-- an object with another tag changes no look-up
field_other : (t : ℕ) (objects : List Object) (o : Object) → eqb o.tag t ≡ false → field t (objects ++ o ∷ []) ≡ field t objects
field_other t [] o e = ap (λ b. cond b (Some o.value) None) e
field_other t (x ∷ objects) o e = ap (cond (eqb x.tag t) (Some x.value)) (field_other t objects o e)

passed : (b : Bool) (v : List ℕ) (r : Option (List ℕ)) → cond b (Some v) r ≡ None → (b ≡ false) × (r ≡ None)
passed true v r e = absurd (cc)
passed false v r e = (refl, e)

-- the first object with a tag is the one that is found
field_new : (t : ℕ) (objects : List Object) (o : Object) → eqb o.tag t ≡ true → field t objects ≡ None → field t (objects ++ o ∷ []) ≡ Some o.value
field_new t [] o e n = ap (λ b. cond b (Some o.value) None) e
field_new t (x ∷ objects) o e n =
    let p = passed (eqb x.tag t) x.value (field t objects) n in
    ap (λ b. cond b (Some x.value) (field t (objects ++ o ∷ []))) p.0 ∙ field_new t objects o e p.1

none_of : {X : Type 0} (o : Option X) → is_some o ≡ false → o ≡ None
none_of None e = refl
none_of (Some x) e = absurd (cc)

keeps_other : {X : Type 0} (p : List ℕ → Option X) (t : ℕ) (objects : List Object) (o : Object) (slot : Option X) → eqb o.tag t ≡ false → Keeps p (field t objects) slot → Keeps p (field t (objects ++ o ∷ [])) slot
keeps_other p t objects o slot e k = subst (λ v. Keeps p v slot) (sym (field_other t objects o e)) k

keeps_new : {X : Type 0} (p : List ℕ → Option X) (t : ℕ) (objects : List Object) (o : Object) (old new : Option X) → o.tag ≡ t → eqb t t ≡ true → Keeps p (field t objects) old → IsNone old → IsSome (p o.value) → new ≡ p o.value → Keeps p (field t (objects ++ o ∷ [])) new
keeps_new p t objects o old new e d k n s i =
    let absent = none_of (field t objects) (sym k.there ∙ n) in
    let found = field_new t objects o (ap (λ u. eqb u t) e ∙ d) absent in
    record { says = i ∙ sym (ap (option_and_then p) found); there = ap is_some i ∙ s ∙ sym (ap is_some found) }

marks_other : (t : ℕ) (objects : List Object) (o : Object) (seen : Bool) → eqb o.tag t ≡ false → seen ≡ is_some (field t objects) → seen ≡ is_some (field t (objects ++ o ∷ []))
marks_other t objects o seen e k = k ∙ sym (ap is_some (field_other t objects o e))

marks_new : (t : ℕ) (objects : List Object) (o : Object) (old new : Bool) → o.tag ≡ t → eqb t t ≡ true → old ≡ is_some (field t objects) → old ≡ false → new ≡ true → new ≡ is_some (field t (objects ++ o ∷ []))
marks_new t objects o old new e d k n i =
    let absent = none_of (field t objects) (sym k ∙ n) in
    i ∙ sym (ap is_some (field_new t objects o (ap (λ u. eqb u t) e ∙ d) absent))

-- what makes an object bad, at its tag
bad_at : (t : ℕ) (objects : List Object) (o : Object) → o.tag ≡ t → is_bad objects o ≡ (is_field t && (is_some (field t objects) || not (is_well_formed t o.value)))
bad_at t objects o e = ap (λ u. is_field u && (is_some (field u objects) || not (is_well_formed u o.value))) e

neither : (a b : Bool) → a ≡ false → b ≡ true → (a || not b) ≡ false
neither a b e f = ap (λ x. x || not b) e ∙ ap not f

one_of_both : (a b : Bool) → (a ≡ true) ⊎ (b ≡ false) → (a || not b) ≡ true
one_of_both true b h = refl
one_of_both false true h = ⊎_elim (λ e. e) (λ e. sym e) h
one_of_both false false h = refl

good : {X : Type 0} (raw : Option (List ℕ)) (slot found : Option X) (well : Bool) → is_some slot ≡ is_some raw → well ≡ is_some found → IsNone slot → IsSome found → (is_some raw || not well) ≡ false
good raw slot found well t w n s = neither (is_some raw) well (sym t ∙ n) (w ∙ s)

faulty : {X : Type 0} (raw : Option (List ℕ)) (slot found : Option X) (well : Bool) → is_some slot ≡ is_some raw → well ≡ is_some found → IsSome slot ⊎ IsNone found → (is_some raw || not well) ≡ true
faulty raw slot found well t w h =
    one_of_both (is_some raw) well (⊎_elim (λ s. inl (sym t ∙ s)) (λ n. inr (w ∙ n)) h)

well_form : (value : List ℕ) (form : Option FileForm) → is_some form ≡ is_some (cond (is_some form) (Some value) None)
well_form value None = refl
well_form value (Some form) = refl

well_descriptor : (value : List ℕ) → is_some (form_of value) ≡ is_some (descriptor_of value)
well_descriptor value = well_form value (form_of value)

-- what keeping a value once says
abbrev KeptOnce : {X : Type 0} → Result (Unit {0}) FcpFault → Option X → Option X → Option X → ℕ → Type 0
KeptOnce result old new found tag =
    MatchResult result (λ _. IsNone old × IsSome found × (new ≡ found)) (λ fault. (IsSome old ⊎ IsNone found) × (fault ≡ BadField tag))

abbrev MarkedOnce : Result (Unit {0}) FcpFault → Bool → Bool → ℕ → Type 0
MarkedOnce result old new tag =
    MatchResult result (λ _. (old ≡ false) × (new ≡ true)) (λ fault. (old ≡ true) × (fault ≡ BadField tag))

pub take_descriptor : (objects : List Object) (o : Object) (old : Fields) (new found : Option (List ℕ)) (r : Result (Unit {0}) FcpFault) → o.tag ≡ DESCRIPTOR → found ≡ descriptor_of o.value → KeptOnce r old.descriptor new found o.tag → Keep objects old → TakesOneMore objects o (record old { descriptor = new }) r
take_descriptor objects o old new found (Ok u) e i k h =
    let s : IsSome (descriptor_of o.value) = subst IsSome i k.1 in (
      bad_at DESCRIPTOR objects o e ∙ good (field DESCRIPTOR objects) old.descriptor (descriptor_of o.value) _ h.descriptor.there (well_descriptor o.value) k.0 s,
      record {
        descriptor = keeps_new descriptor_of DESCRIPTOR objects o old.descriptor new e refl h.descriptor k.0 s (k.2 ∙ i);
        id = keeps_other id_of IDENTIFIER objects o old.id (ap (λ u. eqb u IDENTIFIER) e) h.id;
        size = keeps_other size_of SIZE objects o old.size (ap (λ u. eqb u SIZE) e) h.size;
        sfi = keeps_other sfi_of SFI objects o old.sfi (ap (λ u. eqb u SFI) e) h.sfi;
        name = keeps_other name_of NAME objects o old.name (ap (λ u. eqb u NAME) e) h.name;
        life = keeps_other life_of LIFE objects o old.life (ap (λ u. eqb u LIFE) e) h.life;
        rule = keeps_other rule_of RULE objects o old.rule (ap (λ u. eqb u RULE) e) h.rule;
        proprietary = marks_other PROPRIETARY objects o old.proprietary (ap (λ u. eqb u PROPRIETARY) e) h.proprietary;
        pin_status = marks_other PIN_STATUS objects o old.pin_status (ap (λ u. eqb u PIN_STATUS) e) h.pin_status;
      },
    )
take_descriptor objects o old new found (Err g) e i k h =
    (bad_at DESCRIPTOR objects o e ∙ faulty (field DESCRIPTOR objects) old.descriptor (descriptor_of o.value) _ h.descriptor.there (well_descriptor o.value) (subst (λ v. IsSome old.descriptor ⊎ IsNone v) i k.0), k.1)

pub take_id : (objects : List Object) (o : Object) (old : Fields) (new found : Option (ℕ)) (r : Result (Unit {0}) FcpFault) → o.tag ≡ IDENTIFIER → found ≡ id_of o.value → KeptOnce r old.id new found o.tag → Keep objects old → TakesOneMore objects o (record old { id = new }) r
take_id objects o old new found (Ok u) e i k h =
    let s : IsSome (id_of o.value) = subst IsSome i k.1 in (
      bad_at IDENTIFIER objects o e ∙ good (field IDENTIFIER objects) old.id (id_of o.value) _ h.id.there (refl) k.0 s,
      record {
        id = keeps_new id_of IDENTIFIER objects o old.id new e refl h.id k.0 s (k.2 ∙ i);
        descriptor = keeps_other descriptor_of DESCRIPTOR objects o old.descriptor (ap (λ u. eqb u DESCRIPTOR) e) h.descriptor;
        size = keeps_other size_of SIZE objects o old.size (ap (λ u. eqb u SIZE) e) h.size;
        sfi = keeps_other sfi_of SFI objects o old.sfi (ap (λ u. eqb u SFI) e) h.sfi;
        name = keeps_other name_of NAME objects o old.name (ap (λ u. eqb u NAME) e) h.name;
        life = keeps_other life_of LIFE objects o old.life (ap (λ u. eqb u LIFE) e) h.life;
        rule = keeps_other rule_of RULE objects o old.rule (ap (λ u. eqb u RULE) e) h.rule;
        proprietary = marks_other PROPRIETARY objects o old.proprietary (ap (λ u. eqb u PROPRIETARY) e) h.proprietary;
        pin_status = marks_other PIN_STATUS objects o old.pin_status (ap (λ u. eqb u PIN_STATUS) e) h.pin_status;
      },
    )
take_id objects o old new found (Err g) e i k h =
    (bad_at IDENTIFIER objects o e ∙ faulty (field IDENTIFIER objects) old.id (id_of o.value) _ h.id.there (refl) (subst (λ v. IsSome old.id ⊎ IsNone v) i k.0), k.1)

pub take_size : (objects : List Object) (o : Object) (old : Fields) (new found : Option (ℕ)) (r : Result (Unit {0}) FcpFault) → o.tag ≡ SIZE → found ≡ size_of o.value → KeptOnce r old.size new found o.tag → Keep objects old → TakesOneMore objects o (record old { size = new }) r
take_size objects o old new found (Ok u) e i k h =
    let s : IsSome (size_of o.value) = subst IsSome i k.1 in (
      bad_at SIZE objects o e ∙ good (field SIZE objects) old.size (size_of o.value) _ h.size.there (refl) k.0 s,
      record {
        size = keeps_new size_of SIZE objects o old.size new e refl h.size k.0 s (k.2 ∙ i);
        descriptor = keeps_other descriptor_of DESCRIPTOR objects o old.descriptor (ap (λ u. eqb u DESCRIPTOR) e) h.descriptor;
        id = keeps_other id_of IDENTIFIER objects o old.id (ap (λ u. eqb u IDENTIFIER) e) h.id;
        sfi = keeps_other sfi_of SFI objects o old.sfi (ap (λ u. eqb u SFI) e) h.sfi;
        name = keeps_other name_of NAME objects o old.name (ap (λ u. eqb u NAME) e) h.name;
        life = keeps_other life_of LIFE objects o old.life (ap (λ u. eqb u LIFE) e) h.life;
        rule = keeps_other rule_of RULE objects o old.rule (ap (λ u. eqb u RULE) e) h.rule;
        proprietary = marks_other PROPRIETARY objects o old.proprietary (ap (λ u. eqb u PROPRIETARY) e) h.proprietary;
        pin_status = marks_other PIN_STATUS objects o old.pin_status (ap (λ u. eqb u PIN_STATUS) e) h.pin_status;
      },
    )
take_size objects o old new found (Err g) e i k h =
    (bad_at SIZE objects o e ∙ faulty (field SIZE objects) old.size (size_of o.value) _ h.size.there (refl) (subst (λ v. IsSome old.size ⊎ IsNone v) i k.0), k.1)

pub take_sfi : (objects : List Object) (o : Object) (old : Fields) (new found : Option (ℕ)) (r : Result (Unit {0}) FcpFault) → o.tag ≡ SFI → found ≡ sfi_of o.value → KeptOnce r old.sfi new found o.tag → Keep objects old → TakesOneMore objects o (record old { sfi = new }) r
take_sfi objects o old new found (Ok u) e i k h =
    let s : IsSome (sfi_of o.value) = subst IsSome i k.1 in (
      bad_at SFI objects o e ∙ good (field SFI objects) old.sfi (sfi_of o.value) _ h.sfi.there (refl) k.0 s,
      record {
        sfi = keeps_new sfi_of SFI objects o old.sfi new e refl h.sfi k.0 s (k.2 ∙ i);
        descriptor = keeps_other descriptor_of DESCRIPTOR objects o old.descriptor (ap (λ u. eqb u DESCRIPTOR) e) h.descriptor;
        id = keeps_other id_of IDENTIFIER objects o old.id (ap (λ u. eqb u IDENTIFIER) e) h.id;
        size = keeps_other size_of SIZE objects o old.size (ap (λ u. eqb u SIZE) e) h.size;
        name = keeps_other name_of NAME objects o old.name (ap (λ u. eqb u NAME) e) h.name;
        life = keeps_other life_of LIFE objects o old.life (ap (λ u. eqb u LIFE) e) h.life;
        rule = keeps_other rule_of RULE objects o old.rule (ap (λ u. eqb u RULE) e) h.rule;
        proprietary = marks_other PROPRIETARY objects o old.proprietary (ap (λ u. eqb u PROPRIETARY) e) h.proprietary;
        pin_status = marks_other PIN_STATUS objects o old.pin_status (ap (λ u. eqb u PIN_STATUS) e) h.pin_status;
      },
    )
take_sfi objects o old new found (Err g) e i k h =
    (bad_at SFI objects o e ∙ faulty (field SFI objects) old.sfi (sfi_of o.value) _ h.sfi.there (refl) (subst (λ v. IsSome old.sfi ⊎ IsNone v) i k.0), k.1)

pub take_name : (objects : List Object) (o : Object) (old : Fields) (new found : Option (List ℕ)) (r : Result (Unit {0}) FcpFault) → o.tag ≡ NAME → found ≡ name_of o.value → KeptOnce r old.name new found o.tag → Keep objects old → TakesOneMore objects o (record old { name = new }) r
take_name objects o old new found (Ok u) e i k h =
    let s : IsSome (name_of o.value) = subst IsSome i k.1 in (
      bad_at NAME objects o e ∙ good (field NAME objects) old.name (name_of o.value) _ h.name.there (refl) k.0 s,
      record {
        name = keeps_new name_of NAME objects o old.name new e refl h.name k.0 s (k.2 ∙ i);
        descriptor = keeps_other descriptor_of DESCRIPTOR objects o old.descriptor (ap (λ u. eqb u DESCRIPTOR) e) h.descriptor;
        id = keeps_other id_of IDENTIFIER objects o old.id (ap (λ u. eqb u IDENTIFIER) e) h.id;
        size = keeps_other size_of SIZE objects o old.size (ap (λ u. eqb u SIZE) e) h.size;
        sfi = keeps_other sfi_of SFI objects o old.sfi (ap (λ u. eqb u SFI) e) h.sfi;
        life = keeps_other life_of LIFE objects o old.life (ap (λ u. eqb u LIFE) e) h.life;
        rule = keeps_other rule_of RULE objects o old.rule (ap (λ u. eqb u RULE) e) h.rule;
        proprietary = marks_other PROPRIETARY objects o old.proprietary (ap (λ u. eqb u PROPRIETARY) e) h.proprietary;
        pin_status = marks_other PIN_STATUS objects o old.pin_status (ap (λ u. eqb u PIN_STATUS) e) h.pin_status;
      },
    )
take_name objects o old new found (Err g) e i k h =
    (bad_at NAME objects o e ∙ faulty (field NAME objects) old.name (name_of o.value) _ h.name.there (refl) (subst (λ v. IsSome old.name ⊎ IsNone v) i k.0), k.1)

pub take_life : (objects : List Object) (o : Object) (old : Fields) (new found : Option (Life)) (r : Result (Unit {0}) FcpFault) → o.tag ≡ LIFE → found ≡ life_of o.value → KeptOnce r old.life new found o.tag → Keep objects old → TakesOneMore objects o (record old { life = new }) r
take_life objects o old new found (Ok u) e i k h =
    let s : IsSome (life_of o.value) = subst IsSome i k.1 in (
      bad_at LIFE objects o e ∙ good (field LIFE objects) old.life (life_of o.value) _ h.life.there (refl) k.0 s,
      record {
        life = keeps_new life_of LIFE objects o old.life new e refl h.life k.0 s (k.2 ∙ i);
        descriptor = keeps_other descriptor_of DESCRIPTOR objects o old.descriptor (ap (λ u. eqb u DESCRIPTOR) e) h.descriptor;
        id = keeps_other id_of IDENTIFIER objects o old.id (ap (λ u. eqb u IDENTIFIER) e) h.id;
        size = keeps_other size_of SIZE objects o old.size (ap (λ u. eqb u SIZE) e) h.size;
        sfi = keeps_other sfi_of SFI objects o old.sfi (ap (λ u. eqb u SFI) e) h.sfi;
        name = keeps_other name_of NAME objects o old.name (ap (λ u. eqb u NAME) e) h.name;
        rule = keeps_other rule_of RULE objects o old.rule (ap (λ u. eqb u RULE) e) h.rule;
        proprietary = marks_other PROPRIETARY objects o old.proprietary (ap (λ u. eqb u PROPRIETARY) e) h.proprietary;
        pin_status = marks_other PIN_STATUS objects o old.pin_status (ap (λ u. eqb u PIN_STATUS) e) h.pin_status;
      },
    )
take_life objects o old new found (Err g) e i k h =
    (bad_at LIFE objects o e ∙ faulty (field LIFE objects) old.life (life_of o.value) _ h.life.there (refl) (subst (λ v. IsSome old.life ⊎ IsNone v) i k.0), k.1)

pub take_rule : (objects : List Object) (o : Object) (old : Fields) (new found : Option (RuleRef)) (r : Result (Unit {0}) FcpFault) → o.tag ≡ RULE → found ≡ rule_of o.value → KeptOnce r old.rule new found o.tag → Keep objects old → TakesOneMore objects o (record old { rule = new }) r
take_rule objects o old new found (Ok u) e i k h =
    let s : IsSome (rule_of o.value) = subst IsSome i k.1 in (
      bad_at RULE objects o e ∙ good (field RULE objects) old.rule (rule_of o.value) _ h.rule.there (refl) k.0 s,
      record {
        rule = keeps_new rule_of RULE objects o old.rule new e refl h.rule k.0 s (k.2 ∙ i);
        descriptor = keeps_other descriptor_of DESCRIPTOR objects o old.descriptor (ap (λ u. eqb u DESCRIPTOR) e) h.descriptor;
        id = keeps_other id_of IDENTIFIER objects o old.id (ap (λ u. eqb u IDENTIFIER) e) h.id;
        size = keeps_other size_of SIZE objects o old.size (ap (λ u. eqb u SIZE) e) h.size;
        sfi = keeps_other sfi_of SFI objects o old.sfi (ap (λ u. eqb u SFI) e) h.sfi;
        name = keeps_other name_of NAME objects o old.name (ap (λ u. eqb u NAME) e) h.name;
        life = keeps_other life_of LIFE objects o old.life (ap (λ u. eqb u LIFE) e) h.life;
        proprietary = marks_other PROPRIETARY objects o old.proprietary (ap (λ u. eqb u PROPRIETARY) e) h.proprietary;
        pin_status = marks_other PIN_STATUS objects o old.pin_status (ap (λ u. eqb u PIN_STATUS) e) h.pin_status;
      },
    )
take_rule objects o old new found (Err g) e i k h =
    (bad_at RULE objects o e ∙ faulty (field RULE objects) old.rule (rule_of o.value) _ h.rule.there (refl) (subst (λ v. IsSome old.rule ⊎ IsNone v) i k.0), k.1)

pub take_proprietary : (objects : List Object) (o : Object) (old : Fields) (new : Bool) (r : Result (Unit {0}) FcpFault) → o.tag ≡ PROPRIETARY → MarkedOnce r old.proprietary new o.tag → Keep objects old → TakesOneMore objects o (record old { proprietary = new }) r
take_proprietary objects o old new (Ok u) e k h = (
  bad_at PROPRIETARY objects o e ∙ neither (is_some (field PROPRIETARY objects)) true (sym h.proprietary ∙ k.0) refl,
  record {
    proprietary = marks_new PROPRIETARY objects o old.proprietary new e refl h.proprietary k.0 k.1;
    descriptor = keeps_other descriptor_of DESCRIPTOR objects o old.descriptor (ap (λ u. eqb u DESCRIPTOR) e) h.descriptor;
    id = keeps_other id_of IDENTIFIER objects o old.id (ap (λ u. eqb u IDENTIFIER) e) h.id;
    size = keeps_other size_of SIZE objects o old.size (ap (λ u. eqb u SIZE) e) h.size;
    sfi = keeps_other sfi_of SFI objects o old.sfi (ap (λ u. eqb u SFI) e) h.sfi;
    name = keeps_other name_of NAME objects o old.name (ap (λ u. eqb u NAME) e) h.name;
    life = keeps_other life_of LIFE objects o old.life (ap (λ u. eqb u LIFE) e) h.life;
    rule = keeps_other rule_of RULE objects o old.rule (ap (λ u. eqb u RULE) e) h.rule;
    pin_status = marks_other PIN_STATUS objects o old.pin_status (ap (λ u. eqb u PIN_STATUS) e) h.pin_status;
  },
)
take_proprietary objects o old new (Err g) e k h =
    (bad_at PROPRIETARY objects o e ∙ one_of_both (is_some (field PROPRIETARY objects)) true (inl (sym h.proprietary ∙ k.0)), k.1)

pub take_pin_status : (objects : List Object) (o : Object) (old : Fields) (new : Bool) (r : Result (Unit {0}) FcpFault) → o.tag ≡ PIN_STATUS → MarkedOnce r old.pin_status new o.tag → Keep objects old → TakesOneMore objects o (record old { pin_status = new }) r
take_pin_status objects o old new (Ok u) e k h = (
  bad_at PIN_STATUS objects o e ∙ neither (is_some (field PIN_STATUS objects)) true (sym h.pin_status ∙ k.0) refl,
  record {
    pin_status = marks_new PIN_STATUS objects o old.pin_status new e refl h.pin_status k.0 k.1;
    descriptor = keeps_other descriptor_of DESCRIPTOR objects o old.descriptor (ap (λ u. eqb u DESCRIPTOR) e) h.descriptor;
    id = keeps_other id_of IDENTIFIER objects o old.id (ap (λ u. eqb u IDENTIFIER) e) h.id;
    size = keeps_other size_of SIZE objects o old.size (ap (λ u. eqb u SIZE) e) h.size;
    sfi = keeps_other sfi_of SFI objects o old.sfi (ap (λ u. eqb u SFI) e) h.sfi;
    name = keeps_other name_of NAME objects o old.name (ap (λ u. eqb u NAME) e) h.name;
    life = keeps_other life_of LIFE objects o old.life (ap (λ u. eqb u LIFE) e) h.life;
    rule = keeps_other rule_of RULE objects o old.rule (ap (λ u. eqb u RULE) e) h.rule;
    proprietary = marks_other PROPRIETARY objects o old.proprietary (ap (λ u. eqb u PROPRIETARY) e) h.proprietary;
  },
)
take_pin_status objects o old new (Err g) e k h =
    (bad_at PIN_STATUS objects o e ∙ one_of_both (is_some (field PIN_STATUS objects)) true (inl (sym h.pin_status ∙ k.0)), k.1)

-- an object with another tag
pub take_none : (objects : List Object) (o : Object) (old : Fields) → is_field o.tag ≡ false → Keep objects old → TakesOneMore objects o old (Ok tt)
take_none objects o old n h = (
  ap (λ b. b && (is_some (field o.tag objects) || not (is_well_formed o.tag o.value))) n,
  record {
    descriptor = keeps_other descriptor_of DESCRIPTOR objects o old.descriptor (apart o.tag DESCRIPTOR (λ e. differ DESCRIPTOR refl e)) h.descriptor;
    id = keeps_other id_of IDENTIFIER objects o old.id (apart o.tag IDENTIFIER (λ e. differ IDENTIFIER refl e)) h.id;
    size = keeps_other size_of SIZE objects o old.size (apart o.tag SIZE (λ e. differ SIZE refl e)) h.size;
    sfi = keeps_other sfi_of SFI objects o old.sfi (apart o.tag SFI (λ e. differ SFI refl e)) h.sfi;
    name = keeps_other name_of NAME objects o old.name (apart o.tag NAME (λ e. differ NAME refl e)) h.name;
    life = keeps_other life_of LIFE objects o old.life (apart o.tag LIFE (λ e. differ LIFE refl e)) h.life;
    rule = keeps_other rule_of RULE objects o old.rule (apart o.tag RULE (λ e. differ RULE refl e)) h.rule;
    proprietary = marks_other PROPRIETARY objects o old.proprietary (apart o.tag PROPRIETARY (λ e. differ PROPRIETARY refl e)) h.proprietary;
    pin_status = marks_other PIN_STATUS objects o old.pin_status (apart o.tag PIN_STATUS (λ e. differ PIN_STATUS refl e)) h.pin_status;
  },
)
  where
    differ : (t : ℕ) → is_field t ≡ true → o.tag ≡ t → true ≡ false
    differ t i e = sym i ∙ ap is_field (sym e) ∙ n

    apart : (a b : ℕ) → (a ≡ b → true ≡ false) → eqb a b ≡ false
    apart a b d = grind (arith, nat_tests)
