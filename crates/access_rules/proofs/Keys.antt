-- A set of keys, and the condition of a key.
use Rattle.std.proofs.Common.{◌≡◌, ℕ, zero, suc, ◌<◌, Bool, true, false, cond, List, [], ◌∷◌}
use Rattle.std.proofs.Common.{length, get_or, Option, Some, None, Result, Ok, Err, refl, sym, ◌∙◌}
use Rattle.std.proofs.Common.{ap, subst, arith, eq-eqb, ◌⊎◌, inl, inr, ⊎_elim}
use Rattle.std.specs.Prelude.{◌==◌, ◌↔◌, IsTrue, MatchResult, option_and_then, option_map}
use Rattle.std.specs.Option.{ok_or}
use Rattle.std.proofs.Math.ListN.{set, replicate}
use Rattle.std.proofs.lemmas.Bool.{cond-true, cond-false, eqb-false}
use Rattle.std.proofs.lemmas.Grind.{common_steps}
use Rattle.ber_tlv.specs.Walk.{LeadWith, Object}
use Rattle.access_rules.specs.declared.fault.RuleFault.{RuleFault}
use Rattle.access_rules.specs.declared.fault.RuleFault.TheVariants.{Malformed}
use Rattle.ber_tlv.specs.Objects.{Read, object_at, objects_of}
use Rattle.access_rules.specs.Reading.{byte_of, key_of}
use Rattle.ber_tlv.proofs.ObjectLemmas.{by_test, eqb-is, eqb-not, no_objects, no_step, objects_fill}
use Rattle.ber_tlv.proofs.ObjectLemmas.{objects_step, of_some}

pub none_read : (n key : ℕ) → get_or (replicate n false) key false ≡ false
none_read zero key = refl
none_read (suc n) zero = refl
none_read (suc n) (suc key) = none_read n key

pub put_read : (keys : List Bool) (key other : ℕ) (v : Bool) → key < length keys → get_or (set keys key v) other false ≡ cond (other == key) v (get_or keys other false)
put_read keys key other v h = by_test (λ x. get_or (set keys key v) other false ≡ x) (other == key) _ _
    (λ t. let e : other ≡ key = eqb-is other key t in grind (arith, common_steps))
    (λ t. let e : other ≡ key → ⊥ = eqb-false other key t in grind (arith, common_steps))

-- a call that gave up
pub gave_up : {A : Type 0} (r : Result A RuleFault) (e : RuleFault) (o : Option A) → r ≡ Err e → o ≡ None → r ≡ ok_or o Malformed
gave_up r Malformed o h k = h ∙ sym (ap (λ x. ok_or x Malformed) k)

pub refused : {A : Type 0} (o : Option A) → o ≡ None → Err Malformed ≡ ok_or o Malformed
refused o k = sym (ap (λ x. ok_or x Malformed) k)

pub found : {A : Type 0} (o : Option A) (x : A) → o ≡ Some x → Ok x ≡ ok_or o Malformed
found o x k = sym (ap (λ y. ok_or y Malformed) k)

-- the key of the objects of a value
abbrev pub key_in : List ℕ → Option ℕ
key_in value = option_and_then key_of (objects_of value)

pub no_reference : (value : List ℕ) → object_at value ≡ None → key_in value ≡ None
unfolding key_of
no_reference [] e = ap (option_and_then key_of) no_objects
no_reference (b ∷ value) e = ap (option_and_then key_of) (no_step b value e)

after_one : (value : List ℕ) (r : Read Object) → object_at value ≡ Some r → key_in value ≡ option_and_then key_of (option_map (λ objects. r.found ∷ objects) (objects_of r.behind))
after_one value r e = ap (option_and_then key_of) (objects_step value r e)

pub no_usage : (value : List ℕ) (r : Read Object) → object_at value ≡ Some r → object_at r.behind ≡ None → key_in value ≡ None
unfolding key_of
no_usage value r e h = after_one value r e ∙ ap (λ (o : Option (List Object)). option_and_then key_of (option_map (λ objects. r.found ∷ objects) o)) i ∙ j
  where
    rest : (bytes : List ℕ) → object_at bytes ≡ None → (objects_of bytes ≡ Some []) ⊎ (objects_of bytes ≡ None)
    rest [] e = inl no_objects
    rest (b ∷ bytes) e = inr (no_step b bytes e)

    i : objects_of r.behind ≡ objects_of r.behind
    i = refl

    j : option_and_then key_of (option_map (λ objects. r.found ∷ objects) (objects_of r.behind)) ≡ None
    j = ⊎_elim
        (λ k. ap (λ (o : Option (List Object)). option_and_then key_of (option_map (λ objects. r.found ∷ objects) o)) k)
        (λ k. ap (λ (o : Option (List Object)). option_and_then key_of (option_map (λ objects. r.found ∷ objects) o)) k)
        (rest r.behind h)

-- beginning with two objects
module _ (value : List ℕ) (reference usage : Object) (rest more : List ℕ)
    (first : object_at value ≡ Some (record { found = reference; behind = rest }))
    (second : object_at rest ≡ Some (record { found = usage; behind = more })) where
  after_two : key_in value ≡ option_and_then key_of (option_map (λ objects. reference ∷ usage ∷ objects) (objects_of more))
  after_two =
      after_one value (record { found = reference; behind = rest }) first
      ∙ ap (λ (o : Option (List Object)). option_and_then key_of (option_map (λ objects. reference ∷ objects) o)) (objects_step rest (record { found = usage; behind = more }) second)
      ∙ twice (objects_of more)
    where
      twice : (o : Option (List Object)) → option_and_then key_of (option_map (λ objects. reference ∷ objects) (option_map (λ objects. usage ∷ objects) o)) ≡ option_and_then key_of (option_map (λ objects. reference ∷ usage ∷ objects) o)
      twice None = refl
      twice (Some objects) = refl

  pub too_many : (more ≡ [] → ⊥) → key_in value ≡ None
  unfolding key_of
  too_many n = after_two ∙ through (objects_of more) refl
    where
      through : (o : Option (List Object)) → objects_of more ≡ o → option_and_then key_of (option_map (λ objects. reference ∷ usage ∷ objects) o) ≡ None
      through None e = refl
      through (Some []) e = let filled : LeadWith more [] [] = of_some (λ objects. LeadWith more objects []) (objects_of more) [] (objects_fill more) e in absurd (n filled)
      through (Some (another ∷ objects)) e = refl

  exactly : more ≡ [] → key_in value ≡ key_of (reference ∷ usage ∷ [])
  exactly e = after_two ∙ ap (λ (bytes : List ℕ). option_and_then key_of (option_map (λ objects. reference ∷ usage ∷ objects) (objects_of bytes))) e
      ∙ ap (λ (o : Option (List Object)). option_and_then key_of (option_map (λ objects. reference ∷ usage ∷ objects) o)) no_objects

  pub other_tags : ((reference.tag ≡ 0x83 → ⊥) ⊎ (usage.tag ≡ 0x95 → ⊥)) → key_in value ≡ None
  unfolding key_of
  other_tags n = by_rest more refl
    where
      apart : more ≡ [] → key_in value ≡ None
      apart e = exactly e ∙ ⊎_elim (λ k. cond-false _ _ _ (eqb-not reference.tag 0x83 k)) (λ k. second_apart k) n
        where
          second_apart : (usage.tag ≡ 0x95 → ⊥) → key_of (reference ∷ usage ∷ []) ≡ None
          second_apart k = by_test (λ x. x ≡ None) (reference.tag == 0x83) _ _
              (λ t. ap (option_and_then (λ _. byte_of reference.value)) (cond-false _ _ _ (eqb-not usage.tag 0x95 k)))
              (λ t. refl)

      by_rest : (bytes : List ℕ) → more ≡ bytes → key_in value ≡ None
      by_rest [] e = apart e
      by_rest (b ∷ bytes) e = too_many (λ f. absurd (cc))

  pub right_tags : reference.tag ≡ 0x83 → usage.tag ≡ 0x95 → more ≡ []
      → key_in value ≡ option_and_then (λ _. byte_of reference.value) (option_and_then (λ user. cond (user == 0x08) (Some usage) None) (byte_of usage.value))
  unfolding key_of
  right_tags h k e = exactly e ∙ cond-true _ _ _ (eq-eqb reference.tag 0x83 h)
      ∙ ap (option_and_then (λ _. byte_of reference.value)) (cond-true _ _ _ (eq-eqb usage.tag 0x95 k))

  -- by what the two bytes are
  pub no_qualifier : reference.tag ≡ 0x83 → usage.tag ≡ 0x95 → more ≡ [] → byte_of usage.value ≡ None → key_in value ≡ None
  no_qualifier h k e u = right_tags h k e ∙ ap (λ (o : Option ℕ). option_and_then (λ _. byte_of reference.value) (option_and_then (λ user. cond (user == 0x08) (Some usage) None) o)) u

  pub other_qualifier : (user : ℕ) → reference.tag ≡ 0x83 → usage.tag ≡ 0x95 → more ≡ [] → byte_of usage.value ≡ Some user → (user ≡ 0x08 → ⊥) → key_in value ≡ None
  other_qualifier user h k e u n = right_tags h k e
      ∙ ap (λ (o : Option ℕ). option_and_then (λ _. byte_of reference.value) (option_and_then (λ user. cond (user == 0x08) (Some usage) None) o)) u
      ∙ ap (option_and_then (λ _. byte_of reference.value)) (cond-false (user == 0x08) (Some usage) None (eqb-not user 0x08 n))

  pub the_key : (user : ℕ) → reference.tag ≡ 0x83 → usage.tag ≡ 0x95 → more ≡ [] → byte_of usage.value ≡ Some user → user ≡ 0x08 → key_in value ≡ byte_of reference.value
  the_key user h k e u n = right_tags h k e
      ∙ ap (λ (o : Option ℕ). option_and_then (λ _. byte_of reference.value) (option_and_then (λ user. cond (user == 0x08) (Some usage) None) o)) u
      ∙ ap (option_and_then (λ _. byte_of reference.value)) (cond-true (user == 0x08) (Some usage) None (eq-eqb user 0x08 n))

-- what a test for no bytes tells
pub is_empty : (bytes : List ℕ) (r : Bool) → r ≡ (length bytes == 0) → r ≡ true → bytes ≡ []
is_empty [] r h k = refl
is_empty (b ∷ bytes) r h k = let e : (length (b ∷ bytes) == 0) ≡ true = sym h ∙ k in let i : length (b ∷ bytes) ≡ 0 = eqb-is (length (b ∷ bytes)) 0 e in absurd (omega arith)

pub not_empty : (bytes : List ℕ) (r : Bool) → r ≡ (length bytes == 0) → r ≡ false → bytes ≡ [] → ⊥
not_empty bytes r h k e = let i : (length bytes == 0) ≡ true = ap (λ (x : List ℕ). length x == 0) e in absurd (cc)

-- the same of a call whose fault says what holds
pub failed : {A E : Type 0} (P : A → Type 0) (X : Type 0) (r : Result A E) (e : E) → r ≡ Err e → X → MatchResult r P (λ _. X)
failed P X r e h x = subst (λ r. MatchResult r P (λ _. X)) (sym h) x

-- what a test tells of what it decides
pub is_so : (r : Bool) (X : Type 0) → (IsTrue r ↔ X) → r ≡ true → X
is_so r X h e = h.0 e

pub is_not : (r : Bool) (X : Type 0) → (IsTrue r ↔ X) → r ≡ false → ¬ X
is_not r X h e = λ x. let t : r ≡ true = h.1 x in absurd (cc)
