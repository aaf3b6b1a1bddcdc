-- What a pass over the bytes of a list of conditions comes to, object by object.
use Rattle.std.proofs.Common.{◌≡◌, ℕ, zero, suc, ◌-◌, ◌<◌, length, Bool, true, false, List, [], ◌∷◌}
use Rattle.std.proofs.Common.{Option, Some, None, Result, Ok, Err, refl, sym, ◌∙◌, ap, subst, arith}
use Rattle.std.proofs.Common.{eq-eqb}
use Rattle.std.specs.Prelude.{◌&&◌, ◌||◌, option_and_then, option_map}
use Rattle.std.specs.Option.{ok_or}
use Rattle.std.proofs.lemmas.Bool.{cond-true, cond-false}
use Rattle.ber_tlv.specs.Walk.{Object}
use Rattle.access_rules.specs.declared.fault.RuleFault.{RuleFault}
use Rattle.access_rules.specs.declared.fault.RuleFault.TheVariants.{Malformed}
use Rattle.access_rules.specs.Condition.{Condition, Conditions, all_hold, holds, one_holds}
use Rattle.access_rules.specs.Condition.Condition.{AllOf, Always, Key, Never, OneOf}
use Rattle.access_rules.specs.Condition.Conditions.{Also, NoMore}
use Rattle.ber_tlv.specs.Objects.{Read, object_at, objects_of}
use Rattle.access_rules.specs.Reading.{condition_of, conditions_by, empty_or_none, key_of}
use Rattle.ber_tlv.proofs.ObjectLemmas.{IsThere, eqb-not, no_objects, no_step, object_there}
use Rattle.ber_tlv.proofs.ObjectLemmas.{objects_step, of_some, not_tag}
use Rattle.ber_tlv.proofs.Walking.{shorter}

pub fault_is : {A : Type 0} (o : Option A) (e : RuleFault) → Err e ≡ ok_or o Malformed → (o ≡ None) × (e ≡ Malformed)
fault_is None e h = (refl, cc)
fault_is (Some x) e h = absurd (cc)

pub value_is : {A : Type 0} (o : Option A) (x : A) → Ok x ≡ ok_or o Malformed → o ≡ Some x
value_is None x h = absurd (cc)
value_is (Some y) x h = cc

-- of a way to answer for a list of conditions
module _ (met : ℕ → Bool) (answer : Conditions → Bool) (op : Bool → Bool → Bool) (deepest : ℕ) where
  abbrev pub listed : List ℕ → Option Bool
  listed bytes = option_map answer (option_and_then (conditions_by (condition_of deepest)) (objects_of bytes))

  malformed_after : (found : Object) (objects : Option (List Object)) → condition_of deepest found ≡ None
      → option_map answer (option_and_then (conditions_by (condition_of deepest)) (option_map (λ objects. found ∷ objects) objects)) ≡ None
  unfolding conditions_by
  malformed_after found None h = refl
  malformed_after found (Some objects) h =
      ap (λ (o : Option Condition). option_map answer (option_and_then (λ condition. option_map (Also condition) (conditions_by (condition_of deepest) objects)) o)) h

  pub listed_malformed : (bytes : List ℕ) (read : Read Object) → object_at bytes ≡ Some read → condition_of deepest read.found ≡ None → listed bytes ≡ None
  listed_malformed bytes read e h =
      ap (λ (o : Option (List Object)). option_map answer (option_and_then (conditions_by (condition_of deepest)) o)) (objects_step bytes read e)
      ∙ malformed_after read.found (objects_of read.behind) h

  pub listed_broken : (bytes : List ℕ) → (bytes ≡ [] → ⊥) → object_at bytes ≡ None → listed bytes ≡ None
  listed_broken [] n e = absurd (n refl)
  listed_broken (b ∷ bytes) n e =
      ap (λ (o : Option (List Object)). option_map answer (option_and_then (conditions_by (condition_of deepest)) o)) (no_step b bytes e)

  pub listed_end : listed [] ≡ Some (answer NoMore)
  unfolding conditions_by
  listed_end = ap (λ (o : Option (List Object)). option_map answer (option_and_then (conditions_by (condition_of deepest)) o)) no_objects

  mapped_twice : (f : Condition) (o : Option Conditions) → ((cs : Conditions) → answer (Also f cs) ≡ op (holds met f) (answer cs))
      → option_map answer (option_map (Also f) o) ≡ option_map (op (holds met f)) (option_map answer o)
  mapped_twice f None h = refl
  mapped_twice f (Some cs) h = ap Some (h cs)

  one_more : (found : Object) (condition : Condition) (objects : Option (List Object)) → condition_of deepest found ≡ Some condition
      → ((cs : Conditions) → answer (Also condition cs) ≡ op (holds met condition) (answer cs))
      → option_map answer (option_and_then (conditions_by (condition_of deepest)) (option_map (λ objects. found ∷ objects) objects))
      ≡ option_map (op (holds met condition)) (option_map answer (option_and_then (conditions_by (condition_of deepest)) objects))
  unfolding conditions_by
  one_more found condition None h k = refl
  one_more found condition (Some objects) h k =
      ap (λ (o : Option Condition). option_map answer (option_and_then (λ condition. option_map (Also condition) (conditions_by (condition_of deepest) objects)) o)) h
      ∙ mapped_twice condition (conditions_by (condition_of deepest) objects) k

  -- one condition and those behind it
  pub listed_step : (bytes : List ℕ) (read : Read Object) (so : Bool) → object_at bytes ≡ Some read
      → option_map (holds met) (condition_of deepest read.found) ≡ Some so
      → ((c : Condition) (cs : Conditions) → answer (Also c cs) ≡ op (holds met c) (answer cs))
      → listed bytes ≡ option_map (op so) (listed read.behind)
  listed_step bytes read so e h k = by_condition (condition_of deepest read.found) refl h
    where
      by_condition : (o : Option Condition) → condition_of deepest read.found ≡ o → option_map (holds met) o ≡ Some so → listed bytes ≡ option_map (op so) (listed read.behind)
      by_condition None i j = absurd (cc)
      by_condition (Some condition) i j =
          let same : holds met condition ≡ so = cc in
          ap (λ (o : Option (List Object)). option_map answer (option_and_then (conditions_by (condition_of deepest)) o)) (objects_step bytes read e)
          ∙ one_more read.found condition (objects_of read.behind) i (λ cs. k condition cs)
          ∙ ap (λ b. option_map (op b) (listed read.behind)) same

  -- the answer so far, and those behind
  pub so_far : (whole : Option Bool) (rest : List ℕ) (read : Read Object) (so before : Bool) → object_at rest ≡ Some read
      → Ok so ≡ ok_or (option_map (holds met) (condition_of deepest read.found)) Malformed
      → ((c : Condition) (cs : Conditions) → answer (Also c cs) ≡ op (holds met c) (answer cs))
      → ((a b c : Bool) → op a (op b c) ≡ op (op a b) c)
      → whole ≡ option_map (op before) (listed rest) → whole ≡ option_map (op (op before so)) (listed read.behind)
  so_far whole rest read so before e h k l w =
      w ∙ ap (option_map (op before)) (listed_step rest read so e (value_is _ so h) k) ∙ twice (listed read.behind)
    where
      twice : (o : Option Bool) → option_map (op before) (option_map (op so) o) ≡ option_map (op (op before so)) o
      twice None = refl
      twice (Some b) = ap Some (l before so b)

pub or_together : (a b c : Bool) → (a || (b || c)) ≡ ((a || b) || c)
or_together true b c = refl
or_together false b c = refl

pub and_together : (a b c : Bool) → (a && (b && c)) ≡ ((a && b) && c)
and_together true b c = refl
and_together false b c = refl

pub or_unit : (o : Option Bool) → option_map (λ b. false || b) o ≡ o
or_unit None = refl
or_unit (Some b) = refl

pub and_unit : (o : Option Bool) → option_map (λ b. true && b) o ≡ o
and_unit None = refl
and_unit (Some b) = refl

-- what a condition comes to, by its tag
module _ (met : ℕ → Bool) (o : Object) where
  abbrev pub answer_at : ℕ → Option Bool
  answer_at n = option_map (holds met) (condition_of n o)

  pub too_deep : answer_at 0 ≡ None
  unfolding condition_of
  too_deep = refl

  pub always : (n : ℕ) → o.tag ≡ 0x90 → answer_at (suc n) ≡ empty_or_none o.value true
  unfolding condition_of
  always n h = ap (option_map (holds met)) (cond-true _ _ _ (eq-eqb o.tag 0x90 h)) ∙ through o.value
    where
      through : (bytes : List ℕ) → option_map (holds met) (empty_or_none bytes Always) ≡ empty_or_none bytes true
      through [] = refl
      through (b ∷ bytes) = refl

  pub never : (n : ℕ) → o.tag ≡ 0x97 → answer_at (suc n) ≡ empty_or_none o.value false
  unfolding condition_of
  never n h = ap (option_map (holds met)) (cond-false _ _ _ (not_tag o.tag 0x97 0x90 h refl) ∙ cond-true _ _ _ (eq-eqb o.tag 0x97 h)) ∙ through o.value
    where
      through : (bytes : List ℕ) → option_map (holds met) (empty_or_none bytes Never) ≡ empty_or_none bytes false
      through [] = refl
      through (b ∷ bytes) = refl

  pub by_key : (n : ℕ) → o.tag ≡ 0xA4 → answer_at (suc n) ≡ option_map met (option_and_then key_of (objects_of o.value))
  unfolding condition_of
  by_key n h =
      ap (option_map (holds met)) (cond-false _ _ _ (not_tag o.tag 0xA4 0x90 h refl) ∙ cond-false _ _ _ (not_tag o.tag 0xA4 0x97 h refl) ∙ cond-true _ _ _ (eq-eqb o.tag 0xA4 h))
      ∙ through (option_and_then key_of (objects_of o.value))
    where
      through : (key : Option ℕ) → option_map (holds met) (option_map Key key) ≡ option_map met key
      through None = refl
      through (Some key) = refl

  pub by_one : (n : ℕ) → o.tag ≡ 0xA0 → answer_at (suc n) ≡ listed met (one_holds met) ◌||◌ n o.value
  unfolding condition_of
  by_one n h =
      ap (option_map (holds met)) (cond-false _ _ _ (not_tag o.tag 0xA0 0x90 h refl) ∙ cond-false _ _ _ (not_tag o.tag 0xA0 0x97 h refl) ∙ cond-false _ _ _ (not_tag o.tag 0xA0 0xA4 h refl) ∙ cond-true _ _ _ (eq-eqb o.tag 0xA0 h))
      ∙ through (option_and_then (conditions_by (condition_of n)) (objects_of o.value))
    where
      through : (cs : Option Conditions) → option_map (holds met) (option_map OneOf cs) ≡ option_map (one_holds met) cs
      through None = refl
      through (Some cs) = refl

  pub by_all : (n : ℕ) → o.tag ≡ 0xAF → answer_at (suc n) ≡ listed met (all_hold met) ◌&&◌ n o.value
  unfolding condition_of
  by_all n h =
      ap (option_map (holds met)) (cond-false _ _ _ (not_tag o.tag 0xAF 0x90 h refl) ∙ cond-false _ _ _ (not_tag o.tag 0xAF 0x97 h refl) ∙ cond-false _ _ _ (not_tag o.tag 0xAF 0xA4 h refl) ∙ cond-false _ _ _ (not_tag o.tag 0xAF 0xA0 h refl) ∙ cond-true _ _ _ (eq-eqb o.tag 0xAF h))
      ∙ through (option_and_then (conditions_by (condition_of n)) (objects_of o.value))
    where
      through : (cs : Option Conditions) → option_map (holds met) (option_map AllOf cs) ≡ option_map (all_hold met) cs
      through None = refl
      through (Some cs) = refl

  pub by_none : (n : ℕ) → (o.tag ≡ 0x90 → ⊥) → (o.tag ≡ 0x97 → ⊥) → (o.tag ≡ 0xA4 → ⊥) → (o.tag ≡ 0xA0 → ⊥) → (o.tag ≡ 0xAF → ⊥) → answer_at n ≡ None
  unfolding condition_of
  by_none zero a b c d e = refl
  by_none (suc n) a b c d e =
      ap (option_map (holds met)) (cond-false _ _ _ (eqb-not o.tag 0x90 a) ∙ cond-false _ _ _ (eqb-not o.tag 0x97 b) ∙ cond-false _ _ _ (eqb-not o.tag 0xA4 c) ∙ cond-false _ _ _ (eqb-not o.tag 0xA0 d) ∙ cond-false _ _ _ (eqb-not o.tag 0xAF e))

  pub within : (n : ℕ) (x : Option Bool) → (n ≡ 0 → ⊥) → answer_at (suc (n - 1)) ≡ x → answer_at n ≡ x
  within zero x n h = absurd (n refl)
  within (suc n) x k h = let e : suc n - 1 ≡ n = omega arith in subst (λ m. answer_at (suc m) ≡ x) e h

  pub too_deep_at : (n : ℕ) → n ≡ 0 → answer_at n ≡ None
  too_deep_at n e = subst (λ m. answer_at m ≡ None) (sym e) too_deep

-- a result handed on
pub handed : {A : Type 0} (r : Result A RuleFault) (o p : Option A) → r ≡ ok_or p Malformed → o ≡ p → r ≡ ok_or o Malformed
handed r o p h e = h ∙ ap (λ x. ok_or x Malformed) (sym e)

pub behind_shorter : (bytes : List ℕ) (read : Read Object) → object_at bytes ≡ Some read → length read.behind < length bytes
behind_shorter bytes read e = shorter (of_some (IsThere bytes) (object_at bytes) read (object_there bytes) e)

pub none_answered : {A : Type 0} (f : A → Bool) (o : Option A) → option_map f o ≡ None → o ≡ None
none_answered f None h = refl
none_answered f (Some x) h = absurd (cc)

-- at the end of the bytes
or_none : (b : Bool) → (b || false) ≡ b
or_none true = refl
or_none false = refl

and_none : (b : Bool) → (b && true) ≡ b
and_none true = refl
and_none false = refl

pub one_ended : (met : ℕ → Bool) (deepest : ℕ) (whole : Option Bool) (rest : List ℕ) (so : Bool) → rest ≡ []
    → whole ≡ option_map (λ b. so || b) (listed met (one_holds met) ◌||◌ deepest rest) → whole ≡ Some so
one_ended met deepest whole rest so e h =
    h ∙ ap (λ (x : List ℕ). option_map (λ b. so || b) (listed met (one_holds met) ◌||◌ deepest x)) e
    ∙ ap (option_map (λ b. so || b)) (listed_end met (one_holds met) ◌||◌ deepest)
    ∙ ap Some (or_none so)

pub all_ended : (met : ℕ → Bool) (deepest : ℕ) (whole : Option Bool) (rest : List ℕ) (so : Bool) → rest ≡ []
    → whole ≡ option_map (λ b. so && b) (listed met (all_hold met) ◌&&◌ deepest rest) → whole ≡ Some so
all_ended met deepest whole rest so e h =
    h ∙ ap (λ (x : List ℕ). option_map (λ b. so && b) (listed met (all_hold met) ◌&&◌ deepest x)) e
    ∙ ap (option_map (λ b. so && b)) (listed_end met (all_hold met) ◌&&◌ deepest)
    ∙ ap Some (and_none so)
