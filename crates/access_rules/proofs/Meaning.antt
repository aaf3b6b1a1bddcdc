-- What is read of a condition, a rule and a record is what their bytes spell.
use Rattle.std.proofs.Common.{◌≡◌, ℕ, zero, suc, ◌<◌, ◌≤◌, List, [], ◌∷◌, ◌++◌, length, Option}
use Rattle.std.proofs.Common.{Some, None, refl, sym, ◌∙◌, ap, subst, arith, eq-eqb, inl, inr}
use Rattle.std.proofs.Common.{⊎_elim}
use Rattle.std.specs.Prelude.{◌↔◌, option_and_then, option_map}
use Rattle.std.proofs.lemmas.Bool.{cond-true, cond-false}
use Rattle.ber_tlv.specs.Walk.{LeadWith, Object}
use Rattle.ber_tlv.proofs.Reading.{tag_of}
use Rattle.ber_tlv.proofs.Walking.{shorter}
use Rattle.ber_tlv.specs.Tag.{SpellsTag}
use Rattle.access_rules.specs.AccessRule.{AccessRule, Modes}
use Rattle.access_rules.specs.AccessRule.Modes.{Bits, Instructions}
use Rattle.access_rules.specs.Condition.{Condition, Conditions, depth, greatest_depth}
use Rattle.access_rules.specs.Condition.Condition.{AllOf, Always, Key, Never, OneOf}
use Rattle.access_rules.specs.Condition.Conditions.{Also, NoMore}
use Rattle.ber_tlv.specs.Objects.{Read, object_at, objects_of}
use Rattle.access_rules.specs.Reading.{asks_for_user, byte_of, codes_of, condition_of}
use Rattle.access_rules.specs.Reading.{conditions_by, empty_or_none, key_of, modes_of, leading_rule}
use Rattle.access_rules.specs.Reading.{rule_with, rules_in, rules_of}
use Rattle.access_rules.specs.Record.{AreConditions, BeginsWithRule, IsCondition, IsModes}
use Rattle.access_rules.specs.Record.{SpellsRules, key_objects}
use Rattle.ber_tlv.proofs.ObjectLemmas.{IsThere, Sound, and_then, by_test, eqb-is, eqb-not, mapped}
use Rattle.ber_tlv.proofs.ObjectLemmas.{none, object_read, object_there, objects_fill}
use Rattle.ber_tlv.proofs.ObjectLemmas.{objects_filled, of_some, same_values, some, weaken, not_tag}

empty_there : {X : Type 0} (P : X → Type 0) (bytes : List ℕ) (x : X) → (bytes ≡ [] → P x) → Sound P (empty_or_none bytes x)
empty_there P [] x h = some P x (h refl)
empty_there P (b ∷ bytes) x h = none P

byte_there : (bytes : List ℕ) → Sound (λ b. bytes ≡ b ∷ []) (byte_of bytes)
byte_there [] = none _
byte_there (b ∷ []) = some _ _ refl
byte_there (b ∷ c ∷ more) = none _

object_is : (o : Object) (tag : ℕ) (value : List ℕ) → o.tag ≡ tag → o.value ≡ value → o ≡ record { tag = tag; value = value }
object_is o tag value h k =
    let made : ℕ → List ℕ → Object = λ t v. record { tag = t; value = v } in
    ap (λ t. made t o.value) h ∙ ap (λ v. made tag v) k

user_there : (usage : Object) → Sound (λ o. usage ≡ record { tag = 0x95; value = 0x08 ∷ [] }) (asks_for_user usage)
user_there usage = by_test (Sound (λ o. usage ≡ record { tag = 0x95; value = 0x08 ∷ [] })) _ _ _
    (λ t. and_then _ (λ b. usage.value ≡ b ∷ []) (λ o. usage ≡ record { tag = 0x95; value = 0x08 ∷ [] }) (byte_of usage.value) (byte_there usage.value)
    (λ user p. by_test (Sound (λ o. usage ≡ record { tag = 0x95; value = 0x08 ∷ [] })) _ _ _
    (λ u. some _ _ (object_is usage 0x95 (0x08 ∷ []) (eqb-is usage.tag 0x95 t) (p ∙ ap (λ b. b ∷ []) (eqb-is user 0x08 u))))
    (λ u. none _)))
    (λ t. none _)

two_objects : (reference usage : Object) (key : ℕ) → reference.tag ≡ 0x83 → reference.value ≡ key ∷ [] → usage ≡ record { tag = 0x95; value = 0x08 ∷ [] } → (reference ∷ usage ∷ []) ≡ key_objects key
two_objects reference usage key h k p =
    let two : Object → Object → List Object = λ x y. x ∷ y ∷ [] in
    let r : reference ≡ record { tag = 0x83; value = key ∷ [] } = object_is reference 0x83 (key ∷ []) h k in
    ap (λ x. two x usage) r ∙ ap (λ y. two (record { tag = 0x83; value = key ∷ [] }) y) p

key_there : (objects : List Object) → Sound (λ key. objects ≡ key_objects key) (key_of objects)
unfolding key_of
key_there [] = none _
key_there (reference ∷ []) = none _
key_there (reference ∷ usage ∷ another ∷ objects) = none _
key_there (reference ∷ usage ∷ []) = by_test (Sound (λ key. (reference ∷ usage ∷ []) ≡ key_objects key)) _ _ _
    (λ t. and_then _ (λ o. usage ≡ record { tag = 0x95; value = 0x08 ∷ [] }) (λ key. (reference ∷ usage ∷ []) ≡ key_objects key) (asks_for_user usage) (user_there usage)
    (λ o p. weaken (λ b. reference.value ≡ b ∷ []) _ (byte_of reference.value) (byte_there reference.value)
    (λ key q. two_objects reference usage key (eqb-is reference.tag 0x83 t) q p)))
    (λ t. none _)

conditions_there : (one : Object → Option Condition) (n : ℕ) → ((o : Object) → Sound (λ c. IsCondition o c × (depth c ≤ n)) (one o))
    → (objects : List Object) → Sound (λ cs. AreConditions objects cs × (greatest_depth cs ≤ n)) (conditions_by one objects)
unfolding conditions_by
conditions_there one n h [] = some _ _ (tt, omega arith)
conditions_there one n h (o ∷ objects) =
    and_then _ (λ c. IsCondition o c × (depth c ≤ n)) (λ cs. AreConditions (o ∷ objects) cs × (greatest_depth cs ≤ n)) (one o) (h o)
    (λ c p. mapped (Also c) (λ cs. AreConditions objects cs × (greatest_depth cs ≤ n)) (λ cs. AreConditions (o ∷ objects) cs × (greatest_depth cs ≤ n))
    (conditions_by one objects) (conditions_there one n h objects) (λ cs q. ((p.0, q.0), omega arith)))

abbrev Listed : ℕ → Object → Conditions → Type 0
Listed n o cs = ((objects : List Object) × LeadWith o.value objects [] × AreConditions objects cs) × (greatest_depth cs ≤ n)

listed : (one : Object → Option Condition) (n : ℕ) → ((o : Object) → Sound (λ c. IsCondition o c × (depth c ≤ n)) (one o))
    → (o : Object) → Sound (Listed n o) (option_and_then (conditions_by one) (objects_of o.value))
listed one n h o = and_then _ (λ objects. LeadWith o.value objects []) (Listed n o) (objects_of o.value) (objects_fill o.value)
    (λ objects p. weaken (λ cs. AreConditions objects cs × (greatest_depth cs ≤ n)) (Listed n o) (conditions_by one objects)
    (conditions_there one n h objects) (λ cs q. ((objects, p, q.0), q.1)))

for_key : (bytes : List ℕ) (objects : List Object) → LeadWith bytes objects [] → Sound (λ key. LeadWith bytes (key_objects key) []) (key_of objects)
for_key bytes objects p = weaken (λ key. objects ≡ key_objects key) (λ key. LeadWith bytes (key_objects key) []) (key_of objects) (key_there objects)
    (λ key e. subst (λ os. LeadWith bytes os []) e p)

condition_there : (n : ℕ) (o : Object) → Sound (λ c. IsCondition o c × (depth c ≤ n)) (condition_of n o)
unfolding condition_of
condition_there zero o = none _
condition_there (suc n) o = by_test (Sound (λ c. IsCondition o c × (depth c ≤ suc n))) _ _ _
    (λ t. empty_there _ o.value Always (λ e. ((eqb-is o.tag 0x90 t, e), omega arith)))
    (λ t. by_test (Sound (λ c. IsCondition o c × (depth c ≤ suc n))) _ _ _
    (λ t. empty_there _ o.value Never (λ e. ((eqb-is o.tag 0x97 t, e), omega arith)))
    (λ t. by_test (Sound (λ c. IsCondition o c × (depth c ≤ suc n))) _ _ _
    (λ t. mapped Key (λ key. LeadWith o.value (key_objects key) []) (λ c. IsCondition o c × (depth c ≤ suc n)) _
    (and_then key_of (λ objects. LeadWith o.value objects []) (λ key. LeadWith o.value (key_objects key) []) (objects_of o.value) (objects_fill o.value)
    (λ objects p. for_key o.value objects p))
    (λ key p. ((eqb-is o.tag 0xA4 t, p), omega arith)))
    (λ t. by_test (Sound (λ c. IsCondition o c × (depth c ≤ suc n))) _ _ _
    (λ t. mapped OneOf (λ cs. Listed n o cs) (λ c. IsCondition o c × (depth c ≤ suc n)) _ (listed (condition_of n) n (condition_there n) o)
    (λ cs p. ((eqb-is o.tag 0xA0 t, p.0), omega arith)))
    (λ t. by_test (Sound (λ c. IsCondition o c × (depth c ≤ suc n))) _ _ _
    (λ t. mapped AllOf (λ cs. Listed n o cs) (λ c. IsCondition o c × (depth c ≤ suc n)) _ (listed (condition_of n) n (condition_there n) o)
    (λ cs p. ((eqb-is o.tag 0xAF t, p.0), omega arith)))
    (λ t. none _)))))

-- and what is spelled is read
key_read : (key : ℕ) → key_of (key_objects key) ≡ Some key
unfolding key_of
key_read key = refl

conditions_read : (one : Object → Option Condition) (n : ℕ) → ((o : Object) (c : Condition) → IsCondition o c → depth c ≤ n → one o ≡ Some c)
    → (objects : List Object) (cs : Conditions) → AreConditions objects cs → greatest_depth cs ≤ n → conditions_by one objects ≡ Some cs
unfolding conditions_by
conditions_read one n h [] NoMore p k = refl
conditions_read one n h [] (Also c cs) p k = absurd p
conditions_read one n h (o ∷ objects) NoMore p k = absurd p
conditions_read one n h (o ∷ objects) (Also c cs) p k =
    let e : one o ≡ Some c = h o c p.0 (omega arith) in
    let i : conditions_by one objects ≡ Some cs = conditions_read one n h objects cs p.1 (omega arith) in
    ap (option_and_then (λ condition. option_map (Also condition) (conditions_by one objects))) e
    ∙ ap (option_map (Also c)) i

empty_read : (bytes : List ℕ) (c : Condition) → bytes ≡ [] → empty_or_none bytes c ≡ Some c
empty_read [] c e = refl
empty_read (b ∷ bytes) c e = absurd (cc)

condition_read : (n : ℕ) (o : Object) (c : Condition) → IsCondition o c → depth c ≤ n → condition_of n o ≡ Some c
unfolding condition_of
condition_read zero o Always p h = absurd (omega arith)
condition_read zero o Never p h = absurd (omega arith)
condition_read zero o (Key key) p h = absurd (omega arith)
condition_read zero o (OneOf cs) p h = absurd (omega arith)
condition_read zero o (AllOf cs) p h = absurd (omega arith)
condition_read (suc n) o Always p h = cond-true _ _ _ (eq-eqb o.tag 0x90 p.0) ∙ empty_read o.value Always p.1
condition_read (suc n) o Never p h =
    cond-false _ _ _ (not_tag o.tag 0x97 0x90 p.0 refl) ∙ cond-true _ _ _ (eq-eqb o.tag 0x97 p.0) ∙ empty_read o.value Never p.1
condition_read (suc n) o (Key key) p h =
    cond-false _ _ _ (not_tag o.tag 0xA4 0x90 p.0 refl) ∙ cond-false _ _ _ (not_tag o.tag 0xA4 0x97 p.0 refl)
    ∙ cond-true _ _ _ (eq-eqb o.tag 0xA4 p.0)
    ∙ ap (λ os. option_map Key (option_and_then key_of os)) (objects_filled o.value (key_objects key) p.1)
    ∙ ap (option_map Key) (key_read key)
condition_read (suc n) o (OneOf cs) p h =
    cond-false _ _ _ (not_tag o.tag 0xA0 0x90 p.0 refl) ∙ cond-false _ _ _ (not_tag o.tag 0xA0 0x97 p.0 refl)
    ∙ cond-false _ _ _ (not_tag o.tag 0xA0 0xA4 p.0 refl)
    ∙ cond-true _ _ _ (eq-eqb o.tag 0xA0 p.0)
    ∙ ap (λ os. option_map OneOf (option_and_then (conditions_by (condition_of n)) os)) (objects_filled o.value p.1.0 p.1.1)
    ∙ ap (option_map OneOf) (conditions_read (condition_of n) n (condition_read n) p.1.0 cs p.1.2 (omega arith))
condition_read (suc n) o (AllOf cs) p h =
    cond-false _ _ _ (not_tag o.tag 0xAF 0x90 p.0 refl) ∙ cond-false _ _ _ (not_tag o.tag 0xAF 0x97 p.0 refl)
    ∙ cond-false _ _ _ (not_tag o.tag 0xAF 0xA4 p.0 refl) ∙ cond-false _ _ _ (not_tag o.tag 0xAF 0xA0 p.0 refl)
    ∙ cond-true _ _ _ (eq-eqb o.tag 0xAF p.0)
    ∙ ap (λ os. option_map AllOf (option_and_then (conditions_by (condition_of n)) os)) (objects_filled o.value p.1.0 p.1.1)
    ∙ ap (option_map AllOf) (conditions_read (condition_of n) n (condition_read n) p.1.0 cs p.1.2 (omega arith))

-- the modes
modes_there : (o : Object) → Sound (IsModes o) (modes_of o)
unfolding modes_of
modes_there o = by_test (Sound (IsModes o)) _ _ _
    (λ t. mapped Bits (λ b. o.value ≡ b ∷ []) (IsModes o) (byte_of o.value) (byte_there o.value) (λ b p. (eqb-is o.tag 0x80 t, p)))
    (λ t. by_test (Sound (IsModes o)) _ _ _
    (λ t. codes o (eqb-is o.tag 0x84 t) o.value refl)
    (λ t. none _))
  where
    codes : (o : Object) → o.tag ≡ 0x84 → (value : List ℕ) → o.value ≡ value → Sound (IsModes o) (codes_of value)
    codes o t [] e = none _
    codes o t (code ∷ more) e = some _ _ (t, e, λ i. cc)

modes_read : (o : Object) (modes : Modes) → IsModes o modes → modes_of o ≡ Some modes
unfolding modes_of
modes_read o (Bits bits) p = cond-true _ _ _ (eq-eqb o.tag 0x80 p.0) ∙ ap (λ v. option_map Bits (byte_of v)) p.1
modes_read o (Instructions codes) p =
    cond-false _ _ _ (not_tag o.tag 0x84 0x80 p.0 refl) ∙ cond-true _ _ _ (eq-eqb o.tag 0x84 p.0) ∙ ap codes_of p.1 ∙ some_codes codes p.2
  where
    some_codes : (codes : List ℕ) → (codes ≡ [] → ⊥) → codes_of codes ≡ Some (Instructions codes)
    some_codes [] h = absurd (h refl)
    some_codes (code ∷ codes) h = refl

-- a rule
abbrev pub HasRule : List ℕ → Read AccessRule → Type 0
HasRule bytes read = BeginsWithRule bytes read.found read.behind

pub rule_there : (bytes : List ℕ) → Sound (HasRule bytes) (leading_rule bytes)
unfolding leading_rule rule_with
rule_there bytes =
    and_then _ (IsThere bytes) (HasRule bytes) (object_at bytes) (object_there bytes)
    (λ first p. and_then _ (IsModes first.found) (HasRule bytes) (modes_of first.found) (modes_there first.found)
    (λ modes q. and_then _ (IsThere first.behind) (HasRule bytes) (object_at first.behind) (object_there first.behind)
    (λ second r. mapped _ (λ c. IsCondition second.found c × (depth c ≤ 8)) (HasRule bytes) (condition_of 8 second.found) (condition_there 8 second.found)
    (λ c s. record { modes = first.found; condition = second.found; behind = first.behind; first = p; second = r; modes_are = q; condition_is = s.0; shallow = s.1 }))))

rule_read : (bytes : List ℕ) (rule : AccessRule) (rest : List ℕ) → BeginsWithRule bytes rule rest → leading_rule bytes ≡ Some (record { found = rule; behind = rest })
unfolding leading_rule rule_with
rule_read bytes rule rest p =
    let build : Object → Condition → Read AccessRule = λ o c. record { found = record { modes = rule.modes; condition = c }; behind = rest } in
    ap (option_and_then (λ (read : Read Object). option_and_then (λ modes. rule_with modes read.behind) (modes_of read.found))) (object_read bytes p.modes p.behind p.first)
    ∙ ap (option_and_then (λ modes. rule_with modes p.behind)) (modes_read p.modes rule.modes p.modes_are)
    ∙ ap (option_and_then (λ (read : Read Object). option_map (λ condition. record { found = record { modes = rule.modes; condition = condition }; behind = read.behind }) (condition_of 8 read.found))) (object_read p.behind p.condition rest p.second)
    ∙ ap (option_map (build p.condition)) (condition_read 8 p.condition rule.condition p.condition_is p.shallow)

pub rule_shorter : {bytes : List ℕ} {rule : AccessRule} {rest : List ℕ} → BeginsWithRule bytes rule rest → length rest < length bytes
rule_shorter p = let s = shorter p.first in let t = shorter p.second in omega arith

-- no rule begins with FF
no_rule_at_ff : (bytes : List ℕ) (rule : AccessRule) (rest : List ℕ) → BeginsWithRule (0xFF ∷ bytes) rule rest → ⊥
no_rule_at_ff bytes rule rest p =
    let t = tag_of p.first in
    modes_tag p.modes rule.modes p.modes_are (λ e. large t.prefix _ p.modes.tag bytes t.tagged (sym t.whole) (omega arith)) (λ e. large t.prefix _ p.modes.tag bytes t.tagged (sym t.whole) (omega arith))
  where
    large : (prefix x : List ℕ) (tag : ℕ) (bytes : List ℕ) → SpellsTag prefix tag → prefix ++ x ≡ 0xFF ∷ bytes → tag < 0xFF → ⊥
    large [] x tag bytes p e h = absurd p
    large (a ∷ []) x tag bytes p e h = let i : a ≡ 0xFF = cc in absurd (omega arith)
    large (a ∷ b ∷ []) x tag bytes p e h = let i : a ≡ 0xFF = cc in absurd (omega arith)
    large (a ∷ b ∷ c ∷ []) x tag bytes p e h = let i : a ≡ 0xFF = cc in absurd (omega arith)
    large (a ∷ b ∷ c ∷ d ∷ m) x tag bytes p e h = absurd p

    modes_tag : (o : Object) (modes : Modes) → IsModes o modes → (o.tag ≡ 0x80 → ⊥) → (o.tag ≡ 0x84 → ⊥) → ⊥
    modes_tag o (Bits bits) p h k = h p.0
    modes_tag o (Instructions codes) p h k = k p.0

-- a record
rules_there : (most : ℕ) (bytes : List ℕ) → Sound (SpellsRules bytes) (rules_in most bytes)
unfolding rules_in
rules_there zero [] = some (SpellsRules []) [] (inl refl)
rules_there (suc most) [] = some (SpellsRules []) [] (inl refl)
rules_there zero (b ∷ bytes) = by_test (Sound (SpellsRules (b ∷ bytes))) _ _ _
    (λ t. some (SpellsRules (b ∷ bytes)) [] (inr (bytes, ap (λ x. x ∷ bytes) (eqb-is b 0xFF t))))
    (λ t. none _)
rules_there (suc most) (b ∷ bytes) = by_test (Sound (SpellsRules (b ∷ bytes))) _ _ _
    (λ t. some (SpellsRules (b ∷ bytes)) [] (inr (bytes, ap (λ x. x ∷ bytes) (eqb-is b 0xFF t))))
    (λ t. and_then _ (HasRule (b ∷ bytes)) (SpellsRules (b ∷ bytes)) (leading_rule (b ∷ bytes)) (rule_there (b ∷ bytes))
    (λ read p. mapped (λ rules. read.found ∷ rules) (SpellsRules read.behind) (SpellsRules (b ∷ bytes)) (rules_in most read.behind) (rules_there most read.behind)
    (λ rules q. (read.behind, p, q))))

rules_read : (rules : List AccessRule) (most : ℕ) (bytes : List ℕ) → length bytes ≤ most → SpellsRules bytes rules → rules_in most bytes ≡ Some rules
unfolding rules_in
rules_read [] zero [] h p = refl
rules_read [] (suc most) [] h p = refl
rules_read [] zero (b ∷ bytes) h p = absurd (omega arith)
rules_read [] (suc most) (b ∷ bytes) h p = ⊎_elim (λ e. absurd (cc)) (λ q. let i : b ≡ 0xFF = first_is q.1 in cond-true _ _ _ (eq-eqb b 0xFF i)) p
  where
    first_is : {rest : List ℕ} → (b ∷ bytes) ≡ 0xFF ∷ rest → b ≡ 0xFF
    first_is e = cc
rules_read (r ∷ rs) most [] h p = let s = rule_shorter p.1 in absurd (omega arith)
rules_read (r ∷ rs) zero (b ∷ bytes) h p = absurd (omega arith)
rules_read (r ∷ rs) (suc most) (b ∷ bytes) h p =
    let s = rule_shorter p.1 in
    let i : rules_in most p.0 ≡ Some rs = rules_read rs most p.0 (omega arith) p.2 in
    let n : b ≡ 0xFF → ⊥ = λ e. no_rule_at_ff bytes r p.0 (subst (λ a. BeginsWithRule (a ∷ bytes) r p.0) e p.1) in
    cond-false _ _ _ (eqb-not b 0xFF n)
    ∙ ap (option_and_then (λ (read : Read AccessRule). option_map (λ rules. read.found ∷ rules) (rules_in most read.behind))) (rule_read (b ∷ bytes) r p.0 p.1)
    ∙ ap (option_map (λ rules. r ∷ rules)) i

-- so the rules that are read are those that the bytes spell
pub one_meaning : (bytes : List ℕ) (rules : List AccessRule) → (rules_of bytes ≡ Some rules) ↔ SpellsRules bytes rules
unfolding rules_of
one_meaning bytes rules = (
  λ e. of_some (SpellsRules bytes) (rules_in (length bytes) bytes) rules (rules_there (length bytes) bytes) e,
  λ p. rules_read rules (length bytes) bytes (omega arith) p,
)

-- the rules of a record, step by step
pub rules_step : (b : ℕ) (bytes : List ℕ) (read : Read AccessRule) → (b ≡ 0xFF → ⊥) → leading_rule (b ∷ bytes) ≡ Some read → rules_of (b ∷ bytes) ≡ option_map (λ rules. read.found ∷ rules) (rules_of read.behind)
unfolding rules_of rules_in
rules_step b bytes read n e =
    let p : HasRule (b ∷ bytes) read = of_some (HasRule (b ∷ bytes)) (leading_rule (b ∷ bytes)) read (rule_there (b ∷ bytes)) e in
    let s = rule_shorter p in
    let i : rules_in (length bytes) read.behind ≡ rules_in (length read.behind) read.behind =
    same_values (SpellsRules read.behind) _ _
    (rules_there (length bytes) read.behind) (rules_there (length read.behind) read.behind)
    (λ rs q. rules_read rs (length bytes) read.behind (omega arith) q)
    (λ rs q. rules_read rs (length read.behind) read.behind (omega arith) q) in
    cond-false _ _ _ (eqb-not b 0xFF n)
    ∙ ap (option_and_then (λ (read : Read AccessRule). option_map (λ rules. read.found ∷ rules) (rules_in (length bytes) read.behind))) e
    ∙ ap (option_map (λ rules. read.found ∷ rules)) i

pub no_rule : (b : ℕ) (bytes : List ℕ) → (b ≡ 0xFF → ⊥) → leading_rule (b ∷ bytes) ≡ None → rules_of (b ∷ bytes) ≡ None
unfolding rules_of rules_in
no_rule b bytes n e =
    cond-false _ _ _ (eqb-not b 0xFF n)
    ∙ ap (option_and_then (λ (read : Read AccessRule). option_map (λ rules. read.found ∷ rules) (rules_in (length bytes) read.behind))) e

pub no_rules : rules_of [] ≡ Some []
unfolding rules_of rules_in
no_rules = refl

pub ended : (b : ℕ) (bytes : List ℕ) → b ≡ 0xFF → rules_of (b ∷ bytes) ≡ Some []
unfolding rules_of rules_in
ended b bytes e = cond-true _ _ _ (eq-eqb b 0xFF e)
