-- What a pass over the rules of a record comes to, rule by rule.
use Rattle.std.proofs.Common.{◌≡◌, ℕ, ◌<◌, Bool, true, false, cond, List, [], ◌∷◌, length, Option}
use Rattle.std.proofs.Common.{Some, None, Ok, refl, ◌∙◌, ap, subst, eq-eqb, inl, inr}
use Rattle.std.specs.Prelude.{option_and_then, option_map, unwrap_or}
use Rattle.std.specs.Bool.{then_some}
use Rattle.std.specs.Option.{ok_or, option_or}
use Rattle.std.specs.Result.{result_unwrap_or}
use Rattle.access_rules.specs.declared.fault.RuleFault.TheVariants.{Malformed}
use Rattle.std.proofs.lemmas.Bool.{cond-true, cond-false}
use Rattle.ber_tlv.specs.Walk.{Object}
use Rattle.file_rows.specs.declared.mode.Mode.{Mode}
use Rattle.access_rules.specs.AccessRule.{AccessRule, Modes, allows, answer_of, covers}
use Rattle.access_rules.specs.AccessRule.Modes.{Bits}
use Rattle.access_rules.specs.Condition.{holds}
use Rattle.ber_tlv.specs.Objects.{Read, object_at}
use Rattle.access_rules.specs.Reading.{byte_of, codes_of, condition_of, modes_of, leading_rule}
use Rattle.access_rules.specs.Reading.{rule_with, rules_of}
use Rattle.access_rules.specs.Record.{HasNoMore}
use Rattle.ber_tlv.proofs.ObjectLemmas.{eqb-not, of_some, not_tag}
use Rattle.access_rules.proofs.Meaning.{HasRule, ended, no_rule, no_rules, rule_shorter, rule_there}
use Rattle.access_rules.proofs.Meaning.{rules_step}

module _ (mode : Mode) (o : Object) where
  abbrev pub covered : Option Bool
  covered = option_map (λ modes. covers modes mode) (modes_of o)

  pub by_bits : o.tag ≡ 0x80 → covered ≡ option_map (λ bits. covers (Bits bits) mode) (byte_of o.value)
  unfolding modes_of
  by_bits h = ap (option_map (λ modes. covers modes mode)) (cond-true _ _ _ (eq-eqb o.tag 0x80 h)) ∙ through (byte_of o.value)
    where
      through : (b : Option ℕ) → option_map (λ modes. covers modes mode) (option_map Bits b) ≡ option_map (λ bits. covers (Bits bits) mode) b
      through None = refl
      through (Some b) = refl

  pub by_codes : o.tag ≡ 0x84 → covered ≡ option_map (λ modes. covers modes mode) (codes_of o.value)
  unfolding modes_of
  by_codes h = ap (option_map (λ modes. covers modes mode)) (cond-false _ _ _ (not_tag o.tag 0x84 0x80 h refl) ∙ cond-true _ _ _ (eq-eqb o.tag 0x84 h))

  pub by_neither : (o.tag ≡ 0x80 → ⊥) → (o.tag ≡ 0x84 → ⊥) → covered ≡ None
  unfolding modes_of
  by_neither h k = ap (option_map (λ modes. covers modes mode)) (cond-false _ _ _ (eqb-not o.tag 0x80 h) ∙ cond-false _ _ _ (eqb-not o.tag 0x84 k))

pub none_covered : {A : Type 0} (f : A → Bool) (o : Option A) → option_map f o ≡ None → o ≡ None
none_covered f None h = refl
none_covered f (Some x) h = absurd (cc)

-- the value that a mapped option had
pub had : {A B : Type 0} (f : A → B) (o : Option A) (y : B) → option_map f o ≡ Some y → (x : A) × (o ≡ Some x) × (f x ≡ y)
had f None y h = absurd (cc)
had f (Some x) y h = (x, refl, cc)

-- what a rule comes to, by its parts
module _ (bytes : List ℕ) where
  pub no_modes_object : object_at bytes ≡ None → leading_rule bytes ≡ None
  unfolding leading_rule
  no_modes_object e = ap (option_and_then (λ (read : Read Object). option_and_then (λ modes. rule_with modes read.behind) (modes_of read.found))) e

  pub no_modes : (o : Object) (rest : List ℕ) → object_at bytes ≡ Some (record { found = o; behind = rest }) → modes_of o ≡ None → leading_rule bytes ≡ None
  unfolding leading_rule
  no_modes o rest e h =
      ap (option_and_then (λ (read : Read Object). option_and_then (λ modes. rule_with modes read.behind) (modes_of read.found))) e
      ∙ ap (option_and_then (λ modes. rule_with modes rest)) h

  with_modes : (o : Object) (rest : List ℕ) (modes : Modes) → object_at bytes ≡ Some (record { found = o; behind = rest }) → modes_of o ≡ Some modes → leading_rule bytes ≡ rule_with modes rest
  unfolding leading_rule
  with_modes o rest modes e h =
      ap (option_and_then (λ (read : Read Object). option_and_then (λ modes. rule_with modes read.behind) (modes_of read.found))) e
      ∙ ap (option_and_then (λ modes. rule_with modes rest)) h

  pub no_condition_object : (o : Object) (rest : List ℕ) (modes : Modes) → object_at bytes ≡ Some (record { found = o; behind = rest }) → modes_of o ≡ Some modes
      → object_at rest ≡ None → leading_rule bytes ≡ None
  unfolding rule_with
  no_condition_object o rest modes e h k = with_modes o rest modes e h
      ∙ ap (option_and_then (λ (read : Read Object). option_map (λ condition. record { found = record { modes = modes; condition = condition }; behind = read.behind }) (condition_of 8 read.found))) k

  with_condition : (o p : Object) (rest more : List ℕ) (modes : Modes) → object_at bytes ≡ Some (record { found = o; behind = rest }) → modes_of o ≡ Some modes
      → object_at rest ≡ Some (record { found = p; behind = more })
      → leading_rule bytes ≡ option_map (λ condition. record { found = record { modes = modes; condition = condition }; behind = more }) (condition_of 8 p)
  unfolding rule_with
  with_condition o p rest more modes e h k = with_modes o rest modes e h
      ∙ ap (option_and_then (λ (read : Read Object). option_map (λ condition. record { found = record { modes = modes; condition = condition }; behind = read.behind }) (condition_of 8 read.found))) k

  pub no_condition : (o p : Object) (rest more : List ℕ) (modes : Modes) → object_at bytes ≡ Some (record { found = o; behind = rest }) → modes_of o ≡ Some modes
      → object_at rest ≡ Some (record { found = p; behind = more }) → condition_of 8 p ≡ None → leading_rule bytes ≡ None
  no_condition o p rest more modes e h k l = with_condition o p rest more modes e h k
      ∙ ap (option_map (λ condition. record { found = record { modes = modes; condition = condition }; behind = more })) l

  pub the_rule : (mode : Mode) (met : ℕ → Bool) (o p : Object) (rest more : List ℕ) (covered holding : Bool)
      → object_at bytes ≡ Some (record { found = o; behind = rest }) → option_map (λ modes. covers modes mode) (modes_of o) ≡ Some covered
      → object_at rest ≡ Some (record { found = p; behind = more }) → option_map (holds met) (condition_of 8 p) ≡ Some holding
      → option_map {U = Option Bool × List ℕ} (λ (read : Read AccessRule). (answer_of mode met read.found, read.behind)) (leading_rule bytes) ≡ Some (cond covered (Some holding) None, more)
  the_rule mode met o p rest more covered holding e h k l =
      let m = had (λ modes. covers modes mode) (modes_of o) covered h in
      let n = had (holds met) (condition_of 8 p) holding l in
      ap (option_map {U = Option Bool × List ℕ} (λ (read : Read AccessRule). (answer_of mode met read.found, read.behind)))
      (with_condition o p rest more m.0 e m.1 k
      ∙ ap (option_map (λ condition. record { found = record { modes = m.0; condition = condition }; behind = more })) n.1)
      ∙ ap (λ (b : Bool). Some (cond b (Some (holds met n.0)) None, more)) m.2
      ∙ ap (λ (b : Bool). Some (cond covered (Some b) None, more)) n.2

-- the answer of the rules, of which the first is this
allows-cons : (mode : Mode) (met : ℕ → Bool) (rule : AccessRule) (rules : List AccessRule) → allows (rule ∷ rules) mode met ≡ unwrap_or (answer_of mode met rule) (allows rules mode met)
allows-cons mode met rule rules = split (covers rule.modes mode)
  where
    split : (b : Bool) → cond b (holds met rule.condition) (allows rules mode met) ≡ unwrap_or (cond b (Some (holds met rule.condition)) None) (allows rules mode met)
    split true = refl
    split false = refl

-- what the rules in some bytes come to behind what was decided before
abbrev pub decided_by : Mode → (ℕ → Bool) → Option Bool → List ℕ → Option Bool
decided_by mode met before bytes = option_map (λ rules. unwrap_or before (allows rules mode met)) (rules_of bytes)

pub at_first : (mode : Mode) (met : ℕ → Bool) (bytes : List ℕ) → option_map (λ rules. allows rules mode met) (rules_of bytes) ≡ decided_by mode met None bytes
at_first mode met bytes = refl

pub at_end : (mode : Mode) (met : ℕ → Bool) (before : Option Bool) (bytes : List ℕ) → HasNoMore bytes → decided_by mode met before bytes ≡ Some (unwrap_or before false)
at_end mode met before bytes (inl e) =
    ap (λ (x : List ℕ). option_map (λ rules. unwrap_or before (allows rules mode met)) (rules_of x)) e
    ∙ ap (option_map (λ rules. unwrap_or before (allows rules mode met))) no_rules
at_end mode met before bytes (inr p) =
    ap (λ (x : List ℕ). option_map (λ rules. unwrap_or before (allows rules mode met)) (rules_of x)) p.1
    ∙ ap (option_map (λ rules. unwrap_or before (allows rules mode met))) (ended 0xFF p.0 refl)

pub broken_rule : (mode : Mode) (met : ℕ → Bool) (before : Option Bool) (bytes : List ℕ) → ¬ HasNoMore bytes → leading_rule bytes ≡ None → decided_by mode met before bytes ≡ None
broken_rule mode met before [] n e = absurd (n (inl refl))
broken_rule mode met before (b ∷ bytes) n e =
    ap (option_map (λ rules. unwrap_or before (allows rules mode met))) (no_rule b bytes (λ h. n (inr (bytes, ap (λ x. x ∷ bytes) h))) e)

pub next_rule : (mode : Mode) (met : ℕ → Bool) (whole before answer : Option Bool) (bytes behind : List ℕ) → ¬ HasNoMore bytes
    → option_map {U = Option Bool × List ℕ} (λ (read : Read AccessRule). (answer_of mode met read.found, read.behind)) (leading_rule bytes) ≡ Some (answer, behind)
    → whole ≡ decided_by mode met before bytes → whole ≡ decided_by mode met (option_or before answer) behind
next_rule mode met whole before answer [] behind n e w = absurd (n (inl refl))
next_rule mode met whole before answer (b ∷ bytes) behind n e w =
    let r = had (λ (read : Read AccessRule). (answer_of mode met read.found, read.behind)) (leading_rule (b ∷ bytes)) (answer, behind) e in
    let same : answer_of mode met r.0.found ≡ answer = ap (λ (p : Option Bool × List ℕ). p.0) r.2 in
    let rest : r.0.behind ≡ behind = ap (λ (p : Option Bool × List ℕ). p.1) r.2 in
    w ∙ ap (option_map (λ rules. unwrap_or before (allows rules mode met))) (rules_step b bytes r.0 (λ h. n (inr (bytes, ap (λ x. x ∷ bytes) h))) r.1)
    ∙ through r.0.found (rules_of r.0.behind)
    ∙ ap (λ (a : Option Bool). option_map (λ rules. unwrap_or (option_or before a) (allows rules mode met)) (rules_of r.0.behind)) same
    ∙ ap (λ (x : List ℕ). decided_by mode met (option_or before answer) x) rest
  where
    or_unwrap : (o p : Option Bool) (b : Bool) → unwrap_or o (unwrap_or p b) ≡ unwrap_or (option_or o p) b
    or_unwrap None p b = refl
    or_unwrap (Some x) p b = refl

    through : (rule : AccessRule) (o : Option (List AccessRule)) → option_map (λ rules. unwrap_or before (allows rules mode met)) (option_map (λ rules. rule ∷ rules) o)
        ≡ option_map (λ rules. unwrap_or (option_or before (answer_of mode met rule)) (allows rules mode met)) o
    through rule None = refl
    through rule (Some rules) = ap Some (ap (unwrap_or before) (allows-cons mode met rule rules) ∙ or_unwrap before (answer_of mode met rule) (allows rules mode met))

pub rule_behind_shorter : (mode : Mode) (met : ℕ → Bool) (answer : Option Bool) (bytes behind : List ℕ)
    → option_map {U = Option Bool × List ℕ} (λ (read : Read AccessRule). (answer_of mode met read.found, read.behind)) (leading_rule bytes) ≡ Some (answer, behind) → length behind < length bytes
rule_behind_shorter mode met answer bytes behind e =
    let r = had (λ (read : Read AccessRule). (answer_of mode met read.found, read.behind)) (leading_rule bytes) (answer, behind) e in
    let rest : r.0.behind ≡ behind = ap (λ (p : Option Bool × List ℕ). p.1) r.2 in
    let p : HasRule bytes r.0 = of_some (HasRule bytes) (leading_rule bytes) r.0 (rule_there bytes) r.1 in
    subst (λ (x : List ℕ). length x < length bytes) rest (rule_shorter p)

pub then_some_is : (b x : Bool) → then_some b x ≡ cond b (Some x) None
then_some_is true x = refl
then_some_is false x = refl

-- what the rules allow, and nothing without them
pub allowed_or_not : (mode : Mode) (met : ℕ → Bool) (o : Option (List AccessRule))
    → result_unwrap_or (ok_or (option_map (λ rules. allows rules mode met) o) Malformed) false ≡ allows (unwrap_or o []) mode met
allowed_or_not mode met None = refl
allowed_or_not mode met (Some rules) = refl

pub rules_there_are : (mode : Mode) (met : ℕ → Bool) (o : Option (List AccessRule)) (so : Bool) → Ok so ≡ ok_or (option_map (λ rules. allows rules mode met) o) Malformed → o ≡ Some (unwrap_or o [])
rules_there_are mode met None so h = absurd (cc)
rules_there_are mode met (Some rules) so h = refl
