-- A key more that is met takes nothing away.
use Rattle.std.proofs.Common.{◌≡◌, ℕ, Bool, true, false, cond, List, [], ◌∷◌, Option, Some, None}
use Rattle.std.proofs.Common.{refl}
use Rattle.std.specs.Prelude.{◌&&◌, ◌||◌, option_map, unwrap_or}
use Rattle.file_rows.specs.declared.mode.Mode.{Mode}
use Rattle.access_rules.specs.AccessRule.{AccessRule, allows, covers}
use Rattle.access_rules.specs.Condition.{Condition, Conditions, all_hold, holds, one_holds}
use Rattle.access_rules.specs.Condition.Condition.{AllOf, Always, Key, Never, OneOf}
use Rattle.access_rules.specs.Condition.Conditions.{Also, NoMore}
use Rattle.access_rules.specs.May.{record_allows}
use Rattle.access_rules.specs.Reading.{rules_of}

either : (a b c d : Bool) → (a ≡ true → c ≡ true) → (b ≡ true → d ≡ true) → (a || b) ≡ true → (c || d) ≡ true
either true b c d h k e = rw (h refl)
either false b true d h k e = refl
either false b false d h k e = k e

each : (a b c d : Bool) → (a ≡ true → c ≡ true) → (b ≡ true → d ≡ true) → (a && b) ≡ true → (c && d) ≡ true
each true b c d h k e = rw (h refl) (k e)
each false b c d h k e = absurd (cc)

module _ (fewer more : ℕ → Bool) (grows : (key : ℕ) → fewer key ≡ true → more key ≡ true) where
  mutual
    pub still_holds : (c : Condition) → holds fewer c ≡ true → holds more c ≡ true
    still_holds Always e = refl
    still_holds Never e = absurd (cc)
    still_holds (Key key) e = grows key e
    still_holds (OneOf cs) e = still_one cs e
    still_holds (AllOf cs) e = still_all cs e

    pub still_one : (cs : Conditions) → one_holds fewer cs ≡ true → one_holds more cs ≡ true
    still_one NoMore e = absurd (cc)
    still_one (Also c cs) e = either (holds fewer c) (one_holds fewer cs) (holds more c) (one_holds more cs) (still_holds c) (still_one cs) e

    pub still_all : (cs : Conditions) → all_hold fewer cs ≡ true → all_hold more cs ≡ true
    still_all NoMore e = refl
    still_all (Also c cs) e = each (holds fewer c) (all_hold fewer cs) (holds more c) (all_hold more cs) (still_holds c) (still_all cs) e

  still_chosen : (covered : Bool) (a b c d : Bool) → (a ≡ true → c ≡ true) → (b ≡ true → d ≡ true) → cond covered a b ≡ true → cond covered c d ≡ true
  still_chosen true a b c d h k e = h e
  still_chosen false a b c d h k e = k e

  pub still_allows : (mode : Mode) (rules : List AccessRule) → allows rules mode fewer ≡ true → allows rules mode more ≡ true
  still_allows mode [] e = e
  still_allows mode (rule ∷ rules) e =
      still_chosen (covers rule.modes mode) (holds fewer rule.condition) (allows rules mode fewer) (holds more rule.condition) (allows rules mode more)
      (still_holds rule.condition) (still_allows mode rules) e

  still_read : (mode : Mode) (o : Option (List AccessRule)) → unwrap_or (option_map (λ rules. allows rules mode fewer) o) false ≡ true → unwrap_or (option_map (λ rules. allows rules mode more) o) false ≡ true
  still_read mode None e = e
  still_read mode (Some rules) e = still_allows mode rules e

  pub still_recorded : (mode : Mode) (o : Option (List ℕ)) → unwrap_or (option_map (λ bytes. record_allows bytes mode fewer) o) false ≡ true → unwrap_or (option_map (λ bytes. record_allows bytes mode more) o) false ≡ true
  still_recorded mode None e = e
  still_recorded mode (Some bytes) e = still_read mode (rules_of bytes) e
