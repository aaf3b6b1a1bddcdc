-- The security conditions of access rules (ETSI TS 102 221, access rules in expanded format).
use Rattle.std.specs.Prelude.{ℕ, ◌+◌, Bool, true, false, ◌&&◌, ◌||◌, max}

-- always, never, where a key is met, where one of these is so, where all of these are so
mutual
  pub data Condition : Type 0 where
    Always : Condition
    Never : Condition
    Key : ℕ → Condition
    OneOf : Conditions → Condition
    AllOf : Conditions → Condition

  pub data Conditions : Type 0 where
    NoMore : Conditions
    Also : Condition → Conditions → Conditions

-- whether a condition is so, where these keys are met
abbrev mutual
  pub holds : (ℕ → Bool) → Condition → Bool
  holds met Always = true
  holds met Never = false
  holds met (Key key) = met key
  holds met (OneOf conditions) = one_holds met conditions
  holds met (AllOf conditions) = all_hold met conditions

  pub one_holds : (ℕ → Bool) → Conditions → Bool
  one_holds met NoMore = false
  one_holds met (Also condition conditions) = holds met condition || one_holds met conditions

  pub all_hold : (ℕ → Bool) → Conditions → Bool
  all_hold met NoMore = true
  all_hold met (Also condition conditions) = holds met condition && all_hold met conditions

-- how deep a condition nests, itself counted
abbrev mutual
  pub depth : Condition → ℕ
  depth Always = 1
  depth Never = 1
  depth (Key key) = 1
  depth (OneOf conditions) = 1 + greatest_depth conditions
  depth (AllOf conditions) = 1 + greatest_depth conditions

  pub greatest_depth : Conditions → ℕ
  greatest_depth NoMore = 0
  greatest_depth (Also condition conditions) = max (depth condition) (greatest_depth conditions)
