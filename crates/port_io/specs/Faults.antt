-- The words on causes. A source, a sink, a flash and a shelf each count their faults in a `u64`
-- that stops at its greatest value. A fault is reported only where the count of the object that
-- was handed in rose in that call.
use Rattle.std.specs.Prelude.{ℕ, ◌+◌, ◌-◌, ◌^◌, ◌≤◌, min, Result, OnErr}

-- one more, up to the greatest `u64`
abbrev pub one_more : ℕ → ℕ
one_more count = min (count + 1) (2 ^ 64 - 1)

-- the count rose: by one at least, or it stands at the greatest `u64`
abbrev pub Rose : ℕ → ℕ → Type 0
Rose before after = one_more before ≤ after

-- no fault that was counted is forgotten
abbrev pub NeverFalls : ℕ → ℕ → Type 0
NeverFalls before after = before ≤ after

-- this is reported only where the count rose, as
-- `OnlyWhereRose (IsErrOf result Fault.Flash) before after`
abbrev pub OnlyWhereRose : Type 0 → ℕ → ℕ → Type 0
OnlyWhereRose reported before after = reported → Rose before after

-- a call whose only error is a fault fails only where the count rose
abbrev pub FailsOnlyWhereRose : {T E : Type 0} → Result T E → ℕ → ℕ → Type 0
FailsOnlyWhereRose result before after = OnErr result (Rose before after)
