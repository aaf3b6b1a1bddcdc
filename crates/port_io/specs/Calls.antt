-- How many calls there were, and which of them fail.
use Rattle.std.specs.Prelude.{ℕ, Bool, List, Contains, if◌then◌else◌}
use Rattle.port_io.specs.Faults.{one_more}

pub record Calls : Type 0 where
  -- the numbers of the calls that fail, from 1
  pub fail : List ℕ
  -- how many calls there were, and how many faults, both up to the greatest `u64`
  pub made : ℕ
  pub faults : ℕ

-- no call yet
abbrev pub planned : List ℕ → Calls
planned fail = record { fail = fail; made = 0; faults = 0 }

-- the next call is one of those that fail
abbrev pub NextFails : Calls → Type 0
NextFails calls = Contains calls.fail (one_more calls.made)

-- after one more call, a fault or none
abbrev pub with_call : Calls → Bool → Calls
with_call calls is_fault = record {
  fail = calls.fail;
  made = one_more calls.made;
  faults = if is_fault then one_more calls.faults else calls.faults;
}

-- after one more fault
abbrev pub with_fault : Calls → Calls
with_fault calls = record calls { faults = one_more calls.faults }
