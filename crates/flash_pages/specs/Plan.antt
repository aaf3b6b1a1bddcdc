-- Which calls of a flash in memory fail.
use Rattle.std.specs.Prelude.{ℕ, Bool, true, false, ◌==◌, ◌||◌, not, if◌then◌else◌, List, Option}
use Rattle.std.specs.Prelude.{Some, None}
use Rattle.std.specs.List.{list_any}
use Rattle.port_io.specs.Faults.{one_more}
use Rattle.flash_pages.specs.declared.plan.Outcome.{Outcome}
use Rattle.flash_pages.specs.declared.plan.Outcome.TheVariants.{Done, Torn, Off}

pub record Plan : Type 0 where
  -- the numbers of the program and erase calls, and of the reads, that fail, from 1
  pub fail : List ℕ
  pub fail_reads : List ℕ
  -- the number of the program or erase call in which power is cut
  pub cut : Option ℕ
  -- how many program and erase calls, reads and faults there were, each up to the greatest `u64`
  pub changes : ℕ
  pub reads : ℕ
  pub faults : ℕ
  -- power was cut, and there was no restart since
  pub is_off : Bool

-- before the first call
abbrev pub first_plan : List ℕ → List ℕ → Option ℕ → Plan
first_plan fail fail_reads cut = record {
  fail = fail;
  fail_reads = fail_reads;
  cut = cut;
  changes = 0;
  reads = 0;
  faults = 0;
  is_off = false;
}

abbrev pub is_named : Option ℕ → ℕ → Bool
is_named None call = false
is_named (Some cut) call = cut == call

abbrev pub is_listed : List ℕ → ℕ → Bool
is_listed calls call = list_any (λ listed. listed == call) calls

-- Power that is off does nothing. The call of the cut and the listed ones tear what they write.
abbrev pub next_outcome : Plan → Outcome
next_outcome plan =
    let call = one_more plan.changes in
    if plan.is_off then Off else
    (if is_named plan.cut call || is_listed plan.fail call then Torn else Done)

abbrev pub is_done : Outcome → Bool
is_done Done = true
is_done Torn = false
is_done Off = false

-- after one more program or erase call
abbrev pub after_change : Plan → Plan
after_change plan = record plan {
  changes = one_more plan.changes;
  faults = if is_done (next_outcome plan) then plan.faults else one_more plan.faults;
  is_off = plan.is_off || is_named plan.cut (one_more plan.changes);
}

-- whether the next read works
abbrev pub is_read : Plan → Bool
is_read plan = not (plan.is_off || is_listed plan.fail_reads (one_more plan.reads))

-- after one more read
abbrev pub after_read : Plan → Plan
after_read plan =
    record plan {
      reads = one_more plan.reads;
      faults = if is_read plan then plan.faults else
          one_more plan.faults;
    }

-- after a restart
abbrev pub after_restart : Plan → Plan
after_restart plan = record plan { is_off = false }
