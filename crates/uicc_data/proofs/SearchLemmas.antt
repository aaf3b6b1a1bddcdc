use Rattle.std.proofs.Common.{◌≡◌, ◌≤◌, ◌<◌, ◌+◌, ◌-◌, ℕ, suc, Bool, true, false, cond, List, []}
use Rattle.std.proofs.Common.{◌∷◌, ◌++◌, length, length-append, drop, drop-cons, get_or, add-one}
use Rattle.std.proofs.Common.{append_assoc, nat_eq, refl, sym, ap, inl, inr, Option, Some, None}
use Rattle.std.proofs.Common.{arith}
use Rattle.std.proofs.lemmas.Bool.{cases_lt}
use Rattle.std.proofs.lemmas.List.{get_or_past, set-set}
use Rattle.std.specs.List.{starts_with}
use Rattle.file_rows.specs.declared.row.FileRow.{FileRow}
use Rattle.uicc_channels.proofs.SessionLemmas.{channel_at-with_channel_same}
use Rattle.uicc_channels.specs.Chan.{holding}
use Rattle.uicc_channels.specs.Delivery.{waiting}
use Rattle.uicc_channels.specs.Session.{IsOpen, channel_at, with_channel}
use Rattle.uicc_channels.specs.declared.chan.Chan.{Chan}
use Rattle.uicc_channels.specs.declared.session.Session.{Session}
use Rattle.uicc_data.specs.RecordWalk.{record_bytes}
use Rattle.uicc_data.specs.Search.{after_steps, found_among, holds_run, walk}
use Rattle.uicc_data.specs.declared.search.Direction.{Direction}
use Rattle.uicc_data.specs.declared.search.Direction.TheVariants.{Forwards, Backwards}

pub within : (session : Session) (number : ℕ) → IsOpen session number → number < length session.channels
within session number is_open =
    elim (cases_lt number (length session.channels)) [
      | inl below ↦ below
      | inr past ↦ let none : channel_at session number ≡ None = get_or_past session.channels number None past in absurd (cc)
    ]

-- a channel that moves, and on which then bytes come to wait, is one with the bytes waiting
pub waiting_moved : (session : Session) (number : ℕ) (chan : Chan) (bytes : List ℕ) → IsOpen session number
    → with_channel session number (Some (holding bytes chan)) ≡ waiting None (with_channel session number (Some chan)) number bytes
waiting_moved session number chan bytes is_open =
    rw (channel_at-with_channel_same session number (Some chan) (within session number is_open))
    (ap (λ (channels : List (Option Chan)). record session { channels = channels }) (sym (set-set session.channels number (Some chan) (Some (holding bytes chan)))))

-- where no run begins at a place, it begins later or not at all
pub no_run_here : (run bytes : List ℕ) (start : ℕ) → start < length bytes → starts_with nat_eq (drop start bytes) run ≡ false
    → holds_run run (drop (start + 1) bytes) ≡ holds_run run (drop start bytes)
no_run_here run bytes start below none =
    let here : drop start bytes ≡ get_or bytes start 0 ∷ drop (suc start) bytes = drop-cons bytes start 0 below in
    rw (add-one, here) (let not_here : starts_with nat_eq (get_or bytes start 0 ∷ drop (suc start) bytes) run ≡ false = rw here at none in rw not_here refl)

-- the next number of a walk
walk_next : (way : Direction) (number steps more : ℕ)
    → walk way (after_steps way number steps) (suc more) ≡ after_steps way number steps ∷ walk way (after_steps way number (steps + 1)) more
walk_next Forwards number steps more = let same : number + steps + 1 ≡ number + (steps + 1) = omega arith in rw same refl
walk_next Backwards number steps more = let same : number - steps - 1 ≡ number - (steps + 1) = omega arith in rw same refl

-- the first of some numbers comes first where its record is found
found_first : (row : FileRow) (run : List ℕ) (number : ℕ) (rest : List ℕ)
    → found_among row run (number ∷ rest) ≡ cond (holds_run run (record_bytes row number)) (number ∷ []) [] ++ found_among row run rest
found_first row run number rest = either (holds_run run (record_bytes row number))
  where
    either : (b : Bool) → cond b (number ∷ found_among row run rest) (found_among row run rest) ≡ cond b (number ∷ []) [] ++ found_among row run rest
    either true = refl
    either false = refl

-- one more record is looked at
pub found_more : (row : FileRow) (run : List ℕ) (way : Direction) (number steps left : ℕ) (found : List ℕ) → steps < left
    → (found ++ cond (holds_run run (record_bytes row (after_steps way number steps))) (after_steps way number steps ∷ []) [])
    ++ found_among row run (walk way (after_steps way number (steps + 1)) (left - (steps + 1)))
    ≡ found ++ found_among row run (walk way (after_steps way number steps) (left - steps))
found_more row run way number steps left found below =
    let more : left - steps ≡ suc (left - (steps + 1)) = omega (arith, below) in
    rw (
      more,
      walk_next way number steps (left - (steps + 1)),
      found_first row run (after_steps way number steps) (walk way (after_steps way number (steps + 1)) (left - (steps + 1))),
    )
    (append_assoc found _ _)

-- at most one is found with each record
pub length_more : (found : List ℕ) (holds : Bool) (number steps : ℕ) → length found ≤ steps → length (found ++ cond holds (number ∷ []) []) ≤ steps + 1
length_more found true number steps few = omega (arith, few, length-append found (number ∷ []))
length_more found false number steps few = omega (arith, few, length-append found [])
