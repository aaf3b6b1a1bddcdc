-- The calls that a flash in memory keeps, the newest first, and the images that follow from them.
use Rattle.std.specs.Prelude.{◌≡◌, ◌⊎◌, ℕ, suc, ◌≤◌, Bool, false, IsTrue, ◌&&◌, nat_lt}
use Rattle.std.specs.Prelude.{if◌then◌else◌, List, [], ◌∷◌, length, Option, Some, None}
use Rattle.flash_pages.specs.Bytes.{patch, DiffersIn}
use Rattle.flash_pages.specs.Flash.{FlashState}

pub data Call : Type 0 where
  -- a program or an erase of n bytes: what it left there, or none where it did nothing, and whether
  -- it answered Ok
  Write : (at n : ℕ) (left : Option (List ℕ)) (ok : Bool) → Call
  Restarted : Call

-- what reads return after these calls on a flash that held these bytes
abbrev pub content : List ℕ → List Call → List ℕ
content first [] = first
content first (Write at n (Some left) ok ∷ calls) = patch (content first calls) at left
content first (Write at n None ok ∷ calls) = content first calls
content first (Restarted ∷ calls) = content first calls

-- the moment of the last Ok, moments being numbers of calls
abbrev pub last_ok : List Call → ℕ
last_ok [] = 0
last_ok (Write at n left ok ∷ calls) = if ok then suc (length calls) else last_ok calls
last_ok (Restarted ∷ calls) = suc (length calls)

-- The images of all moments from t on: at each, what reads then return; inside a program or an
-- erase, what differs from that in its range alone; inside a restart, the images since the last Ok
-- before it.
abbrev pub Since : List ℕ → List Call → ℕ → List ℕ → Type 0
Since first [] t image = image ≡ first
Since first (Write at n left ok ∷ calls) t image =
    (image ≡ content first (Write at n left ok ∷ calls))
    ⊎ ((t ≤ length calls) ×
    (Since first calls t image ⊎ DiffersIn at n (content first calls) image))
Since first (Restarted ∷ calls) t image =
    (image ≡ content first calls)
    ⊎ ((t ≤ length calls) × (Since first calls t image ⊎ Since first calls (last_ok calls) image))

-- the first bytes, and the calls so far, known as long as there is room for them
pub record Past : Type 0 where
  pub first : List ℕ
  pub calls : List Call
  pub known : Bool
  pub room : ℕ

-- after one more call
abbrev pub after_call : Past → Call → Past
after_call past call =
    if past.known && nat_lt (length past.calls) past.room
    then record past { calls = call ∷ past.calls }
    else record past { known = false }

-- what a restart may leave: what reads return, and the images since the last Ok as long as the
-- calls are known
abbrev pub MayLeave : Past → List ℕ → List ℕ → Type 0
MayLeave past bytes content =
    (content ≡ bytes) ⊎
    (IsTrue past.known × Since past.first past.calls (last_ok past.calls) content)

-- what contracts see of a flash in memory
abbrev pub memory_state : Past → List ℕ → ℕ → ℕ → ℕ → FlashState
memory_state past bytes programmed erased faults = record {
  bytes = Some bytes;
  may_leave = MayLeave past bytes;
  moment = length past.calls;
  images = Since past.first past.calls;
  images_known = past.known;
  programmed = programmed;
  erased = erased;
  faults = faults;
}
