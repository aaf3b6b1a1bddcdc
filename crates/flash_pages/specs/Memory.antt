-- What contracts see of a flash in memory.
use Rattle.std.specs.Prelude.{◌≡◌, ◌↔◌, ℕ, false, IsTrue, ◌&&◌, nat_lt, if◌then◌else◌, List, Result}
use Rattle.std.specs.Prelude.{is_ok}
use Rattle.flash_pages.specs.declared.memory.MemoryFlash.{MemoryFlash}
use Rattle.flash_pages.specs.declared.plan.FlashPlan.{FlashPlan}
use Rattle.flash_pages.specs.Flash.{FlashState, IsFresh, IsSettled}
use Rattle.flash_pages.specs.Past.{last_ok, memory_state}
use Rattle.flash_pages.specs.Plan.{Plan, first_plan}

abbrev pub state_of : MemoryFlash → FlashState
state_of flash =
    memory_state flash.history.past flash.bytes.items flash.programmed flash.erased
    flash.power.faults

-- which calls fail, and how many there were
abbrev pub plan_of : MemoryFlash → Plan
plan_of flash = flash.power

abbrev pub bytes_of : MemoryFlash → List ℕ
bytes_of flash = flash.bytes.items

-- the bytes that a failure leaves, over and over
abbrev pub torn_of : MemoryFlash → List ℕ
torn_of flash = flash.history.torn

-- for how many calls there is room
abbrev pub room_of : MemoryFlash → ℕ
room_of flash = flash.history.past.room

-- it was made with these bytes, by this plan
pub record IsMade (held : List ℕ) (plan : FlashPlan) (flash : MemoryFlash) : Type 0 where
  pub fresh : IsFresh held (state_of flash)
  pub plan_is : plan_of flash ≡ first_plan plan.fail.items plan.fail_reads.items plan.cut
  pub torn : torn_of flash ≡ plan.torn.items
  pub room : room_of flash ≡ plan.kept

-- the moment of the last Ok of a program, an erase or a restart, or at which the flash was made
abbrev pub last_ok_of : MemoryFlash → ℕ
last_ok_of flash = last_ok flash.history.past.calls

-- A restart may leave just the images since this moment, as long as they are known, and from then
-- on just what reads return.
pub record LeavesImagesSince (t : ℕ) (flash : FlashState) : Type 0 where
  pub in_room : IsTrue flash.images_known → (content : List ℕ)
      → flash.may_leave content ↔ flash.images t content
  pub past_room : flash.images_known ≡ false → IsSettled flash

-- A program, an erase or a restart that the flash keeps as long as there is room. From the first
-- one past the room on the images are known no more.
pub record RecordsCall {E : Type 0} (old new : MemoryFlash) (result : Result Unit E) : Type 0 where
  pub known : (state_of new).images_known
      ≡ ((state_of old).images_known && nat_lt (state_of old).moment (room_of old))
  pub last_ok : IsTrue (state_of new).images_known
      → last_ok_of new ≡ (if is_ok result then (state_of new).moment else last_ok_of old)
  pub room : room_of new ≡ room_of old
  pub torn : torn_of new ≡ torn_of old
