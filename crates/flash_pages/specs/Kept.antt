-- What a kept call stands for.
use Rattle.std.specs.Prelude.{ℕ, ◌*◌, true, false, List, length, Option, Some, None, map, reverse}
use Rattle.flash_pages.specs.declared.history.Kept.{Kept}
use Rattle.flash_pages.specs.declared.history.Kept.TheVariants.{Program, Erase, Torn, Off, Restart}
use Rattle.flash_pages.specs.Bytes.{blank, repeated}
use Rattle.flash_pages.specs.Flash.{block_len, card_blocks}
use Rattle.flash_pages.specs.Past.{Call, Write, Restarted, Past}

abbrev pub call_of : List ℕ → Kept → Call
call_of torn (Program at bytes) = Write at (length bytes.items) (Some bytes.items) true
call_of torn (Erase block) = Write (block_len * block) block_len (Some (blank block_len)) true
call_of torn (Torn at len) = Write at len (Some (repeated torn len)) false
call_of torn (Off at len) = Write at len None false
call_of torn Restart = Restarted

-- the kept calls, the newest first
abbrev pub calls_of : List ℕ → List Kept → List Call
calls_of torn kept = reverse (map (call_of torn) kept)

-- the bytes that the flash was made with; one that was made blank keeps none
abbrev pub made_with : Option (List ℕ) → List ℕ
made_with (Some bytes) = bytes
made_with None = blank (block_len * card_blocks)

-- the past, and the torn bytes of its failures
pub record History : Type 0 where
  pub past : Past
  pub torn : List ℕ
