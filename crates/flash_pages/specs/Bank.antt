-- A bank: some blocks in a row.
use Rattle.std.specs.Prelude.{ℕ, ◌+◌, ◌*◌, ◌≤◌, List}
use Rattle.flash_pages.specs.declared.bank.Bank.{Bank}
use Rattle.flash_pages.specs.Bytes.{part}
use Rattle.flash_pages.specs.Flash.{block_len}

-- the places of its first byte and behind its last
abbrev pub start_of : Bank → ℕ
start_of bank = block_len * bank.first

abbrev pub end_of : Bank → ℕ
end_of bank = block_len * (bank.first + bank.blocks)

-- its bytes in an image
abbrev pub bank_bytes : Bank → List ℕ → List ℕ
bank_bytes bank image = part (start_of bank) (block_len * bank.blocks) image

-- it lies in a flash of so many blocks
abbrev pub LiesInFlash : ℕ → Bank → Type 0
LiesInFlash blocks bank = bank.first + bank.blocks ≤ blocks

-- a place in the bank, or its end
pub record IsPlaceIn (bank : Bank) (at : ℕ) : Type 0 where
  pub from_start : start_of bank ≤ at
  pub to_end : at ≤ end_of bank
