use Rattle.std.specs.Prelude.{ℕ, ◌≡◌, ◌⊎◌, Option, Some}
use Rattle.uicc_channels.specs.declared.chan.Chan.{Chan}

-- a channel is as it was, but that its record pointer may be dropped
abbrev pub KeepsAllButPointer : Chan → Option Chan → Type 0
KeepsAllButPointer before after =
    (pointer : ℕ) × (after ≡ Some (record before { pointer = pointer }))
    × ((pointer ≡ before.pointer) ⊎ (pointer ≡ 0))
