use Rattle.std.proofs.Common.{◌≡◌, ◌≤◌, ◌<◌, ◌+◌, ◌-◌, ◌*◌, ◌^◌, ℕ, length, drop, get_or}
use Rattle.uicc_data.specs.Number.{number_spelled}
use Rattle.uicc_data.proofs.number.sum_of.Given as goal

-- the lowest bytes are added so far
abbrev pub invariant-loop-place : goal.invariant-loop-place
invariant-loop-place l =
    (number_spelled (drop (length l.number - l.place) l.sum) + l.carry * 256 ^ l.place
    ≡ number_spelled (drop (length l.number - l.place) l.number) + number_spelled (drop (length l.addend - l.place) l.addend))
    × (length l.sum ≡ length l.number) × (l.carry ≤ 1) × ((i : ℕ) → get_or l.sum i 0 < 256)
