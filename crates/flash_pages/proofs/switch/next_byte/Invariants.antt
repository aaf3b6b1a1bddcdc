use Rattle.std.proofs.Common.{◌≡◌, ◌≢◌, ℕ, ◌-◌, ◌<◌, ◌≤◌, slice_index}
use Rattle.flash_pages.proofs.switch.next_byte.Given as goal

abbrev pub invariant-bytes : goal.invariant-bytes
invariant-bytes l = record {
  within : l.used ≤ l.place;
  rest : (k : ℕ) → l.used ≤ k → k < l.place → slice_index l.row k ≡ 255;
  last : 0 < l.used → slice_index l.row (l.used - 1) ≢ 255;
}
