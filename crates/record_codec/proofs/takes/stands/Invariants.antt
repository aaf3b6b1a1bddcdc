use Rattle.std.proofs.Common.{◌≡◌, ◌↔◌, ℕ, drop, Some}
use Rattle.std.specs.Prelude.{slice_get}
use Rattle.record_codec.proofs.takes.stands.Given as goal

abbrev pub invariant-loop-place : goal.invariant-loop-place
invariant-loop-place l = ((port : ℕ) × (slice_get (drop l.place-index l.on) port ≡ Some (Some l.profile))) ↔ ((port : ℕ) × (slice_get l.on port ≡ Some (Some l.profile)))
