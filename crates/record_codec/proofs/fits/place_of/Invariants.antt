use Rattle.std.proofs.Common.{◌↔◌, drop}
use Rattle.record_codec.specs.Heads.{IsHeld}
use Rattle.record_codec.proofs.fits.place_of.Given as goal

abbrev pub invariant-loop-place : goal.invariant-loop-place
invariant-loop-place l = IsHeld l.number (drop l.place l.profiles) ↔ IsHeld l.number l.profiles
