use Rattle.std.proofs.Common.{◌≡◌, ℕ, ◌<◌, false}
use Rattle.std.specs.Prelude.{slice_index_or, None}
use Rattle.port_table.specs.Ports.{holds}
use Rattle.port_table.proofs.port_of.place_of.Given as goal

abbrev pub invariant-loop-port : goal.invariant-loop-port
invariant-loop-port l = (k : ℕ) → k < l.port → holds l.profile (slice_index_or l.on k None) ≡ false
