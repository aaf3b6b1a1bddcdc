-- The tokens of a section's ports.
use Rattle.std.specs.Prelude.{ℕ, ◌≡◌, List, map}
use Rattle.std.specs.List.{range_with_len}

-- what contracts see of a pass: its port
pub record PassState : Type 0 where
  pub port : ℕ

abbrev pub pass_of : ℕ → PassState
pass_of port = record { port = port }

-- one pass for each of so many ports, in ascending order
abbrev pub AreOfPorts : ℕ → List PassState → Type 0
AreOfPorts count passes = passes ≡ map pass_of (range_with_len 0 count)
