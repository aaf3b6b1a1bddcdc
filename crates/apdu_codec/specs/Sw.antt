use Rattle.std.specs.Prelude.{ℕ, ◌+◌, ◌%◌}
use Rattle.apdu_codec.specs.declared.status.Sw.{Sw}

-- `61XX`: this many bytes wait, of which 256 is written as 00
abbrev pub bytes_waiting : ℕ → Sw
bytes_waiting count = record { 0 = 0x6100 + count % 256 }

-- `6CXX`: the expected length was wrong, and this many bytes can be had, of which 256 is written
-- as 00
abbrev pub wrong_le : ℕ → Sw
wrong_le count = record { 0 = 0x6C00 + count % 256 }

-- `63CX`: the verification failed, and this many tries are left
abbrev pub tries_left : ℕ → Sw
tries_left tries = record { 0 = 0x63C0 + tries }
