use Rattle.std.specs.Prelude.{Bool, ◌==◌, ◌||◌}
use Rattle.apdu_codec.specs.declared.status.Sw.{Sw}

-- the status words of a command that failed: `6F00` where memory was wanting, and `6581` where its
-- change wasn't stored
abbrev pub is_failing : Sw → Bool
is_failing sw = (sw.0 == 0x6F00) || (sw.0 == 0x6581)
