-- GSMA SGP.22, ES10c.eUICCMemoryReset: 82, a bit string whose bit 0 stands for the operational
-- profiles and bit 1 for the test profiles.
use Rattle.std.specs.Prelude.{ℕ, List, Option, option_and_then, option_map}
use Rattle.isdr_codec.specs.Fields.{needed_in}
use Rattle.isdr_codec.specs.Values.{bit_0, bit_1, bits_in}
use Rattle.isdr_codec.specs.declared.request.Request.{Request}
use Rattle.isdr_codec.specs.declared.request.Request.TheVariants.{MemoryReset}

abbrev pub memory_reset_in : List ℕ → Option Request
memory_reset_in value = option_map (λ bits. MemoryReset (bit_0 bits) (bit_1 bits))
    (option_and_then bits_in (needed_in 0x82 value))
