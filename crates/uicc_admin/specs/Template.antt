-- The template 62 of file control parameters as the body of a command (ETSI TS 102 222).
use Rattle.std.specs.Prelude.{ℕ, ◌==◌, ◌&&◌, if◌then◌else◌, List, length, Option, Some, None}
use Rattle.std.specs.Prelude.{option_and_then}
use Rattle.ber_tlv.specs.Objects.{Read, object_at}
use Rattle.ber_tlv.specs.Walk.{Object}
use Rattle.fcp_codec.specs.Reading.{fields_in}
use Rattle.fcp_codec.specs.declared.fcp.Fcp.{Fcp}

-- the value of a template 62 with nothing behind it
abbrev pub value_of_template : Read Object → Option (List ℕ)
value_of_template read =
    if (read.found.tag == 0x62) && (length read.behind == 0) then Some read.found.value else None

-- the file control parameters in a body, where it is a well formed template
abbrev pub fcp_in : List ℕ → Option Fcp
fcp_in body = option_and_then fields_in (option_and_then value_of_template (object_at body))
