-- GSMA SGP.22, ES10b.ListNotification: 81, a bit string with the operations that are asked for.
-- Without it they are all.
use Rattle.std.specs.Prelude.{ℕ, List, Option, Some, None, option_and_then, option_map}
use Rattle.isdr_codec.specs.Fields.{field_in}
use Rattle.isdr_codec.specs.Values.{bits_in, operations_in}
use Rattle.isdr_codec.specs.declared.request.Request.{Request}
use Rattle.isdr_codec.specs.declared.request.Request.TheVariants.{NoteList}

abbrev pub operations_where : Option (List ℕ) → Option ℕ
operations_where None = Some 0x0F
operations_where (Some value) = option_map operations_in (bits_in value)

abbrev pub note_list_in : List ℕ → Option Request
note_list_in value = option_map NoteList (option_and_then operations_where (field_in 0x81 value))
