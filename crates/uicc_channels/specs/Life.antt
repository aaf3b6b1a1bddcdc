use Rattle.std.specs.Prelude.{Option, Some, None}
use Rattle.apdu_codec.specs.declared.status.Sw.{Sw}
use Rattle.apdu_codec.specs.declared.status.TheConstants.Sw.{CONDITIONS_NOT_SATISFIED, DATA_BLOCKED}
use Rattle.file_rows.specs.declared.head.Life.{Life}
use Rattle.file_rows.specs.declared.head.Life.TheVariants.{Active, Deactivated, Terminated}

-- why an EF can't be used, by its life cycle status
abbrev pub life_refusal : Life → Option Sw
life_refusal Active = None
life_refusal Deactivated = Some DATA_BLOCKED
life_refusal Terminated = Some CONDITIONS_NOT_SATISFIED
