-- What a card keeps after a statement.
use Rattle.std.specs.Prelude.{Option, Some, None}
use Rattle.record_codec.specs.Apply.{apply}
use Rattle.record_codec.specs.declared.durable.Durable.{Durable}
use Rattle.record_codec.specs.declared.record.Record.{Record}

-- the record of the statement is carried out, where there is one
abbrev pub recorded : Durable → Option Record → Durable
recorded durable None = durable
recorded durable (Some entry) = apply durable entry
