-- A notification that goes.
use Rattle.std.specs.Prelude.{ℕ}
use Rattle.notify_list.specs.Notes.{without}
use Rattle.record_codec.specs.declared.durable.Durable.{Durable}

abbrev pub without_note : ℕ → Durable → Durable
without_note number durable = record durable {
  heads = record durable.heads { notes = without number durable.heads.notes };
}
