-- A record as the body of a row.
use Rattle.std.specs.Prelude.{ℕ, List}
use Rattle.record_codec.specs.Spelling.{spelling}
use Rattle.card_journal.specs.declared.body.RecordBody.{RecordBody}

-- its bytes are the coding of its record
abbrev pub coding_of : RecordBody → List ℕ
coding_of body = spelling body.entry.now
