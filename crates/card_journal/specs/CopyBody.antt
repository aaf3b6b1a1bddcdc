-- A record of a card's copy as the body of a row.
use Rattle.std.specs.Prelude.{ℕ, List}
use Rattle.record_codec.specs.CopyRecord.{record_of}
use Rattle.record_codec.specs.Spelling.{spelling}
use Rattle.card_journal.specs.declared.copy_body.CopyBody.{CopyBody}

-- its bytes are the coding of its record
abbrev pub copy_coding : CopyBody → List ℕ
copy_coding body = spelling (record_of body.entry)
