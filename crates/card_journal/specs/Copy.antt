-- The records that a switch writes: a copy of the card, without what it was before.
use Rattle.std.specs.Prelude.{ℕ, ◌-◌, List, [], ◌∷◌, map, Option}
use Rattle.std.specs.List.{AllByRecursion}
use Rattle.card_journal.specs.Image.{bank_of}
use Rattle.file_rows.specs.declared.content.Content.{Content}
use Rattle.flash_pages.specs.Append.{EndsBlank}
use Rattle.flash_pages.specs.Bank.{bank_bytes, start_of}
use Rattle.port_table.specs.PortOf.{port_of}
use Rattle.record_codec.specs.CopyRecord.{card_record, profile_record}
use Rattle.record_codec.specs.Sizes.{HasCoding}
use Rattle.record_codec.specs.Spelling.{spelling}
use Rattle.record_codec.specs.declared.durable.Durable.{Durable}
use Rattle.record_codec.specs.declared.profile.ProfileHead.{ProfileHead}
use Rattle.record_codec.specs.declared.record.Record.{Record}

-- one record a profile, each on its port
abbrev pub put_each : List (Option ℕ) → List ProfileHead → List Content → List Record
put_each on [] contents = []
put_each on (head ∷ heads) [] = []
put_each on (head ∷ heads) (content ∷ contents) =
    profile_record head content (port_of head.number on)
    ∷ put_each on heads contents

-- a new card with the numbers and notifications of this one, and then its profiles
abbrev pub copy_of : Durable → List Record
copy_of held =
    card_record held.heads ∷ put_each held.heads.ports.on held.heads.profiles held.contents

-- the bank holds the rows of the copy, up to this place, and from there on all its bytes are FF
pub record HoldsCopy (held : Durable) (bank end : ℕ) (image : List ℕ) : Type 0 where
  pub rows : EndsBlank (bank_bytes (bank_of bank) image) (map spelling (copy_of held))
      (end - start_of (bank_of bank))
  pub codings : AllByRecursion HasCoding (copy_of held)
