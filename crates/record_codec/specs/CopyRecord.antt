-- A record of a card's copy.
use Rattle.std.specs.Prelude.{ℕ, false, Option}
use Rattle.file_rows.specs.declared.content.Content.{Content}
use Rattle.record_codec.specs.Pooled.{pooled_content}
use Rattle.record_codec.specs.declared.copy_record.CopyRecord.{CopyRecord}
use Rattle.record_codec.specs.declared.copy_record.CopyRecord.TheVariants as copies
use Rattle.record_codec.specs.declared.durable.Heads.{Heads}
use Rattle.record_codec.specs.declared.profile.ProfileHead.{ProfileHead}
use Rattle.record_codec.specs.declared.record.Record.{Record}
use Rattle.record_codec.specs.declared.record.Record.TheVariants.{PutCard, PutProfile}

-- a card with the ports, numbers and notifications of this one, and no profile
abbrev pub card_record : Heads → Record
card_record heads =
    PutCard heads.ports.mode heads.ports.count heads.eid heads.next_number heads.notes.next
    heads.notes.list

-- a profile that was held before, on a port or on none
abbrev pub profile_record : ProfileHead → Content → Option ℕ → Record
profile_record head content port =
    PutProfile false (record { head = head; content = content }) port

abbrev pub record_of : CopyRecord → Record
record_of (copies.Card heads) = card_record heads.now
record_of (copies.Profile head files pins port) =
    profile_record head.now (pooled_content files pins.now) port
