-- The replies of the ISD-R (GSMA SGP.22, ES10b and ES10c), by their bytes: one data object in
-- another.
use Rattle.std.specs.Prelude.{ℕ, ⊤, List, [], ◌∷◌}
use Rattle.std.specs.List.{flat_map}
use Rattle.ber_tlv.specs.Tag.{IsTag}
use Rattle.ber_tlv.specs.Tlv.{shortest}
use Rattle.isdr_codec.specs.NoteEntry.{note_entry}
use Rattle.isdr_codec.specs.ProfileEntry.{profile_entry}
use Rattle.isdr_codec.specs.declared.reply.Reply.{Reply}
use Rattle.isdr_codec.specs.declared.reply.Reply.TheVariants.{Outcome, Infos, Eid, Notes}
use Rattle.record_codec.specs.declared.durable.Heads.{Heads}

-- the tag of an outcome is a tag
abbrev pub HasItsTag : Reply → Type 0
HasItsTag (Outcome tag result) = IsTag tag
HasItsTag (Infos profiles fields) = ⊤
HasItsTag Eid = ⊤
HasItsTag (Notes operations) = ⊤

-- the result under 80, an E3 for each profile, the EID under 5A, or a BF2F for each notification
abbrev pub reply_bytes : Reply → Heads → List ℕ
reply_bytes (Outcome tag result) heads = shortest tag (shortest 0x80 (result ∷ []))
reply_bytes (Infos profiles fields) heads =
    shortest 0xBF2D (shortest 0xA0 (flat_map (profile_entry heads fields) profiles))
reply_bytes Eid heads = shortest 0xBF3E (shortest 0x5A heads.eid)
reply_bytes (Notes operations) heads =
    shortest 0xBF28 (shortest 0xA0 (flat_map (note_entry operations) heads.notes.list))
