-- The listing of what a card holds, which ends the printed text.
use Rattle.std.specs.Prelude.{ℕ, Option, Some, None, List, [], ◌++◌, codes, decimal, length, map}
use Rattle.std.specs.List.{flat_map}
use Rattle.hex.specs.Hex.{encode_upper}
use Rattle.file_rows.specs.Content.{use_of}
use Rattle.file_rows.specs.declared.content.Content.{Content}
use Rattle.isdr_commands.specs.Ascending.{ascending}
use Rattle.notify_list.specs.declared.note.Note.{Note}
use Rattle.notify_list.specs.declared.note.Operation.{Operation}
use Rattle.notify_list.specs.declared.note.Operation.TheVariants.{Install, Enable, Disable, Delete}
use Rattle.port_table.specs.PortOf.{port_of}
use Rattle.port_table.specs.declared.port_mode.PortMode.{PortMode}
use Rattle.port_table.specs.declared.port_mode.PortMode.TheVariants.{A1, A2, B}
use Rattle.record_codec.specs.Heads.{content_at, head_of}
use Rattle.record_codec.specs.declared.durable.Durable.{Durable}
use Rattle.record_codec.specs.declared.durable.Heads.{Heads}
use Rattle.record_codec.specs.declared.profile.ProfileHead.{ProfileHead}
use Rattle.card_core.specs.Text.{profile_text}

abbrev pub mode_text : PortMode → List ℕ
mode_text A1 = codes "A1"
mode_text A2 = codes "A2"
mode_text B = codes "B"

-- the card: its mode, how many ports it has, its identifier
abbrev pub card_text : Heads → List ℕ
card_text heads =
    codes "card " ++ mode_text heads.ports.mode ++ codes " ports " ++ decimal heads.ports.count
    ++ codes " eid " ++ encode_upper heads.eid ++ codes "\n"

-- the port on which a profile is enabled
abbrev pub place_text : Option ℕ → List ℕ
place_text None = codes "disabled"
place_text (Some port) = codes "port " ++ decimal port

-- how many files there are, and how much of the quota they take
abbrev pub files_text : Content → List ℕ
files_text content =
    codes " files " ++ decimal (length content.rows) ++ codes " used "
    ++ decimal (use_of content.rows)

-- a profile, by its head and its content
abbrev pub held_text : List (Option ℕ) → ProfileHead → Content → List ℕ
held_text on head content =
    codes "profile " ++ profile_text head.number ++ codes " " ++ encode_upper head.iccid
    ++ codes " " ++ place_text (port_of head.number on) ++ files_text content ++ codes "\n"

-- the line of a profile, where there is one
abbrev pub held_or_none : List (Option ℕ) → Option Content → Option ProfileHead → List ℕ
held_or_none on None head = []
held_or_none on (Some content) None = []
held_or_none on (Some content) (Some head) = held_text on head content

-- the profile of that number, where it is held
abbrev pub numbered_text : Durable → ℕ → List ℕ
numbered_text durable number =
    held_or_none durable.heads.ports.on
    (content_at number durable.heads.profiles durable.contents)
    (head_of number durable.heads.profiles)

abbrev pub operation_text : Operation → List ℕ
operation_text Install = codes "install"
operation_text Enable = codes "enable"
operation_text Disable = codes "disable"
operation_text Delete = codes "delete"

-- a notification
abbrev pub note_text : Note → List ℕ
note_text note =
    codes "note " ++ decimal note.number ++ codes " " ++ operation_text note.operation
    ++ codes " " ++ encode_upper note.iccid ++ codes " " ++ note.address ++ codes "\n"

-- the card, its profiles by number and its notifications by sequence number
abbrev pub listing_text : Durable → List ℕ
listing_text durable =
    codes "listing\n" ++ card_text durable.heads
    ++ flat_map (numbered_text durable)
    (ascending (map (λ head. head.number) durable.heads.profiles))
    ++ flat_map note_text durable.heads.notes.list ++ codes "end\n"
