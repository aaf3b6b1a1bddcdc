-- What stands on a port of a card, by what the card keeps.
use Rattle.std.specs.Prelude.{ℕ, [], Option, Some, None, slice_index_or, unwrap_or}
use Rattle.file_rows.specs.declared.change.Change.{Change}
use Rattle.file_rows.specs.declared.content.Content as contents
use Rattle.record_codec.specs.Apply.{apply}
use Rattle.record_codec.specs.Heads.{held_content}
use Rattle.record_codec.specs.declared.durable.Durable.{Durable}
use Rattle.record_codec.specs.declared.record.Record.TheVariants.{Content}

-- the profile that stands on a port, where one does
abbrev pub profile_on : Durable → ℕ → Option ℕ
profile_on durable port = slice_index_or durable.heads.ports.on port None

-- a blank card has no file and no PIN
abbrev pub blank_content : contents.Content
blank_content = record { rows = []; pins = [] }

-- the content of a profile, or a blank card's where there is none
abbrev pub content_held : Durable → Option ℕ → contents.Content
content_held durable None = blank_content
content_held durable (Some profile) = unwrap_or (held_content profile durable) blank_content

-- the content at a port: that of the profile which stands there
abbrev pub content_on : Durable → ℕ → contents.Content
content_on durable port = content_held durable (profile_on durable port)

-- a change of the content of the profile that stands somewhere is recorded
abbrev pub with_change_of : Option ℕ → Change → Durable → Durable
with_change_of None change durable = durable
with_change_of (Some profile) change durable = apply durable (Content profile change)

-- what the card keeps after a change of the content at a port
abbrev pub changed_on : Durable → ℕ → Change → Durable
changed_on durable port change = with_change_of (profile_on durable port) change durable
