-- The effect of records.
use Rattle.std.specs.Prelude.{List, [], ◌∷◌}
use Rattle.record_codec.specs.Bind.{with_binding}
use Rattle.record_codec.specs.Content.{with_change}
use Rattle.record_codec.specs.Gone.{without_profiles}
use Rattle.record_codec.specs.Name.{with_nickname}
use Rattle.record_codec.specs.NoteGone.{without_note}
use Rattle.record_codec.specs.PutCard.{new_card}
use Rattle.record_codec.specs.PutProfile.{with_profile}
use Rattle.record_codec.specs.Unbind.{without_binding}
use Rattle.record_codec.specs.declared.durable.Durable.{Durable}
use Rattle.record_codec.specs.declared.durable.Heads.{Heads}
use Rattle.record_codec.specs.declared.record.Record.{Record}
use Rattle.record_codec.specs.declared.record.Record.TheVariants.{PutCard, PutProfile, Content}
use Rattle.record_codec.specs.declared.record.Record.TheVariants.{Bind, Unbind, Gone, Name}
use Rattle.record_codec.specs.declared.record.Record.TheVariants.{NoteGone}

-- what a card holds after a record
abbrev pub apply : Durable → Record → Durable
apply durable (PutCard mode ports eid next_number next_note notes) =
    new_card mode ports eid next_number next_note notes
apply durable (PutProfile installation profile port) =
    with_profile installation profile port durable
apply durable (Content profile change) = with_change profile change durable
apply durable (Bind profile port displaced) = with_binding profile port displaced durable
apply durable (Unbind profile) = without_binding profile durable
apply durable (Gone profiles) = without_profiles profiles durable
apply durable (Name profile nickname) = with_nickname profile nickname durable
apply durable (NoteGone number) = without_note number durable

-- what it holds beside the contents after a record
abbrev pub heads_after : Heads → Record → Heads
heads_after heads entry = (apply (record { heads = heads; contents = [] }) entry).heads

-- what it holds after records, in their order
abbrev pub fold : Durable → List Record → Durable
fold durable [] = durable
fold durable (entry ∷ entries) = fold (apply durable entry) entries
