-- That a record has sizes is one fact.
use Rattle.std.specs.Prelude.{◌≡◌, length}
use Rattle.std.specs.Coded.{Unit-prop, le_prop}
use Rattle.std.specs.List.{AllByRecursion-prop}
use native.Mathlib.Nat.{ℕ_set}
use Rattle.file_rows.specs.declared.row.FileRow.{FileRow}
use Rattle.record_codec.specs.Sizes.{HasSizes}
use Rattle.record_codec.specs.declared.record.Record.{Record}
use Rattle.record_codec.specs.declared.record.Record.TheVariants.{PutCard, PutProfile, Content}
use Rattle.record_codec.specs.declared.record.Record.TheVariants.{Bind, Unbind, Gone, Name}
use Rattle.record_codec.specs.declared.record.Record.TheVariants.{NoteGone}

three-prop : {A B C : Type 0} → IsProp A → IsProp B → IsProp C → IsProp (A × B × C)
three-prop a b c x y = λ i. (a x.0 y.0 i, b x.1 y.1 i, c x.2 y.2 i)

pub HasSizes-prop : (entry : Record) → IsProp (HasSizes entry)
HasSizes-prop (PutCard mode ports eid next_number next_note notes) = le_prop
HasSizes-prop (PutProfile installation profile port) =
    three-prop le_prop le_prop
    (AllByRecursion-prop (λ (row : FileRow). length row.body ≡ row.head.size)
    (λ row. ℕ_set (length row.body) row.head.size) profile.content.rows)
HasSizes-prop (Content profile change) = Unit-prop
HasSizes-prop (Bind profile port displaced) = Unit-prop
HasSizes-prop (Unbind profile) = Unit-prop
HasSizes-prop (Gone profiles) = Unit-prop
HasSizes-prop (Name profile nickname) = Unit-prop
HasSizes-prop (NoteGone number) = Unit-prop
