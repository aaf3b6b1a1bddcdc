use Rattle.std.proofs.Common.{[], ◌∷◌, ◌++◌, ◌∙◌, List, ℕ, ap}
use Rattle.isdr_codec.specs.ProfileEntry.{field_where, nickname_field}
use Rattle.isdr_codec.proofs.EntryLemmas.{four}
use Rattle.isdr_codec.proofs.profile_entry.push_names.Goals as goal

pub returns-clause-bytes : goal.returns-clause-bytes
returns-clause-bytes c =
    four c.args.out.now.items c.push_nickname.new.out.items c.push_field.new.out.items
    c.push_field-2.new.out.items c.push_field-3.new.out.items
    (nickname_field c.args.fields c.args.head.now.nickname)
    (field_where c.args.fields 32 0x91 c.args.head.now.provider)
    (field_where c.args.fields 64 0x92 c.args.head.now.name)
    (field_where c.args.fields 128 0x95 (c.args.head.now.class ∷ []))
    (c.in_ok-push_nickname.ensures.bytes ∙ ap
    (λ (letters : List ℕ). c.args.out.now.items ++ nickname_field c.args.fields letters)
    c.as_slice.ensures.value)
    (c.in_ok-push_field.ensures.bytes ∙ ap
    (λ (letters : List ℕ). c.push_nickname.new.out.items ++ field_where c.args.fields 32 0x91
    letters) c.as_slice-2.ensures.value)
    (c.in_ok-push_field-2.ensures.bytes ∙ ap
    (λ (letters : List ℕ). c.push_field.new.out.items ++ field_where c.args.fields 64 0x92 letters)
    c.as_slice-3.ensures.value)
    c.in_ok-push_field-3.ensures.bytes
