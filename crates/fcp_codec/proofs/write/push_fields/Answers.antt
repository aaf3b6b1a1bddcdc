use Rattle.std.proofs.Common.{[], ◌∷◌, ◌++◌, ◌∙◌, ap}
use Rattle.std.specs.Int.{w16, to_be_bytes}
use Rattle.ber_tlv.specs.Tlv.{shortest}
use Rattle.ber_tlv.specs.Walk.{Object, spelled}
use Rattle.file_rows.specs.FileHead.{holds_files}
use Rattle.file_rows.specs.Path.{own_id}
use Rattle.fcp_codec.specs.Writing.{descriptor_for, life_byte, name_objects, proprietary_objects}
use Rattle.fcp_codec.specs.Writing.{rule_objects, last_objects}
use Rattle.fcp_codec.specs.declared.tags.TheConstants.{DESCRIPTOR, IDENTIFIER, LIFE}
use Rattle.fcp_codec.proofs.Joining.{seven_steps}
use Rattle.fcp_codec.proofs.write.push_fields.Goals as goal

pub returns : goal.returns
returns c =
    let head = c.args.head.now in
    let descriptor : Object = record { tag = DESCRIPTOR; value = descriptor_for head.kind head.record_len head.size } in
    let id : Object = record { tag = IDENTIFIER; value = to_be_bytes w16 (own_id head.path) } in
    let life : Object = record { tag = LIFE; value = life_byte head.life ∷ [] } in
    seven_steps descriptor id life (name_objects head.name) (proprietary_objects (holds_files head.kind)) (rule_objects head.rule) (last_objects (holds_files head.kind) head c.args.pins.now)
    c.push_descriptor.new.fields.items c.push_field.new.out.items c.push_name.new.fields.items c.push_proprietary.new.fields.items c.push_field-2.new.out.items c.push_rule.new.fields.items c.push_last.new.fields.items
    (c.push_descriptor.ensures.field ∙ ap (λ s. s ++ shortest descriptor.tag descriptor.value) c.requires.empty)
    (c.push_field.ensures.field ∙ ap (λ v. c.push_descriptor.new.fields.items ++ shortest IDENTIFIER v) (c.to_be_bytes.ensures ∙ ap (to_be_bytes w16) c.own_id.ensures))
    c.push_name.ensures.field
    (c.push_proprietary.ensures.field ∙ ap (λ k. c.push_name.new.fields.items ++ spelled (proprietary_objects k)) c.holds_files.ensures)
    (c.push_field-2.ensures.field ∙ ap (λ b. c.push_proprietary.new.fields.items ++ shortest LIFE (b ∷ [])) c.life_byte.ensures)
    c.push_rule.ensures.field
    c.push_last.ensures
