use Rattle.std.proofs.Common.{[], ◌∷◌}
use Rattle.isdr_codec.specs.Profile.{aid_of}
use Rattle.isdr_codec.specs.ProfileEntry.{field_where, port_field, state_byte}
use Rattle.isdr_codec.proofs.EntryLemmas.{four}
use Rattle.isdr_codec.proofs.profile_entry.push_place.Goals as goal

pub returns-clause-bytes : goal.returns-clause-bytes
returns-clause-bytes c =
    four c.args.out.now.items c.push_field.new.out.items c.push_aid.new.out.items
    c.push_state.new.out.items c.push_port.new.out.items
    (field_where c.args.fields 1 0x5A c.args.head.now.iccid)
    (field_where c.args.fields 2 0x4F (aid_of c.args.head.now.number))
    (field_where c.args.fields 4 0x9F70 (state_byte c.args.port ∷ []))
    (port_field c.args.fields c.args.port)
    c.in_ok-push_field.ensures.bytes c.in_ok-push_aid.ensures.bytes c.in_ok-push_state.ensures.bytes
    c.in_ok-push_port.ensures.bytes
