use Rattle.std.proofs.Common.{drop}
use Rattle.std.proofs.lemmas.List.{take_rest}
use Rattle.ber_tlv.specs.Walk.{object_of}
use Rattle.ber_tlv.proofs.ObjectLemmas.{no_object, object_read}
use Rattle.isdr_codec.proofs.fields.first_object.Goals as goal

pub returns-in-Ok : goal.returns-in-Ok
returns-in-Ok c =
    rw take_rest
    (object_read c.args.bytes.now (object_of c.in-Ok.tlv) (drop c.in-Ok.count c.args.bytes.now)
    c.in-Ok.ensures.found)

pub returns-in-Err : goal.returns-in-Err
returns-in-Err c = no_object c.args.bytes.now c.in-Err.ensures.only
