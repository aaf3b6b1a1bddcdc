use Rattle.std.proofs.Common.{[]}
use Rattle.ber_tlv.proofs.ObjectLemmas.{IsThere, object_read, object_there, objects_fill}
use Rattle.ber_tlv.proofs.ObjectLemmas.{objects_filled, of_some}
use Rattle.ber_tlv.specs.Objects.{object_at, objects_of}
use Rattle.ber_tlv.specs.Walk.{LeadWith}
use Rattle.ber_tlv.proofs.laws.reading_finds_what_stands_there.Goals as goal

pub returns-clause-object : goal.returns-clause-object
returns-clause-object c = λ bytes read. (
  λ found. of_some (IsThere bytes) (object_at bytes) read (object_there bytes) found,
  λ stands. object_read bytes read.found read.behind stands,
)

pub returns-clause-objects : goal.returns-clause-objects
returns-clause-objects c = λ bytes objects. (
  λ found. of_some (λ objects. LeadWith bytes objects []) (objects_of bytes) objects (objects_fill bytes) found,
  λ fill. objects_filled bytes objects fill,
)
