use Rattle.std.proofs.Common.{subst, ◌≡◌, List, ℕ, Some}
use Rattle.ber_tlv.specs.Objects.{object_at}
use Rattle.ber_tlv.specs.Walk.{object_of}
use Rattle.isdr_codec.proofs.FieldLemmas.{is_empty, none_whole, not_alone, not_empty, whole_of}
use Rattle.isdr_codec.proofs.fields.whole_object.Goals as goal

pub returns-in_err-object : goal.returns-in_err-object
returns-in_err-object c = rw c.from_residual.ensures
    (none_whole c.args.bytes.now c.in_err-object.ensures)

pub returns-then-is_empty : goal.returns-then-is_empty
returns-then-is_empty c =
    whole_of c.args.bytes.now (object_of c.in_ok-object.object)
    (subst
    (λ (behind : List ℕ). object_at c.args.bytes.now ≡ Some
    (record { found = object_of c.in_ok-object.object; behind = behind }))
    (is_empty _ _ c.is_empty.ensures c.if-is_empty.true) c.in_ok-object.ensures)

pub returns-else-is_empty : goal.returns-else-is_empty
returns-else-is_empty c =
    not_alone c.args.bytes.now (object_of c.in_ok-object.object) c.in_ok-object.behind.now
    c.in_ok-object.ensures (not_empty _ _ c.is_empty.ensures c.if-is_empty.false)
