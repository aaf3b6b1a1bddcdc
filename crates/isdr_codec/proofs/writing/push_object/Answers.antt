use Rattle.std.proofs.Common.{◌++◌, ◌∙◌, List, ℕ, ap, length}
use Rattle.ber_tlv.specs.Length.{length_bytes}
use Rattle.ber_tlv.specs.Tag.{tag_bytes}
use Rattle.isdr_codec.proofs.EntryLemmas.{one_object}
use Rattle.isdr_codec.proofs.writing.push_object.Goals as goal

pub returns-clause-bytes : goal.returns-clause-bytes
returns-clause-bytes c =
    one_object c.args.out.now.items c.extend_from_slice.new.self.items
    c.extend_from_slice-2.new.self.items c.extend_from_slice-3.new.self.items
    (tag_bytes c.args.tag) (length_bytes (length c.args.value.now)) c.args.value.now
    (c.in_ok-extend_from_slice.ensures.items ∙ ap
    (λ (bytes : List ℕ). c.args.out.now.items ++ bytes)
    (c.as_slice.ensures.value ∙ c.tag_bytes.ensures))
    (c.in_ok-extend_from_slice-2.ensures.items ∙ ap
    (λ (bytes : List ℕ). c.extend_from_slice.new.self.items ++ bytes)
    (c.as_slice-2.ensures.value ∙ c.length_bytes.ensures))
    c.in_ok-extend_from_slice-3.ensures.items
