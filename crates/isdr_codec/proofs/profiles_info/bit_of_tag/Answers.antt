use Rattle.isdr_codec.specs.ProfilesInfo.{tags_in}
use Rattle.isdr_codec.proofs.TagLemmas.{bit_set, bit_unset, no_bit}
use Rattle.isdr_codec.proofs.profiles_info.bit_of_tag.Goals as goal

pub returns-in-Some-true-clause-value : goal.returns-in-Some-true-clause-value
returns-in-Some-true-clause-value c =
    bit_set c.args.tag c.args.bit (tags_in c.args.bytes.now)
    (rw c.in-Some-true.field-0-test at c.in-Some-true.ensures)

pub returns-in-Some-false-clause-value : goal.returns-in-Some-false-clause-value
returns-in-Some-false-clause-value c =
    bit_unset c.args.tag c.args.bit (tags_in c.args.bytes.now)
    (rw c.in-Some-false.field-0-test at c.in-Some-false.ensures)

pub returns-in-None-clause-value : goal.returns-in-None-clause-value
returns-in-None-clause-value c = no_bit c.args.tag c.args.bit (tags_in c.args.bytes.now)
    c.in-None.ensures
