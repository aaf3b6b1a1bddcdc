use Rattle.std.proofs.Common.{arith}
use Rattle.isdr_codec.proofs.TagLemmas.{tag_1, tag_2, tag_3}
use Rattle.isdr_codec.proofs.profiles_info.first_tag.Goals as goal

pub returns-in-len1-up-clause-tag : goal.returns-in-len1-up-clause-tag
returns-in-len1-up-clause-tag c = tag_1 c.args.bytes.now c.from.result (omega arith) (grind arith)
    (omega arith)

pub returns-in-len2-up-clause-tag : goal.returns-in-len2-up-clause-tag
returns-in-len2-up-clause-tag c = tag_2 c.args.bytes.now _ (grind arith) (grind arith) (omega arith)
    (omega arith)

pub returns-in-len3-up-clause-tag : goal.returns-in-len3-up-clause-tag
returns-in-len3-up-clause-tag c = tag_3 c.args.bytes.now _ (omega arith) (grind arith) (grind arith)
    (omega arith) (omega arith)
