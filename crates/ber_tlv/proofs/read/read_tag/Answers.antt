use Rattle.std.proofs.Common.{arith}
use Rattle.ber_tlv.proofs.Prefixes.{tag_1, tag_2, tag_3}
use Rattle.ber_tlv.proofs.read.read_tag.Goals as goal

pub returns-in-len1-up : goal.returns-in-len1-up
returns-in-len1-up c = tag_1 c.args.bytes.now c.from.result (omega arith) (omega (arith, c.type_inv.bytes 0)) (grind arith) (omega arith)

pub returns-in-len2-up : goal.returns-in-len2-up
returns-in-len2-up c = tag_2 c.args.bytes.now _ (grind arith) (omega (arith, c.type_inv.bytes 0)) (grind arith) (omega arith) (omega arith)

pub returns-in-len3-up : goal.returns-in-len3-up
returns-in-len3-up c = tag_3 c.args.bytes.now _ (omega arith) (omega (arith, c.type_inv.bytes 0)) (grind arith) (grind arith) (omega (arith, c.type_inv.bytes 1)) (omega arith) (omega arith)
