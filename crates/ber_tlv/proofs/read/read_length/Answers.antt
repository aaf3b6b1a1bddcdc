use Rattle.std.proofs.Common.{arith}
use Rattle.ber_tlv.proofs.Prefixes.{length_1, length_2, length_3, length_4}
use Rattle.ber_tlv.proofs.read.read_length.Goals as goal

pub returns-in-131 : goal.returns-in-131
returns-in-131 c = length_4 c.args.bytes.now _ (omega arith) (grind arith) (omega (arith, c.type_inv.bytes 1)) (omega (arith, c.type_inv.bytes 2)) (omega (arith, c.type_inv.bytes 3)) (omega arith)

pub returns-in-130 : goal.returns-in-130
returns-in-130 c = length_3 c.args.bytes.now _ (grind arith) (grind arith) (omega (arith, c.type_inv.bytes 1)) (omega (arith, c.type_inv.bytes 2)) (omega arith)

pub returns-in-129 : goal.returns-in-129
returns-in-129 c = length_2 c.args.bytes.now _ (grind arith) (grind arith) (omega (arith, c.type_inv.bytes 1)) (omega arith)

pub returns-in-0-to-127 : goal.returns-in-0-to-127
returns-in-0-to-127 c = length_1 c.args.bytes.now _ (grind arith) (grind arith) (omega arith)
