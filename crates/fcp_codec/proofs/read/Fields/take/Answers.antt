use Rattle.std.proofs.Common.{arith}
use Rattle.std.proofs.lemmas.Bool.Decides.{nat_tests}
use Rattle.ber_tlv.specs.Walk.{object_of}
use Rattle.fcp_codec.proofs.Taking.{take_descriptor, take_id, take_size, take_sfi, take_name}
use Rattle.fcp_codec.proofs.Taking.{take_life, take_rule, take_proprietary, take_pin_status}
use Rattle.fcp_codec.proofs.Taking.{take_none}
use Rattle.fcp_codec.proofs.read.Fields.take.Goals as goal

pub returns-in-130 : goal.returns-in-130
returns-in-130 c = λ objects kept. take_descriptor objects (object_of c.args.tlv.now) c.args.self.now _ _ _ c.in-130.is c.descriptor_of.ensures c.keep_once.ensures kept

pub returns-in-131 : goal.returns-in-131
returns-in-131 c = λ objects kept. take_id objects (object_of c.args.tlv.now) c.args.self.now _ _ _ c.in-131.is c.id_of.ensures c.keep_once-in-131.ensures kept

pub returns-in-128 : goal.returns-in-128
returns-in-128 c = λ objects kept. take_size objects (object_of c.args.tlv.now) c.args.self.now _ _ _ c.in-128.is c.size_of.ensures c.keep_once-in-128.ensures kept

pub returns-in-136 : goal.returns-in-136
returns-in-136 c = λ objects kept. take_sfi objects (object_of c.args.tlv.now) c.args.self.now _ _ _ c.in-136.is c.sfi_of.ensures c.keep_once-in-136.ensures kept

pub returns-in-132 : goal.returns-in-132
returns-in-132 c = λ objects kept. take_name objects (object_of c.args.tlv.now) c.args.self.now _ _ _ c.in-132.is c.name_of.ensures c.keep_once-in-132.ensures kept

pub returns-in-138 : goal.returns-in-138
returns-in-138 c = λ objects kept. take_life objects (object_of c.args.tlv.now) c.args.self.now _ _ _ c.in-138.is c.life_of.ensures c.keep_once-in-138.ensures kept

pub returns-in-139 : goal.returns-in-139
returns-in-139 c = λ objects kept. take_rule objects (object_of c.args.tlv.now) c.args.self.now _ _ _ c.in-139.is c.rule_of.ensures c.keep_once-in-139.ensures kept

pub returns-in-165 : goal.returns-in-165
returns-in-165 c = λ objects kept. take_proprietary objects (object_of c.args.tlv.now) c.args.self.now _ _ c.in-165.is c.mark_once.ensures kept

pub returns-in-198 : goal.returns-in-198
returns-in-198 c = λ objects kept. take_pin_status objects (object_of c.args.tlv.now) c.args.self.now _ _ c.in-198.is c.mark_once-in-198.ensures kept

pub returns-in_default : goal.returns-in_default
returns-in_default c = λ objects kept. take_none objects (object_of c.args.tlv.now) c.args.self.now (grind (arith, nat_tests)) kept
