use Rattle.std.proofs.Common.{ap, arith, sym, ◌∙◌, Some, option_map}
use Rattle.std.proofs.lemmas.Result.{err_from_is_err_and}
use Rattle.ber_tlv.specs.Walk.{object_of}
use Rattle.access_rules.specs.AccessRule.{covers}
use Rattle.access_rules.specs.AccessRule.Modes.{Bits}
use Rattle.access_rules.proofs.Deciding.{fault_is, handed, value_is}
use Rattle.access_rules.proofs.Keys.{found, gave_up, refused}
use Rattle.access_rules.proofs.Passing.{by_bits, by_codes, by_neither}
use Rattle.access_rules.proofs.rules.modes_cover.Goals as goal

pub returns-in_err-only_byte-in-128 : goal.returns-in_err-only_byte-in-128
returns-in_err-only_byte-in-128 c =
    let p = err_from_is_err_and c.from_residual.result c.from_residual.ensures.1 in
    gave_up _ _ _ p.1 (by_bits c.args.mode (object_of c.args.object) c.in-128.is ∙ ap (option_map (λ bits. covers (Bits bits) c.args.mode)) (fault_is _ _ c.in_err-only_byte-in-128.ensures).0)

pub returns-in_ok-only_byte-in-128 : goal.returns-in_ok-only_byte-in-128
returns-in_ok-only_byte-in-128 c =
    found _ _ (by_bits c.args.mode (object_of c.args.object) c.in-128.is ∙ ap (option_map (λ bits. covers (Bits bits) c.args.mode)) (value_is _ _ c.in_ok-only_byte-in-128.ensures) ∙ ap Some (sym c.bits_cover.ensures))

pub returns-in-132 : goal.returns-in-132
returns-in-132 c = handed _ _ _ c.codes_cover.ensures (by_codes c.args.mode (object_of c.args.object) c.in-132.is)

pub returns-in_default : goal.returns-in_default
returns-in_default c = refused _ (by_neither c.args.mode (object_of c.args.object) (λ e. omega arith) (λ e. omega arith))
