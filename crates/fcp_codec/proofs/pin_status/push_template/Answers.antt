use Rattle.std.proofs.Common.{◌∙◌, arith}
use Rattle.std.proofs.lemmas.Bool.Decides.{nat_tests}
use Rattle.fcp_codec.proofs.Listing.{some_statuses, whole_template}
use Rattle.fcp_codec.proofs.pin_status.push_template.Goals as goal

pub returns : goal.returns
returns c =
    some_statuses _ _ c.deref.result.now c.args.statuses.now (grind (arith, nat_tests)) (whole_template _ _ c.args.statuses.now (c.deref.ensures.0 ∙ c.push_keys.ensures) c.push_bits.ensures.bits) c.push_field.ensures.field
