use Rattle.fcp_codec.proofs.FieldLemmas.{fields_read, no_fields}
use Rattle.fcp_codec.proofs.read.read_fields.Goals as goal

pub returns-in-Ok : goal.returns-in-Ok
returns-in-Ok c = fields_read c.args.value.now c.in-Ok.fcp c.in-Ok.ensures.answer

pub returns-in-Err : goal.returns-in-Err
returns-in-Err c = no_fields c.args.value.now c.in-Err.field-0 c.in-Err.ensures.only
