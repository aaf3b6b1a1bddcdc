use Rattle.std.proofs.Common.{◌∙◌, ◌+◌, ◌*◌, arith}
use Rattle.file_templates.proofs.Places.{in_table}
use Rattle.file_templates.proofs.table.row.Goals as goal

pub returns : goal.returns
returns c =
    c.row_in.ensures ∙ in_table c.args.template c.args.position (c.from.result * 256 + c.from-2.result) c.find.result
    (omega arith) (omega arith) c.find.ensures
