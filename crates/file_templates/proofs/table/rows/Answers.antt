use Rattle.std.proofs.Common.{◌∙◌, ◌==◌, ◌/◌, ◌≤◌, arith}
use Rattle.std.specs.Prelude.{count_by}
use Rattle.std.proofs.lemmas.List.Sums.{count_by-le-length}
use Rattle.file_templates.specs.declared.table.TheConstants.{TEMPLATE_ROWS}
use Rattle.file_templates.proofs.Places.{in_keys}
use Rattle.file_templates.proofs.table.rows.Goals as goal

pub overflow_cast-result : goal.overflow_cast-result
overflow_cast-result c =
    let few : count_by (λ key. key / 256 == c.args.template) TEMPLATE_ROWS.keys ≤ 66 = count_by-le-length (λ key. key / 256 == c.args.template) TEMPLATE_ROWS.keys in
    omega (arith, c.keys_of.ensures)

pub returns : goal.returns
returns c = c.keys_of.ensures ∙ in_keys c.args.template
