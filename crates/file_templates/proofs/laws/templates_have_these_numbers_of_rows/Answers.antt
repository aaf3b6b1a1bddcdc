use Rattle.std.proofs.Common.{refl}
use Rattle.file_templates.specs.Templates.{template_rows}
use Rattle.file_templates.proofs.laws.templates_have_these_numbers_of_rows.Goals as goal

pub returns : goal.returns
unfolding template_rows
returns c = record { master = refl; telecom = refl; usim = refl; opt_usim = refl; isim = refl }
