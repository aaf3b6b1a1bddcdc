use Rattle.std.proofs.Common.{refl}
use Rattle.file_templates.proofs.laws.one_row_at_each_position.Goals as goal

pub returns : goal.returns
returns c = refl
