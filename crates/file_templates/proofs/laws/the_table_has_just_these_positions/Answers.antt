use Rattle.file_templates.proofs.Places.{keys_are}
use Rattle.file_templates.proofs.laws.the_table_has_just_these_positions.Goals as goal

pub returns : goal.returns
returns c = keys_are
