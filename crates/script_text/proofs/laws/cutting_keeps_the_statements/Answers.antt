use Rattle.script_text.proofs.FactLemmas.{statements_of-script_of}
use Rattle.script_text.proofs.laws.cutting_keeps_the_statements.Goals as goal

pub returns : goal.returns
returns c = statements_of-script_of
