use Rattle.std.proofs.Common.{ap}
use Rattle.script_text.specs.Lent.{lent_item, statement_of}
use Rattle.card_run.proofs.demo.command_in.Goals as goal

pub returns-in-Stated : goal.returns-in-Stated
returns-in-Stated c = (statement_of c.in-Stated.statement, ap lent_item c.in-Stated.is, c.command_of.ensures)
