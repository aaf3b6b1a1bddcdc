use Rattle.script_text.proofs.CommandLemmas.{IsScript-commands}
use Rattle.script_text.proofs.laws.commands_alone_are_not_cut.Goals as goal

pub returns : goal.returns
returns c = IsScript-commands
