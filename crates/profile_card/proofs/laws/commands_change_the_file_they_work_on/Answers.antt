use Rattle.profile_card.proofs.ReachLemmas.{spares-decision}
use Rattle.profile_card.proofs.laws.commands_change_the_file_they_work_on.Goals as goal

pub returns : goal.returns
returns c card command path row sound there elsewhere = spares-decision card sound command path row there elsewhere
