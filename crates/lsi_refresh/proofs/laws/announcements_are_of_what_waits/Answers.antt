use Rattle.lsi_refresh.proofs.RowLemmas.{announced-fetch, announced-terminal_response}
use Rattle.lsi_refresh.proofs.laws.announcements_are_of_what_waits.Goals as goal

pub returns-clause-fetch : goal.returns-clause-fetch
returns-clause-fetch c = announced-fetch

pub returns-clause-terminal_response : goal.returns-clause-terminal_response
returns-clause-terminal_response c = announced-terminal_response
