use Rattle.lsi_refresh.proofs.RowLemmas.{accepted-fetch, accepted-terminal_response}
use Rattle.lsi_refresh.proofs.laws.refreshes_go_by_fetch_and_terminal_response.Goals as goal

pub returns-clause-fetch : goal.returns-clause-fetch
returns-clause-fetch c = accepted-fetch

pub returns-clause-terminal_response : goal.returns-clause-terminal_response
returns-clause-terminal_response c = accepted-terminal_response
