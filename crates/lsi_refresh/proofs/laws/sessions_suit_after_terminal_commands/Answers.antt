use Rattle.uicc_channels.proofs.RowLemmas.{Suits-decided}
use Rattle.uicc_channels.specs.declared.session.Refresh.TheVariants.{Fetched, Quiet}
use Rattle.lsi_refresh.proofs.OutcomeLemmas.{Suits-with_refresh}
use Rattle.lsi_refresh.specs.Fetch.{fetch_row}
use Rattle.lsi_refresh.specs.TerminalCapability.{terminal_capability_row}
use Rattle.lsi_refresh.specs.TerminalProfile.{terminal_profile_row}
use Rattle.lsi_refresh.specs.TerminalResponse.{terminal_response_row}
use Rattle.lsi_refresh.proofs.laws.sessions_suit_after_terminal_commands.Goals as goal

pub returns-clause-fetch : goal.returns-clause-fetch
returns-clause-fetch c session rows command suits = Suits-decided rows session (fetch_row session command) suits (Suits-with_refresh rows Fetched session suits)

pub returns-clause-terminal_response : goal.returns-clause-terminal_response
returns-clause-terminal_response c session rows command suits = Suits-decided rows session (terminal_response_row session command) suits (Suits-with_refresh rows Quiet session suits)

pub returns-clause-terminal_profile : goal.returns-clause-terminal_profile
returns-clause-terminal_profile c session rows command suits = Suits-decided rows session (terminal_profile_row session command) suits suits

pub returns-clause-terminal_capability : goal.returns-clause-terminal_capability
returns-clause-terminal_capability c session rows command suits = Suits-decided rows session (terminal_capability_row session command) suits suits
