use Rattle.std.proofs.Common.{refl}
use Rattle.lsi_refresh.proofs.RowLemmas.{refused-alone}
use Rattle.lsi_refresh.specs.Fetch.{fetch_row}
use Rattle.lsi_refresh.specs.TerminalCapability.{terminal_capability_row}
use Rattle.lsi_refresh.specs.TerminalProfile.{terminal_profile_row}
use Rattle.lsi_refresh.specs.TerminalResponse.{terminal_response_row}
use Rattle.lsi_refresh.proofs.laws.refused_terminal_commands_change_nothing.Goals as goal

pub returns-clause-fetch : goal.returns-clause-fetch
returns-clause-fetch c session command = refused-alone session (fetch_row session command) refl

pub returns-clause-terminal_response : goal.returns-clause-terminal_response
returns-clause-terminal_response c session command = refused-alone session (terminal_response_row session command) refl

pub returns-clause-terminal_profile : goal.returns-clause-terminal_profile
returns-clause-terminal_profile c session command = refused-alone session (terminal_profile_row session command) refl

pub returns-clause-terminal_capability : goal.returns-clause-terminal_capability
returns-clause-terminal_capability c session command = refused-alone session (terminal_capability_row session command) refl
