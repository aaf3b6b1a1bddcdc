use Rattle.std.proofs.Common.{refl}
use Rattle.uicc_channels.proofs.RowLemmas.{decided-has}
use Rattle.lsi_refresh.specs.RefreshState.{ChangesRefreshAlone}
use Rattle.lsi_refresh.specs.Fetch.{fetch_row}
use Rattle.lsi_refresh.specs.TerminalCapability.{terminal_capability_row}
use Rattle.lsi_refresh.specs.TerminalProfile.{terminal_profile_row}
use Rattle.lsi_refresh.specs.TerminalResponse.{terminal_response_row}
use Rattle.lsi_refresh.proofs.laws.terminal_commands_change_the_refresh_alone.Goals as goal

pub returns-clause-fetch : goal.returns-clause-fetch
returns-clause-fetch c session command =
    decided-has (ChangesRefreshAlone session) session (fetch_row session command) (λ sw same. (refl, refl)) (λ none. (refl, refl))

pub returns-clause-terminal_response : goal.returns-clause-terminal_response
returns-clause-terminal_response c session command =
    decided-has (ChangesRefreshAlone session) session (terminal_response_row session command) (λ sw same. (refl, refl)) (λ none. (refl, refl))

pub returns-clause-terminal_profile : goal.returns-clause-terminal_profile
returns-clause-terminal_profile c session command =
    decided-has (ChangesRefreshAlone session) session (terminal_profile_row session command) (λ sw same. (refl, refl)) (λ none. (refl, refl))

pub returns-clause-terminal_capability : goal.returns-clause-terminal_capability
returns-clause-terminal_capability c session command =
    decided-has (ChangesRefreshAlone session) session (terminal_capability_row session command) (λ sw same. (refl, refl)) (λ none. (refl, refl))
