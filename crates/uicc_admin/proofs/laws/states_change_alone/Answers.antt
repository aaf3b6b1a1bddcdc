use Rattle.std.proofs.Common.{◌≡◌, refl}
use Rattle.uicc_channels.specs.CommandOutcome.{CommandOutcome}
use Rattle.uicc_admin.proofs.StateLemmas.{other_files-state, state-has}
use Rattle.uicc_admin.proofs.laws.states_change_alone.Goals as goal

pub returns-clause-session : goal.returns-clause-session
returns-clause-session c life rows allowed session command =
    state-has (λ (outcome : CommandOutcome). outcome.session ≡ session) life rows allowed session command (λ sw. refl) (λ row named among. refl)

pub returns-clause-others : goal.returns-clause-others
returns-clause-others c life content allowed session command row path named apart = other_files-state life content allowed session command row path named apart
