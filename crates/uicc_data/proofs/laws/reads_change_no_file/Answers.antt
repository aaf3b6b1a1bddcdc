use Rattle.std.proofs.Common.{◌≡◌, refl, None}
use Rattle.uicc_channels.specs.CommandOutcome.{CommandOutcome}
use Rattle.uicc_data.proofs.OutcomeLemmas.{read_binary-has, read_record-has, search_record-has}
use Rattle.uicc_data.proofs.laws.reads_change_no_file.Goals as goal

pub returns-clause-binary : goal.returns-clause-binary
returns-clause-binary c rows allowed session command =
    read_binary-has (λ (outcome : CommandOutcome). outcome.change ≡ None) rows allowed session command (λ sw. refl) (λ path pointer answer. refl)

pub returns-clause-record_read : goal.returns-clause-record_read
returns-clause-record_read c rows allowed session command =
    read_record-has (λ (outcome : CommandOutcome). outcome.change ≡ None) rows allowed session command (λ sw. refl) (λ path pointer answer. refl)

pub returns-clause-search : goal.returns-clause-search
returns-clause-search c rows allowed session command =
    search_record-has (λ (outcome : CommandOutcome). outcome.change ≡ None) rows allowed session command (λ sw. refl) (λ path pointer bytes. refl)
