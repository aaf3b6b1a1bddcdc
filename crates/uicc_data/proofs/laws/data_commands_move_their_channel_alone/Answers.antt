use Rattle.uicc_channels.specs.CommandOutcome.{CommandOutcome}
use Rattle.uicc_data.proofs.OutcomeLemmas.{increase-has, moves, read_binary-has, read_record-has}
use Rattle.uicc_data.proofs.OutcomeLemmas.{search_record-has, stays, stays_waiting}
use Rattle.uicc_data.proofs.OutcomeLemmas.{update_binary-has, update_record-has, waits}
use Rattle.uicc_data.specs.Moves.{MovesAlone, MovesAndWaits}
use Rattle.uicc_data.proofs.laws.data_commands_move_their_channel_alone.Goals as goal

pub returns-clause-read_binary : goal.returns-clause-read_binary
returns-clause-read_binary c rows allowed session command chan is_open =
    read_binary-has (λ (outcome : CommandOutcome). MovesAlone session command.channel chan outcome.session) rows allowed session command
    (λ sw. stays session command.channel chan is_open) (λ path pointer answer. moves session command.channel chan is_open path pointer)

pub returns-clause-update_binary : goal.returns-clause-update_binary
returns-clause-update_binary c rows allowed session command chan is_open =
    update_binary-has (λ (outcome : CommandOutcome). MovesAlone session command.channel chan outcome.session) rows allowed session command
    (λ sw. stays session command.channel chan is_open) (λ path pointer answer change. moves session command.channel chan is_open path pointer)

pub returns-clause-read_record : goal.returns-clause-read_record
returns-clause-read_record c rows allowed session command chan is_open =
    read_record-has (λ (outcome : CommandOutcome). MovesAlone session command.channel chan outcome.session) rows allowed session command
    (λ sw. stays session command.channel chan is_open) (λ path pointer answer. moves session command.channel chan is_open path pointer)

pub returns-clause-update_record : goal.returns-clause-update_record
returns-clause-update_record c rows allowed session command chan is_open =
    update_record-has (λ (outcome : CommandOutcome). MovesAlone session command.channel chan outcome.session) rows allowed session command
    (λ sw. stays session command.channel chan is_open) (λ path pointer answer change. moves session command.channel chan is_open path pointer)

pub returns-clause-search_record : goal.returns-clause-search_record
returns-clause-search_record c rows allowed session command chan is_open =
    search_record-has (λ (outcome : CommandOutcome). MovesAndWaits session command.channel chan outcome.session) rows allowed session command
    (λ sw. stays_waiting session command.channel chan is_open) (λ path pointer bytes. waits session command.channel chan is_open command.le path pointer bytes)

pub returns-clause-increase : goal.returns-clause-increase
returns-clause-increase c rows allowed session command chan is_open =
    increase-has (λ (outcome : CommandOutcome). MovesAndWaits session command.channel chan outcome.session) rows allowed session command
    (λ sw. stays_waiting session command.channel chan is_open) (λ path pointer bytes change. waits session command.channel chan is_open command.le path pointer bytes)
