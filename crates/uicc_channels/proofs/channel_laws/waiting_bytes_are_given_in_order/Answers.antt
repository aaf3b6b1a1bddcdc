use Rattle.std.proofs.Common.{◌≡◌, ℕ, List, ◌++◌, ◌∙◌, ap, subst, append_assoc}
use Rattle.uicc_channels.proofs.ResponseLemmas.{pending-given}
use Rattle.uicc_channels.specs.CommandOutcome.{CommandOutcome}
use Rattle.uicc_channels.specs.CommandRow.{decided}
use Rattle.uicc_channels.specs.GetResponse.{get_response_row}
use Rattle.uicc_channels.specs.Session.{open_channel}
use Rattle.uicc_channels.proofs.channel_laws.waiting_bytes_are_given_in_order.Goals as goal

pub returns-clause-once : goal.returns-clause-once
returns-clause-once c = pending-given

pub returns-clause-twice : goal.returns-clause-twice
returns-clause-twice c session command next same =
    let first : CommandOutcome = decided session (get_response_row session command) in
    let second : CommandOutcome = decided first.session (get_response_row first.session next) in
    let rest : second.answer.body ++ (open_channel second.session command.channel).pending ≡ (open_channel first.session command.channel).pending =
    subst (λ (number : ℕ). second.answer.body ++ (open_channel second.session number).pending ≡ (open_channel first.session number).pending) same (pending-given first.session next) in
    append_assoc first.answer.body second.answer.body _
    ∙ ap (λ (bytes : List ℕ). first.answer.body ++ bytes) rest
    ∙ pending-given session command
