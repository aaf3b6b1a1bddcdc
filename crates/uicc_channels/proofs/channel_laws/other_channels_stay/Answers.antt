use Rattle.std.proofs.Common.{◌≡◌, None, refl, arith}
use Rattle.uicc_channels.proofs.ChannelLemmas.{opening-apart, opening-other, opening-own}
use Rattle.uicc_channels.proofs.ChannelLemmas.{waiting-own}
use Rattle.uicc_channels.proofs.ManageLemmas.{manage-has}
use Rattle.uicc_channels.proofs.ResponseLemmas.{response-has}
use Rattle.uicc_channels.proofs.SessionLemmas.{channel_at-waiting, channel_at-with_channel}
use Rattle.uicc_channels.specs.ChannelLaws.{StaysButWaiting}
use Rattle.uicc_channels.specs.CommandOutcome.{CommandOutcome}
use Rattle.uicc_channels.specs.Session.{channel_at}
use Rattle.uicc_channels.proofs.channel_laws.other_channels_stay.Goals as goal

pub returns-clause-closing : goal.returns-clause-closing
returns-clause-closing c session command number p1 apart =
    manage-has (λ (outcome : CommandOutcome). channel_at outcome.session number ≡ channel_at session number) session command
    (λ sw. refl)
    (λ opened opens. absurd (omega (arith, p1, opens.p1)))
    (λ closes. channel_at-with_channel session command.p2 number None apart)

pub returns-clause-opening : goal.returns-clause-opening
returns-clause-opening c session command number p1 is_open apart =
    manage-has (λ (outcome : CommandOutcome). channel_at outcome.session number ≡ channel_at session number) session command
    (λ sw. refl)
    (λ opened opens. opening-other session command opened opens number (opening-apart session command opened opens number is_open) apart)
    (λ closes. absurd (omega (arith, p1, closes.p1)))

pub returns-clause-own : goal.returns-clause-own
returns-clause-own c session command chan p1 found =
    manage-has (λ (outcome : CommandOutcome). StaysButWaiting outcome.session command.channel chan) session command
    (λ sw. (chan.pending, found))
    (λ opened opens. opening-own session command opened opens chan found)
    (λ closes. absurd (omega (arith, p1, closes.p1)))

pub returns-clause-get_response : goal.returns-clause-get_response
returns-clause-get_response c session command number apart =
    response-has (λ (outcome : CommandOutcome). channel_at outcome.session number ≡ channel_at session number) session command
    (λ sw. refl)
    (λ le is_open. channel_at-waiting None session command.channel number _ apart)

pub returns-clause-get_response_own : goal.returns-clause-get_response_own
returns-clause-get_response_own c session command chan found =
    response-has (λ (outcome : CommandOutcome). StaysButWaiting outcome.session command.channel chan) session command
    (λ sw. (chan.pending, found))
    (λ le is_open. waiting-own None session command.channel _ chan found)
