use Rattle.std.proofs.Common.{◌≡◌, ◌≢◌, ℕ, Some, None, sym, subst, ◌∙◌, inl, inr, arith}
use Rattle.std.proofs.lemmas.Bool.{cases_eq}
use Rattle.apdu_codec.specs.Command.{Apdu}
use Rattle.uicc_channels.proofs.ChannelLemmas.{closing-opens_none, open_and_closed}
use Rattle.uicc_channels.proofs.ChannelLemmas.{opening-closes_none, opening-is, opening-stands}
use Rattle.uicc_channels.proofs.ManageLemmas.{IsClosing, lowest_closed-is, manage-has}
use Rattle.uicc_channels.proofs.SessionLemmas.{channel_at-with_channel}
use Rattle.uicc_channels.specs.ChannelLaws.{IsLowestClosed}
use Rattle.uicc_channels.specs.CommandOutcome.{CommandOutcome}
use Rattle.uicc_channels.specs.ManageChannel.{closing, opened_from, opening}
use Rattle.uicc_channels.specs.Session.{IsOpen, channel_at, open_channel}
use Rattle.uicc_channels.specs.declared.session.Session.{Session}
use Rattle.uicc_channels.proofs.channel_laws.the_lowest_closed_channel_opens.Goals as goal

pub returns-clause-lowest : goal.returns-clause-lowest
returns-clause-lowest c session command number closed =
    manage-has (λ (outcome : CommandOutcome). IsOpen outcome.session number → IsLowestClosed session number) session command
    (λ sw is_open. absurd (open_and_closed session number is_open closed))
    (λ opened opens is_open. rw (opening-is session command opened opens number closed is_open) (lowest_closed-is session opened opens.found))
    (λ closes is_open. absurd (open_and_closed (closing session command.p2).session number is_open (closing-opens_none session command.p2 number closed)))

pub returns-clause-stands : goal.returns-clause-stands
returns-clause-stands c session command number closed =
    manage-has (λ (outcome : CommandOutcome). IsOpen outcome.session number → channel_at outcome.session number ≡ Some (opened_from command.channel (open_channel session command.channel))) session command
    (λ sw is_open. absurd (open_and_closed session number is_open closed))
    (λ opened opens is_open. let same : number ≡ opened = opening-is session command opened opens number closed is_open in
    rw same (opening-stands session command opened opens
    (subst (λ (k : ℕ). IsOpen (opening session command opened).session k) same is_open)))
    (λ closes is_open. absurd (open_and_closed (closing session command.p2).session number is_open (closing-opens_none session command.p2 number closed)))

-- a channel that closes is the one that is named
closed_by : (session : Session) (command : Apdu) (number : ℕ) → IsOpen session number → IsClosing command → channel_at (closing session command.p2).session number ≡ None
    → (number ≡ command.p2) × (number ≢ 0)
closed_by session command number is_open closes closed =
    elim (cases_eq number command.p2) [
      | inl e ↦ (e, λ zero. omega (arith, e, zero, closes.number))
      | inr apart ↦ absurd (open_and_closed session number is_open (sym (channel_at-with_channel session command.p2 number None apart) ∙ closed))
    ]

pub returns-clause-closed : goal.returns-clause-closed
returns-clause-closed c session command number is_open =
    manage-has (λ (outcome : CommandOutcome). channel_at outcome.session number ≡ None → (number ≡ command.p2) × (number ≢ 0)) session command
    (λ sw closed. absurd (open_and_closed session number is_open closed))
    (λ opened opens closed. absurd (open_and_closed session number is_open (opening-closes_none session command opened opens number closed)))
    (λ closes. closed_by session command number is_open closes)
