use Rattle.std.proofs.Common.{◌≡◌, ℕ, List, ◌++◌, take, drop, Option, Some, None, IsSome, refl, ◌∙◌}
use Rattle.std.proofs.Common.{ap}
use Rattle.std.proofs.lemmas.List.{take-append-drop}
use Rattle.apdu_codec.specs.Command.{Apdu}
use Rattle.apdu_codec.specs.declared.status.Sw.{Sw}
use Rattle.uicc_channels.proofs.NeedsLemmas.{AllMet, all_met}
use Rattle.uicc_channels.proofs.RowLemmas.{decided-has}
use Rattle.uicc_channels.proofs.SessionLemmas.{channel_at-waiting_same}
use Rattle.uicc_channels.specs.CommandOutcome.{CommandOutcome, refused}
use Rattle.uicc_channels.specs.CommandRow.{decided}
use Rattle.uicc_channels.specs.GetResponse.{get_response_row, giving}
use Rattle.uicc_channels.specs.Session.{IsOpen, channel_at, open_channel, with_pending}
use Rattle.uicc_channels.specs.declared.chan.Chan.{Chan}
use Rattle.uicc_channels.specs.declared.session.Session.{Session}

-- what holds of each refusal and of giving holds of what GET RESPONSE comes to
pub response-has : (P : CommandOutcome → Type 0) (session : Session) (c : Apdu) → ((sw : Sw) → P (refused session sw)) → ((le : ℕ) → IsOpen session c.channel → P (giving session c.channel le))
    → P (decided session (get_response_row session c))
response-has P session c where_refused where_given =
    decided-has P session (get_response_row session c) (λ sw said. where_refused sw)
    (λ none. let met : AllMet (get_response_row session c).needs = all_met (get_response_row session c).needs none in where_given _ met.channel)

-- what waits on an open channel
pub pending-with_pending : (session : Session) (number : ℕ) (bytes : List ℕ) → IsOpen session number → (open_channel (with_pending session number bytes) number).pending ≡ bytes
pending-with_pending session number bytes is_open = by_place (channel_at session number) refl is_open
  where
    by_place : (place : Option Chan) → channel_at session number ≡ place → IsSome place → (open_channel (with_pending session number bytes) number).pending ≡ bytes
    by_place None e is_some = absurd (cc)
    by_place (Some chan) e is_some = rw (channel_at-waiting_same None session number bytes chan refl e) refl

-- what is given and what goes on waiting are together what waited
pub pending-given : (session : Session) (c : Apdu)
    → (decided session (get_response_row session c)).answer.body ++ (open_channel (decided session (get_response_row session c)).session c.channel).pending ≡ (open_channel session c.channel).pending
pending-given session c =
    response-has (λ outcome. outcome.answer.body ++ (open_channel outcome.session c.channel).pending ≡ (open_channel session c.channel).pending) session c
    (λ sw. refl)
    (λ le is_open. let bytes : List ℕ = (open_channel session c.channel).pending in
    ap (λ (rest : List ℕ). take le bytes ++ rest) (pending-with_pending session c.channel (drop le bytes) is_open) ∙ take-append-drop le bytes)
