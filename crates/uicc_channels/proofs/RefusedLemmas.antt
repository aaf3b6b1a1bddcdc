-- MANAGE CHANNEL and GET RESPONSE are accepted or change nothing.
use Rattle.std.proofs.Common.{◌≡◌, ℕ, true, List, [], ◌∷◌, drop, length, refl}
use Rattle.apdu_codec.specs.Command.{Apdu}
use Rattle.apdu_codec.specs.declared.status.Sw.{Sw}
use Rattle.apdu_codec.specs.declared.status.TheConstants.Sw.{OK}
use Rattle.uicc_channels.proofs.AcceptedLemmas.{IsDoneOrRefused-accepted, accepted-answered}
use Rattle.uicc_channels.proofs.AcceptedLemmas.{accepted-bytes_waiting}
use Rattle.uicc_channels.proofs.ManageLemmas.{manage-has}
use Rattle.uicc_channels.proofs.ResponseLemmas.{response-has}
use Rattle.uicc_channels.specs.Accepted.{IsDoneOrRefused, is_accepted}
use Rattle.uicc_channels.specs.CommandRow.{decided}
use Rattle.uicc_channels.specs.GetResponse.{get_response_row, giving, rest_status}
use Rattle.uicc_channels.specs.ManageChannel.{closing, manage_channel_row, opening}
use Rattle.uicc_channels.specs.Session.{open_channel}
use Rattle.uicc_channels.specs.declared.session.Session.{Session}

module _ (session : Session) (c : Apdu) where
  pub refused-manage_channel : IsDoneOrRefused session (decided session (manage_channel_row session c))
  refused-manage_channel =
      manage-has (IsDoneOrRefused session) session c
      (λ sw other. refl)
      (λ number opens. IsDoneOrRefused-accepted session (opening session c number) (accepted-answered OK c.le (number ∷ []) refl opens.le))
      (λ closes. IsDoneOrRefused-accepted session (closing session c.p2) refl)

  accepted-rest : (rest : List ℕ) → is_accepted (rest_status rest) ≡ true
  accepted-rest [] = refl
  accepted-rest (byte ∷ rest) = accepted-bytes_waiting (length (byte ∷ rest))

  pub refused-get_response : IsDoneOrRefused session (decided session (get_response_row session c))
  refused-get_response =
      response-has (IsDoneOrRefused session) session c
      (λ sw other. refl)
      (λ le is_open. IsDoneOrRefused-accepted session (giving session c.channel le) (accepted-rest (drop le (open_channel session c.channel).pending)))
