use Rattle.std.proofs.Common.{◌≡◌, ◌++◌, ℕ, List, [], ◌∷◌, take, drop, refl, arith}
use Rattle.std.proofs.lemmas.List.{take-append-drop}
use Rattle.apdu_codec.specs.declared.status.TheConstants.Sw.{OK}
use Rattle.uicc_channels.specs.GetResponse.{rest_status}
use Rattle.card_core.proofs.OutcomeLemmas.{get_response-has}
use Rattle.card_core.proofs.laws.replies_are_given_in_order.Goals as goal

-- nothing is left where the status word says so
none_left : (rest : List ℕ) → rest_status (take 256 rest) ≡ OK → rest ≡ []
none_left [] said = refl
none_left (byte ∷ rest) said = absurd (grind (arith, said))

pub returns-clause-begun : goal.returns-clause-begun
returns-clause-begun c exchange heads busy port le request = take-append-drop le _

pub returns-clause-continued : goal.returns-clause-continued
returns-clause-continued c exchange command =
    get_response-has (λ outcome. outcome.answer.body ++ outcome.exchange.unsent ≡ exchange.unsent)
    exchange command (λ sw. refl) (take-append-drop _ exchange.unsent)

pub returns-clause-ended : goal.returns-clause-ended
returns-clause-ended c exchange le said = none_left (drop le exchange.unsent) said
