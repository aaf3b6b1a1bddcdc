-- What a command comes to that is refused, and that isn't.
use Rattle.std.proofs.Common.{◌≡◌, ℕ, Bool, true, false, List, [], length, refl, sym, ◌∙◌, Option}
use Rattle.std.proofs.Common.{Some, None, if◌then◌else◌, arith}
use Rattle.std.proofs.lemmas.Bool.{true≢false}
use Rattle.apdu_codec.specs.Answer.{status_alone}
use Rattle.apdu_codec.specs.Command.{Apdu}
use Rattle.apdu_codec.specs.Sw.{bytes_waiting, wrong_le}
use Rattle.apdu_codec.specs.declared.answers.Answer.{Answer}
use Rattle.apdu_codec.specs.declared.status.Sw.{Sw}
use Rattle.apdu_codec.specs.declared.status.TheConstants.Sw.{OK}
use Rattle.uicc_channels.proofs.RowLemmas.{decided-has}
use Rattle.uicc_channels.specs.Accepted.{IsDoneOrRefused, is_accepted}
use Rattle.uicc_channels.specs.CommandOutcome.{CommandOutcome}
use Rattle.uicc_channels.specs.CommandRow.{CommandRow, decided, refusal_of}
use Rattle.uicc_channels.specs.Delivery.{answered, delivered, le_refusal, takes, waiting}
use Rattle.uicc_channels.specs.declared.session.Session.{Session}

-- `61XX` accepts a command, whatever the count
pub accepted-bytes_waiting : (count : ℕ) → is_accepted (bytes_waiting count) ≡ true
accepted-bytes_waiting count = grind arith

-- an answer body by whether its Le takes it
abbrev given : Sw → List ℕ → Bool → Answer
given success body taken = if taken then record { body = body; sw = success } else status_alone (wrong_le (length body))

-- where its Le doesn't refuse it, an answer body is answered with success or comes to wait
pub accepted-answered : (success : Sw) (le : Option ℕ) (body : List ℕ) → is_accepted success ≡ true → le_refusal le body ≡ None
    → is_accepted (answered success le body).sw ≡ true
accepted-answered success None body accepted none = accepted-bytes_waiting (length body)
accepted-answered success (Some le) body accepted none = either (takes le (length body)) none
  where
    either : (taken : Bool) → (if taken then None else Some (wrong_le (length body))) ≡ None → is_accepted (given success body taken).sw ≡ true
    either true e = accepted
    either false e = absurd (cc)

-- what an instruction does where nothing refuses it is accepted, so any other status word refuses
pub IsDoneOrRefused-decided : (session : Session) (row : CommandRow) → (refusal_of row ≡ None → is_accepted row.done.answer.sw ≡ true)
    → IsDoneOrRefused session (decided session row)
IsDoneOrRefused-decided session row accepted =
    decided-has (λ outcome. IsDoneOrRefused session outcome) session row (λ sw said other. refl)
    (λ none other. absurd (true≢false (sym (accepted none) ∙ other)))

-- what is accepted owes nothing
pub IsDoneOrRefused-accepted : (session : Session) (outcome : CommandOutcome) → is_accepted outcome.answer.sw ≡ true → IsDoneOrRefused session outcome
IsDoneOrRefused-accepted session outcome accepted other = absurd (true≢false (sym accepted ∙ other))

-- a delivery is accepted, or refused by its Le
pub IsDoneOrRefused-delivered : (session : Session) (c : Apdu) (body : List ℕ) → IsDoneOrRefused session (delivered session c body)
IsDoneOrRefused-delivered session c body = by_le c.le
  where
    by_take : (taken : Bool) → IsDoneOrRefused session (record { answer = given OK body taken; session = session; change = None })
    by_take true = IsDoneOrRefused-accepted session _ refl
    by_take false = λ other. refl

    by_le : (le : Option ℕ) → IsDoneOrRefused session (record { answer = answered OK le body; session = waiting le session c.channel body; change = None })
    by_le None = IsDoneOrRefused-accepted session _ (accepted-bytes_waiting (length body))
    by_le (Some le) = by_take (takes le (length body))
