use Rattle.std.proofs.Common.{◌≡◌, List, Some, None, Option, Ok, Err, sym, ◌∙◌, ap, refl}
use Rattle.std.specs.Prelude.{Result}
use Rattle.std.specs.Result.{IsErrAnd}
use Rattle.apdu_codec.specs.declared.status.Sw.{Sw}
use Rattle.file_rows.specs.declared.row.FileRow.{FileRow}
use Rattle.uicc_channels.specs.CommandOutcome.{CommandOutcome, refused}
use Rattle.uicc_channels.specs.CommandRow.{Follows, CommandRow, decided, refusal_of, refused_or}
use Rattle.uicc_channels.specs.Session.{Suits}
use Rattle.uicc_channels.specs.declared.decided.Decided.{Decided}
use Rattle.uicc_channels.specs.declared.session.Session.{Session}

-- a refusal is what its row says
pub Follows-refused : (session : Session) (row : CommandRow) (done : Decided) (result : Result Unit Sw) (sw first : Sw) → IsErrAnd result (λ e. e ≡ sw)
    → sw ≡ first → refusal_of row ≡ Some first → Follows session row done result
Follows-refused session row done (Ok _) sw first refused same said = absurd refused
Follows-refused session row done (Err e) sw first refused same said = said ∙ ap (λ (x : Sw). Some x) (sym (refused ∙ same))

-- what holds of each refusal and of what is done without one holds of what a command comes to
pub decided-has : (P : CommandOutcome → Type 0) (session : Session) (row : CommandRow) → ((sw : Sw) → refusal_of row ≡ Some sw → P (refused session sw))
    → (refusal_of row ≡ None → P row.done) → P (decided session row)
decided-has P session row where_refused where_done = either (refusal_of row) where_refused where_done
  where
    either : (refusal : Option Sw) → ((sw : Sw) → refusal ≡ Some sw → P (refused session sw)) → (refusal ≡ None → P row.done)
        → P (refused_or refusal session row.done)
    either None where_refused where_done = where_done refl
    either (Some sw) where_refused where_done = where_refused sw refl

-- a session that suits after what an instruction does suits after it is refused or done
pub Suits-decided : (rows : List FileRow) (session : Session) (row : CommandRow) → Suits session rows → Suits row.done.session rows
    → Suits (decided session row).session rows
Suits-decided rows session row before after =
    decided-has (λ outcome. Suits outcome.session rows) session row (λ sw said. before) (λ none. after)
