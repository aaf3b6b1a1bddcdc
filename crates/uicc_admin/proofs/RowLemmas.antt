-- What a command of administration comes to: what holds of each refusal and of what is done without
-- one.
use Rattle.std.proofs.Common.{◌≡◌, ℕ, Bool, true, List, refl, ◌∙◌, ap, subst, Option, Some, None}
use Rattle.apdu_codec.specs.declared.status.Sw.{Sw}
use Rattle.apdu_codec.specs.declared.status.TheConstants.Sw.{OK}
use Rattle.file_rows.specs.declared.mode.Mode.{Mode}
use Rattle.file_rows.specs.declared.row.FileRow.{FileRow}
use Rattle.uicc_channels.proofs.NeedsLemmas.{AllMet, all_met}
use Rattle.uicc_channels.proofs.RowLemmas.{decided-has}
use Rattle.uicc_channels.specs.CommandOutcome.{CommandOutcome, refused}
use Rattle.uicc_channels.specs.CommandRow.{decided, refusal_of, refused_or}
use Rattle.uicc_channels.specs.Needs.{Needs}
use Rattle.uicc_channels.specs.declared.session.Session.{Session}
use Rattle.uicc_admin.specs.FileWork.{FileWork, at_file}

module _ (P : CommandOutcome → Type 0) (session : Session) (where_refused : (sw : Sw) → P (refused session sw)) where
  -- on a file it is done where the channel is open, the kind is right and the command itself
  -- refuses nothing
  pub at_file-has : (needs : Needs) (allowed : List ℕ → Mode → Bool) (not_there : Sw) (work : FileRow → FileWork) (file : Option FileRow)
      → ((row : FileRow) → file ≡ Some row → needs.channel ≡ true → (work row).kind ≡ true → (work row).own ≡ None → P (work row).done)
      → P (decided session (at_file needs session allowed not_there work file))
  at_file-has needs allowed not_there work None holds =
      decided-has P session (at_file needs session allowed not_there work None) (λ sw said. where_refused sw) (λ none. where_refused OK)
  at_file-has needs allowed not_there work (Some row) holds =
      decided-has P session (at_file needs session allowed not_there work (Some row)) (λ sw said. where_refused sw)
      (λ e. let met : AllMet (at_file needs session allowed not_there work (Some row)).needs = all_met _ e in
      holds row refl met.channel met.kind met.own)

-- what is done on the file that is named, where nothing refuses it
pub done_there : (session : Session) (needs : Needs) (allowed : List ℕ → Mode → Bool) (not_there : Sw) (work : FileRow → FileWork) (file : Option FileRow) (row : FileRow) → file ≡ Some row
    → refusal_of (at_file needs session allowed not_there work file) ≡ None → decided session (at_file needs session allowed not_there work file) ≡ (work row).done
done_there session needs allowed not_there work None row e none = absurd (cc)
done_there session needs allowed not_there work (Some x) row e none =
    let is : x ≡ row = cc in
    ap (λ (refusal : Option Sw). refused_or refusal session (work x).done) none ∙ ap (λ (x : FileRow). (work x).done) is

-- and what is met there
pub met_there : (session : Session) (needs : Needs) (allowed : List ℕ → Mode → Bool) (not_there : Sw) (work : FileRow → FileWork) (file : Option FileRow) (row : FileRow) → file ≡ Some row
    → refusal_of (at_file needs session allowed not_there work file) ≡ None → (needs.channel ≡ true) × ((work row).own ≡ None)
met_there session needs allowed not_there work None row e none = absurd (cc)
met_there session needs allowed not_there work (Some x) row e none =
    let is : x ≡ row = cc in
    let met : AllMet (at_file needs session allowed not_there work (Some x)).needs = all_met _ none in
    (met.channel, subst (λ (x : FileRow). (work x).own ≡ None) is met.own)
