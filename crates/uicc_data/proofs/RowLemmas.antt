use Rattle.std.proofs.Common.{◌≡◌, ℕ, Bool, true, false, List, refl, Option, Some, None}
use Rattle.apdu_codec.specs.declared.status.Sw.{Sw}
use Rattle.apdu_codec.specs.declared.status.TheConstants.Sw.{OK}
use Rattle.file_rows.specs.declared.mode.Mode.{Mode}
use Rattle.file_rows.specs.declared.row.FileRow.{FileRow}
use Rattle.uicc_channels.proofs.NeedsLemmas.{AllMet, all_met}
use Rattle.uicc_channels.proofs.RowLemmas.{decided-has}
use Rattle.uicc_channels.specs.CommandOutcome.{CommandOutcome, refused}
use Rattle.uicc_channels.specs.CommandRow.{CommandRow, decided, refusal_of}
use Rattle.uicc_channels.specs.Needs.{Needs}
use Rattle.uicc_channels.specs.declared.session.Session.{Session}
use Rattle.uicc_data.specs.FileUse.{FileUse, on_file, where_named, with_no_file}

module _ (P : CommandOutcome → Type 0) (session : Session) (where_refused : (sw : Sw) → P (refused session sw)) where
  -- what holds of each refusal and of what is done without one holds of what a command comes to
  done-has : (row : CommandRow) → (refusal_of row ≡ None → P row.done) → P (decided session row)
  done-has row holds = decided-has P session row (λ sw said. where_refused sw) holds

  -- without a file it is refused
  pub no_file-has : (needs : Needs) → P (decided session (with_no_file needs session))
  no_file-has needs = done-has (with_no_file needs session) (λ _. where_refused OK)

  -- on a file it is done where the channel is open, the body and Le are right, the kind is, and the
  -- command itself refuses nothing
  pub on_file-has : (needs : Needs) (allowed : List ℕ → Mode → Bool) (not_there : Sw) (usage : FileRow → FileUse) (file : Option FileRow)
      → ((row : FileRow) → file ≡ Some row → needs.channel ≡ true → needs.lengths ≡ true → (usage row).kind ≡ true → (usage row).own ≡ None → P (usage row).done)
      → P (decided session (on_file needs session allowed not_there usage file))
  on_file-has needs allowed not_there usage None holds = no_file-has (record needs { file = Some not_there })
  on_file-has needs allowed not_there usage (Some row) holds =
      done-has (on_file needs session allowed not_there usage (Some row))
      (λ e. let met : AllMet (on_file needs session allowed not_there usage (Some row)).needs = all_met _ e in
      holds row refl met.channel met.lengths met.kind met.own)

  -- and where P1 and P2 are the command's own
  pub named-has : {X : Type 0} (needs : Needs) (row : X → CommandRow) (place : Option X) → ((x : X) → place ≡ Some x → P (decided session (row x)))
      → P (decided session (where_named needs session row place))
  named-has needs row None holds = no_file-has (record needs { parameters = false })
  named-has needs row (Some x) holds = holds x refl

  pub where_named-has : {X : Type 0} (needs : Needs) (row : X → CommandRow) (place : Option X) → ((x : X) → P (decided session (row x)))
      → P (decided session (where_named needs session row place))
  where_named-has needs row place holds = named-has needs row place (λ x at. holds x)
