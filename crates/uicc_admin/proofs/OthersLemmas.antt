-- What a command of administration leaves of the session.
use Rattle.std.proofs.Common.{◌≡◌, ◌≢◌, ℕ, Bool, true, false, cond, List, refl}
use Rattle.std.proofs.lemmas.Bool.{eqb-true}
use Rattle.std.specs.Prelude.{◌==◌}
use Rattle.apdu_codec.specs.Command.{Apdu}
use Rattle.file_rows.specs.declared.head.Life.{Life}
use Rattle.file_rows.specs.declared.head.Life.TheVariants.{Active, Deactivated, Terminated}
use Rattle.file_rows.specs.declared.mode.Mode.{Mode}
use Rattle.file_rows.specs.declared.row.FileRow.{FileRow}
use Rattle.uicc_channels.specs.ChannelLaws.{LeavesOthers}
use Rattle.uicc_channels.specs.CommandOutcome.{CommandOutcome}
use Rattle.uicc_channels.specs.CommandRow.{CommandRow, decided}
use Rattle.uicc_channels.specs.declared.session.Session.{Session}
use Rattle.uicc_admin.proofs.CreateRowLemmas.{other_channels-create}
use Rattle.uicc_admin.proofs.DeleteRowLemmas.{other_channels-delete}
use Rattle.uicc_admin.proofs.StateLemmas.{state-has}
use Rattle.uicc_admin.specs.Administration.{admin_row}
use Rattle.uicc_admin.specs.FileState.{state_row}

module _ (rows : List FileRow) (allowed : List ℕ → Mode → Bool) (session : Session) (c : Apdu) where
  abbrev KeepsOthers : CommandRow → Type 0
  KeepsOthers row = LeavesOthers session c.channel (decided session row).session

  others-state : (life : Life) → KeepsOthers (state_row life rows allowed session c)
  others-state life =
      state-has (λ (outcome : CommandOutcome). LeavesOthers session c.channel outcome.session) life rows allowed session c
      (λ sw other apart. refl) (λ row named among other apart. refl)

  by_test : (is_its : Bool) (one other : CommandRow) → (is_its ≡ true → KeepsOthers one) → KeepsOthers other → KeepsOthers (cond is_its one other)
  by_test true one other first second = first refl
  by_test false one other first second = second

  -- but for RESIZE FILE the other channels are as they were
  pub others-admin : c.ins ≢ 0xD4 → KeepsOthers (admin_row rows allowed session c)
  others-admin no_resize =
      by_test (c.ins == 0xE0) _ _ (λ is number apart. other_channels-create rows allowed session c number apart)
      (by_test (c.ins == 0xE4) _ _ (λ is number apart. other_channels-delete rows allowed session c number apart)
      (by_test (c.ins == 0xD4) _ _ (λ is. absurd (no_resize (eqb-true c.ins 0xD4 is)))
      (by_test (c.ins == 0x44) _ _ (λ is. others-state Active)
      (by_test (c.ins == 0x04) _ _ (λ is. others-state Deactivated) (others-state Terminated)))))
