use Rattle.std.proofs.Common.{◌≡◌, ℕ, Bool, true, false, cond, List, [], refl, sym, ◌∙◌, ap, subst}
use Rattle.std.proofs.Common.{⊎_elim, Option, Some, None, IsSome}
use Rattle.std.proofs.lemmas.Bool.{true≢false}
use Rattle.std.proofs.lemmas.List.{set-get_or}
use Rattle.std.specs.Option.{unwrap_or}
use Rattle.std.specs.Prelude.{◌==◌, IsSomeAnd, IsTrue}
use Rattle.file_rows.specs.Content.{file_at}
use Rattle.file_rows.specs.FileHead.{holds_files}
use Rattle.file_rows.specs.Find.{child_with_sfi}
use Rattle.file_rows.specs.declared.row.FileRow.{FileRow}
use Rattle.uicc_channels.specs.Chan.{IsDirectoryIn, at_master}
use Rattle.uicc_channels.specs.Session.{IsOpen, channel_at, open_channel, with_channel}
use Rattle.uicc_channels.specs.declared.chan.Chan.{Chan}
use Rattle.uicc_channels.specs.declared.session.Session.{Session}
use Rattle.uicc_data.specs.FileReference.{standing_on, using}

no_child : (directory : List ℕ) (sfi : ℕ) → child_with_sfi [] directory sfi ≡ None
no_child directory sfi = either (sfi == 0)
  where
    either : (b : Bool) → cond {A = Option FileRow} b None None ≡ None
    either true = refl
    either false = refl

-- no file stands in a directory that isn't there
pub no_child_of_none : (rows : List FileRow) (directory : List ℕ) (sfi : ℕ) → IsDirectoryIn rows directory → file_at directory rows ≡ None → child_with_sfi rows directory sfi ≡ None
no_child_of_none rows directory sfi is none =
    ⊎_elim (λ empty. rw empty.0 (no_child directory sfi))
    (λ there. absurd (subst (λ (o : Option FileRow). IsSomeAnd o (λ row. IsTrue (holds_files row.head.kind))) none there))
    is

-- a channel that stands on a file already
pub standing_already : (chan : Chan) (path : List ℕ) (pointer : ℕ) → chan.pointer ≡ pointer → chan.file ≡ Some path → standing_on path pointer chan ≡ chan
standing_already chan path pointer same file = rw (← same, ← file) refl

open_again : (place : Option Chan) → IsSome place → Some (unwrap_or place at_master) ≡ place
open_again None is_open = absurd (true≢false (sym is_open))
open_again (Some chan) is_open = refl

-- where a channel stands on the file already, with that record pointer, nothing changes
pub using_already : (session : Session) (number : ℕ) (path : List ℕ) (pointer : ℕ) → IsOpen session number
    → standing_on path pointer (open_channel session number) ≡ open_channel session number → using session number path pointer ≡ session
using_already session number path pointer is_open same =
    ap (λ (chan : Chan). with_channel session number (Some chan)) same
    ∙ ap (λ (place : Option Chan). with_channel session number place) (open_again (channel_at session number) is_open)
    ∙ ap (λ (channels : List (Option Chan)). record session { channels = channels }) (set-get_or session.channels number None)
