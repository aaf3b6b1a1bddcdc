-- Content goes into a file that has room for it.
use Rattle.std.proofs.Common.{◌≡◌, ℕ, ◌+◌, ◌≤◌, true, false, List, length, refl, sym, ◌∙◌, ap}
use Rattle.std.proofs.Common.{Option, Some, None, Result, Ok, Err}
use Rattle.std.specs.Prelude.{nat_le, slice_set, IsSomeAnd}
use Rattle.std.proofs.lemmas.Bool.{cond-false, cond-true, false≢true, leb-true}
use Rattle.file_rows.specs.Change.{with_body, written}
use Rattle.file_rows.specs.declared.row.FileRow.{FileRow}
use Rattle.profile_install.specs.Draft.{content_in}
use Rattle.profile_install.specs.Room.{has_room}
use Rattle.profile_install.specs.declared.draft.Draft.{Draft}
use Rattle.profile_install.specs.declared.draft.Filled.{Filled}
use Rattle.profile_install.specs.declared.draft.OpenFile.{OpenFile}
use Rattle.profile_install.specs.declared.fault.ElementFault.{ElementFault}
use Rattle.profile_install.specs.declared.fault.ElementFault.TheVariants.{BadParameter}

pub room_for : (place count : ℕ) (o : Option FileRow) → has_room place count o ≡ true
    → IsSomeAnd o (λ row. place + count ≤ length row.body)
room_for place count None e = absurd (false≢true e)
room_for place count (Some row) e = leb-true (place + count) (length row.body) e

pub no_room : (draft : Draft) (file : OpenFile) (bytes : List ℕ) (o : Option FileRow)
    → has_room file.place (length bytes) o ≡ false
    → content_in draft file bytes o ≡ Err BadParameter
no_room draft file bytes None e = refl
no_room draft file bytes (Some row) e = cond-false
    (nat_le (file.place + length bytes) (length row.body))
    (Ok (record {
      draft = record draft {
        rows = slice_set draft.rows file.index (with_body (written file.place bytes) row);
      };
      file = record file { place = file.place + length bytes };
    })) (Err BadParameter) e

pub with_room : (draft : Draft) (file : OpenFile) (bytes : List ℕ) (rows : List FileRow)
    (o : Option FileRow) → has_room file.place (length bytes) o ≡ true
    → IsSomeAnd o (λ row. rows
    ≡ slice_set draft.rows file.index (with_body (written file.place bytes) row))
    → content_in draft file bytes o ≡ Ok (record {
      draft = record draft { rows = rows };
      file = record file { place = file.place + length bytes };
    })
with_room draft file bytes rows None e is = absurd is
with_room draft file bytes rows (Some row) e is = cond-true
    (nat_le (file.place + length bytes) (length row.body))
    (Ok (record {
      draft = record draft {
        rows = slice_set draft.rows file.index (with_body (written file.place bytes) row);
      };
      file = record file { place = file.place + length bytes };
    })) (Err BadParameter) e
    ∙ ap (λ (its : List FileRow). let r : Result Filled ElementFault = Ok (record {
      draft = record draft { rows = its };
      file = record file { place = file.place + length bytes };
    }) in r) (sym is)
