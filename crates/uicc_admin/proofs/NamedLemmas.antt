-- The file that a command names is the one of its path.
use Rattle.std.proofs.Common.{◌≡◌, ℕ, Bool, true, false, cond, List, [], ◌∷◌, ◌++◌, refl, sym}
use Rattle.std.proofs.Common.{subst, Option, Some, None, not}
use Rattle.std.specs.Option.{option_and_then}
use Rattle.fcp_codec.specs.Values.{id_of}
use Rattle.file_rows.specs.Content.{file_at}
use Rattle.file_rows.specs.FileHead.{holds_files, is_application}
use Rattle.file_rows.specs.Find.{child, only}
use Rattle.file_rows.specs.declared.row.FileRow.{FileRow}
use Rattle.uicc_channels.proofs.AmongLemmas.{IsAmong, among_at}
use Rattle.uicc_channels.specs.declared.chan.Chan.{Chan}
use Rattle.uicc_admin.specs.NamedFile.{ef_in, ef_named}

-- what is found only where it passes is found, and passes
pub only_found : (test : FileRow → Bool) (found : Option FileRow) (row : FileRow) → only test found ≡ Some row → (found ≡ Some row) × (test row ≡ true)
only_found test None row e = absurd (cc)
only_found test (Some x) row e = either (test x) refl e
  where
    either : (b : Bool) → test x ≡ b → cond b (Some x) None ≡ Some row → (Some x ≡ Some row) × (test row ≡ true)
    either true passes f = (f, let same : x ≡ row = cc in subst (λ (x : FileRow). test x ≡ true) same passes)
    either false passes f = absurd (cc)

pub and_then_found : {X : Type 0} (f : X → Option FileRow) (o : Option X) (row : FileRow) → option_and_then f o ≡ Some row → (x : X) × (f x ≡ Some row)
and_then_found f None row e = absurd (cc)
and_then_found f (Some x) row e = (x, e)

not_true : (b : Bool) → not b ≡ true → b ≡ false
not_true true e = sym e
not_true false e = refl

-- a child is the file of its path
pub child_found : (rows : List FileRow) (directory : List ℕ) (id : ℕ) (row : FileRow) → child rows directory id ≡ Some row
    → (file_at (directory ++ id ∷ []) rows ≡ Some row) × (is_application row.head.kind ≡ false)
child_found rows directory id row e =
    let found = only_found (λ row. not (is_application row.head.kind)) (file_at (directory ++ id ∷ []) rows) row e in
    (found.0, not_true (is_application row.head.kind) found.1)

pub ef_in_found : (rows : List FileRow) (directory : List ℕ) (id : ℕ) (row : FileRow) → ef_in rows directory id ≡ Some row
    → IsAmong rows row × (holds_files row.head.kind ≡ false)
ef_in_found rows directory id row e =
    let found = only_found (λ row. not (holds_files row.head.kind)) (child rows directory id) row e in
    (among_at (directory ++ id ∷ []) rows row (child_found rows directory id row found.0).0, not_true (holds_files row.head.kind) found.1)

-- the EF that a body names is among the files
pub ef_named_among : (rows : List FileRow) (chan : Chan) (body : List ℕ) (row : FileRow) → ef_named rows chan body ≡ Some row → IsAmong rows row
ef_named_among rows chan [] row e =
    let found = and_then_found (λ path. file_at path rows) chan.file row e in
    among_at found.0 rows row found.1
ef_named_among rows chan (b ∷ body) row e =
    let found = and_then_found (ef_in rows chan.dir) (id_of (b ∷ body)) row e in
    (ef_in_found rows chan.dir found.0 row found.1).0
