-- The files of a card by their paths, and what is found among them.
use Rattle.std.proofs.Common.{◌≡◌, ◌≢◌, ◌⊎◌, ℕ, Bool, true, false, cond, List, [], ◌∷◌, find, refl}
use Rattle.std.proofs.Common.{sym, ◌∙◌, ap, subst, inl, inr, Option, Some, ⊎_elim}
use Rattle.std.proofs.lemmas.Slice.Eq.{bytes_eq-Decides}
use Rattle.std.specs.List.{AllByRecursion}
use Rattle.plain_lists.specs.EachTwo.{EachTwo}
use Rattle.file_rows.proofs.ChangeLemmas.{same_path-other, same_path-refl}
use Rattle.file_rows.specs.Content.{file_at, heads_of}
use Rattle.file_rows.specs.Path.{same_path}
use Rattle.file_rows.specs.declared.head.FileHead.{FileHead}
use Rattle.file_rows.specs.declared.row.FileRow.{FileRow}

-- no two files have one path
abbrev pub AreApart : List FileRow → Type 0
AreApart rows = EachTwo (λ one other. one.path ≢ other.path) (heads_of rows)

-- the file is the one of its path
abbrev pub IsAmong : List FileRow → FileRow → Type 0
IsAmong rows row = file_at row.head.path rows ≡ Some row

-- a search finds the first file, which passes, or a later one
find_step : (b : Bool) (r : FileRow) (later : Option FileRow) (row : FileRow) → cond b (Some r) later ≡ Some row → ((b ≡ true) × (r ≡ row)) ⊎ (later ≡ Some row)
find_step true r later row e = inl (refl, cc)
find_step false r later row e = inr e

-- what is found passes
pub found_passes : (test : FileRow → Bool) (rows : List FileRow) (row : FileRow) → find test rows ≡ Some row → test row ≡ true
found_passes test [] row e = absurd (cc)
found_passes test (r ∷ rows) row e =
    ⊎_elim (λ here. ap test (sym here.1) ∙ here.0) (λ later. found_passes test rows row later) (find_step (test r) r (find test rows) row e)

-- what holds of each file's head holds of that of what is found
pub found_head : (P : FileHead → Type 0) (test : FileRow → Bool) (rows : List FileRow) (row : FileRow) → AllByRecursion P (heads_of rows) → find test rows ≡ Some row → P row.head
found_head P test [] row each e = absurd (cc)
found_head P test (r ∷ rows) row each e =
    ⊎_elim (λ here. subst (λ (x : FileRow). P x.head) here.1 each.0) (λ later. found_head P test rows row each.1 later) (find_step (test r) r (find test rows) row e)

-- an earlier file has another path
pub among_later : (r : FileRow) (rows : List FileRow) (row : FileRow) → AllByRecursion (λ other. r.head.path ≢ other.path) (heads_of rows) → IsAmong rows row → IsAmong (r ∷ rows) row
among_later r rows row apart among =
    let other : r.head.path ≢ row.head.path = found_head (λ (head : FileHead). r.head.path ≢ head.path) (λ (x : FileRow). same_path x.head.path row.head.path) rows row apart among in
    ap (λ (b : Bool). cond b (Some r) (file_at row.head.path rows)) (same_path-other r.head.path row.head.path other) ∙ among

pub among_first : (r : FileRow) (rows : List FileRow) → IsAmong (r ∷ rows) r
among_first r rows = ap (λ (b : Bool). cond b (Some r) (file_at r.head.path rows)) (same_path-refl r.head.path)

-- what any search finds is the file of its path
pub among_found : (test : FileRow → Bool) (rows : List FileRow) (row : FileRow) → AreApart rows → find test rows ≡ Some row → IsAmong rows row
among_found test [] row apart e = absurd (cc)
among_found test (r ∷ rows) row apart e =
    ⊎_elim (λ here. subst (λ (x : FileRow). IsAmong (r ∷ rows) x) here.1 (among_first r rows))
    (λ later. among_later r rows row apart.0 (among_found test rows row apart.1 later))
    (find_step (test r) r (find test rows) row e)

-- a file that is found at a path has that path
pub path_found : (path : List ℕ) (rows : List FileRow) (row : FileRow) → file_at path rows ≡ Some row → row.head.path ≡ path
path_found path rows row e =
    (bytes_eq-Decides row.head.path path).0 (found_passes (λ (row : FileRow). same_path row.head.path path) rows row e)

-- and is the one of its path
pub among_at : (path : List ℕ) (rows : List FileRow) (row : FileRow) → file_at path rows ≡ Some row → IsAmong rows row
among_at path rows row e = subst (λ (p : List ℕ). file_at p rows ≡ Some row) (sym (path_found path rows row e)) e
