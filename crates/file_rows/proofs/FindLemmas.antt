use Rattle.std.proofs.Common.{◌≡◌, ◌≢◌, ℕ, zero, suc, ◌<◌, Bool, true, false, cond, ◌&&◌, ◌==◌}
use Rattle.std.proofs.Common.{List, [], ◌∷◌, length, find, get_or, refl, sym, ◌∙◌, subst, Some}
use Rattle.std.proofs.Common.{Contains, arith}
use Rattle.std.proofs.lemmas.Bool.Decides.{Decides-eqb}
use Rattle.std.specs.List.{AllByRecursion}
use Rattle.plain_lists.specs.EachTwo.{EachTwo}
use Rattle.file_rows.specs.Content.{AreFiles, heads_of}
use Rattle.file_rows.specs.FileHead.{ShareSfi}
use Rattle.file_rows.specs.Find.{child_with_sfi}
use Rattle.file_rows.specs.Path.{IsIn, is_in}
use Rattle.file_rows.specs.declared.head.FileHead.{FileHead}
use Rattle.file_rows.specs.declared.row.FileRow.{FileRow}
use Rattle.file_rows.proofs.PathLemmas.{both_hold, is_in-is, not_zero}

-- what each head has, the head of a file of the list has
each_head_at : (P : FileHead → Type 0) (rows : List FileRow) (k : ℕ) (row : FileRow) → AllByRecursion P (heads_of rows) → k < length rows → get_or rows k row ≡ row → P row.head
each_head_at P [] k row each within at = absurd (omega (arith, within))
each_head_at P (r ∷ rows) zero row each within at = subst (λ (x : FileRow). P x.head) at each.0
each_head_at P (r ∷ rows) (suc k) row each within at = each_head_at P rows k row each.1 (omega (arith, within)) at

module _ (directory : List ℕ) (row : FileRow) (inside : IsIn directory row.head.path) (given : row.head.sfi ≢ 0) where
  abbrev test : FileRow → Bool
  test r = is_in directory r.head.path && (r.head.sfi == row.head.sfi)

  passes : test row ≡ true
  passes = rw ((is_in-is directory row.head.path).1 inside, (Decides-eqb row.head.sfi row.head.sfi).1 refl) refl

  -- a file that passes shares its directory and its SFI
  shares : (r : FileRow) → test r ≡ true → ShareSfi r.head row.head
  shares r e =
      let both = both_hold (is_in directory r.head.path) (r.head.sfi == row.head.sfi) e in
      let same : r.head.sfi ≡ row.head.sfi = (Decides-eqb r.head.sfi row.head.sfi).0 both.1 in
      record { given = λ none. given (sym same ∙ none); same = same; directory = (directory, (is_in-is directory r.head.path).0 both.0, inside) }

  found_at : (rows : List FileRow) → EachTwo (λ one other. ShareSfi one other → ⊥) (heads_of rows) → (k : ℕ) → k < length rows → get_or rows k row ≡ row
      → find test rows ≡ Some row
  found_at [] each k within at = absurd (omega (arith, within))
  found_at (r ∷ rows) each zero within at = rw (at, passes) refl
  found_at (r ∷ rows) each (suc k) within at =
      let later : find test rows ≡ Some row = found_at rows each.1 k (omega (arith, within)) at in
      let step : (b : Bool) → test r ≡ b → cond b (Some r) (find test rows) ≡ Some row
      = λ b. elim b as (λ b. test r ≡ b → cond b (Some r) (find test rows) ≡ Some row) [
        | true ↦ λ e. absurd (each_head_at (λ head. ShareSfi r.head head → ⊥) rows k row each.0 (omega (arith, within)) at (shares r e))
        | false ↦ λ e. later
      ]
      in step (test r) refl

-- a file of a directory with an SFI is the one that is found by it
pub found_by_sfi : (rows : List FileRow) (directory : List ℕ) (row : FileRow) → AreFiles rows → Contains rows row → IsIn directory row.head.path → row.head.sfi ≢ 0
    → child_with_sfi rows directory row.head.sfi ≡ Some row
found_by_sfi rows directory row files there inside given =
    rw (not_zero row.head.sfi given) (found_at directory row inside given rows files.sfis there.0 there.1 there.2)

-- what each element has, what is found has
pub found_has : {X : Type 0} (P : X → Type 0) (test : X → Bool) (xs : List X) (x : X) → AllByRecursion P xs → find test xs ≡ Some x → P x
found_has P test [] x each e = absurd (cc)
found_has {X} P test (y ∷ ys) x each e =
    let step : (b : Bool) → cond b (Some y) (find test ys) ≡ Some x → P x
    = λ b. elim b as (λ b. cond b (Some y) (find test ys) ≡ Some x → P x) [
      | true ↦ λ f. let same : y ≡ x = cc in subst P same each.0
      | false ↦ λ f. found_has P test ys x each.1 f
    ]
    in step (test y) e
