-- What a change names, found among heads.
use Rattle.std.proofs.Common.{◌≡◌, ◌↔◌, ◌⊎◌, ℕ, ◌+◌, ◌*◌, Bool, true, false, cond, List, [], ◌∷◌}
use Rattle.std.proofs.Common.{length, Option, Some, None, refl, sym, ◌∙◌, ap, subst, arith}
use Rattle.std.specs.Bool.{IsTrue}
use Rattle.std.specs.Prelude.{IsSome, IsSomeAnd}
use Rattle.std.proofs.lemmas.List.{length-append}
use Rattle.std.proofs.lemmas.List.Sums.{sum_by-cons}
use Rattle.file_rows.specs.Content.{IsValid, file_at, heads_of, use_of}
use Rattle.file_rows.specs.Change.{IsRecordFor}
use Rattle.file_rows.specs.FileHead.{HasRecord}
use Rattle.file_rows.specs.Path.{same_path}
use Rattle.file_rows.specs.declared.head.Kind.TheVariants.{Cyclic}
use Rattle.file_rows.specs.declared.content.Content.{Content}
use Rattle.file_rows.specs.declared.head.FileHead.{FileHead}
use Rattle.file_rows.specs.declared.row.FileRow.{FileRow}
use Rattle.file_rows.proofs.EditLemmas.{is_some_and, some_is}
use Rattle.file_rows.proofs.FindLemmas.{found_has}
use Rattle.record_codec.proofs.SizeLemmas.{bodies}
use Rattle.card_journal.specs.Pool.{head_at}
use Rattle.card_journal.proofs.PoolLemmas.{IsSized, pooled_bytes}

-- the file whose head is found
pub found_row : (path : List ℕ) (rows : List FileRow) (head : FileHead)
    → head_at path (heads_of rows) ≡ Some head
    → (row : FileRow) × (file_at path rows ≡ Some row) × (row.head ≡ head)
found_row path [] head is = absurd (cc)
found_row path (row ∷ rows) head is =
    let step : (b : Bool) → cond b (Some row.head) (head_at path (heads_of rows)) ≡ Some head
    → (it : FileRow) × (cond b (Some row) (file_at path rows) ≡ Some it) × (it.head ≡ head)
    = λ b. elim b as (λ b. cond b (Some row.head) (head_at path (heads_of rows)) ≡ Some head
    → (it : FileRow) × (cond b (Some row) (file_at path rows) ≡ Some it) × (it.head ≡ head)) [
      | true ↦ λ e. let same : row.head ≡ head = cc in (row, refl, same)
      | false ↦ λ e. found_row path rows head e
    ]
    in step (same_path row.head.path path) is

-- where no head is found, no file is
pub no_row : (path : List ℕ) (rows : List FileRow) → head_at path (heads_of rows) ≡ None
    → file_at path rows ≡ None
no_row path [] is = refl
no_row path (row ∷ rows) is =
    let step : (b : Bool) → cond b (Some row.head) (head_at path (heads_of rows)) ≡ None
    → cond b (Some row) (file_at path rows) ≡ None
    = λ b. elim b as (λ b. cond b (Some row.head) (head_at path (heads_of rows)) ≡ None
    → cond b (Some row) (file_at path rows) ≡ None) [
      | true ↦ λ e. absurd (cc)
      | false ↦ λ e. no_row path rows e
    ]
    in step (same_path row.head.path path) is

-- a file that is found has a body of its size
pub found_sized : (content : Content) (path : List ℕ) (row : FileRow) → IsValid content
    → file_at path content.rows ≡ Some row → length row.body ≡ row.head.size
found_sized content path row valid found =
    found_has IsSized (λ r. same_path r.head.path path) content.rows row
    (bodies content valid) found

-- what is tested of a head that is found is so of its file
pub tested_row : (content : Content) (path : List ℕ) (head : FileHead) (r : Bool)
    (P : FileRow → Type 0) → head_at path (heads_of content.rows) ≡ Some head
    → ((row : FileRow) → file_at path content.rows ≡ Some row → row.head ≡ head
    → IsTrue r ↔ P row)
    → IsTrue r ↔ IsSomeAnd (file_at path content.rows) P
tested_row content path head r P is test =
    let it = found_row path content.rows head is in
    let same = test it.0 it.1 it.2 in (
      λ e. is_some_and (file_at path content.rows) P it.0 it.1 (same.0 e),
      λ said.
          let there = some_is (file_at path content.rows) P said in
          let one : Some there.0 ≡ Some it.0 = sym there.1 ∙ it.1 in
          let row : there.0 ≡ it.0 = cc in
          same.1 (subst P row there.2),
    )

-- where none is found nothing is so
pub tested_none : (content : Content) (path : List ℕ) (P : FileRow → Type 0)
    → head_at path (heads_of content.rows) ≡ None
    → IsTrue false ↔ IsSomeAnd (file_at path content.rows) P
tested_none content path P is = (
  λ e. absurd (cc),
  λ said. absurd (subst (λ (o : Option FileRow). IsSomeAnd o P) (no_row path content.rows is) said),
)

-- a file is there where its head is
pub there_alike : (path : List ℕ) (rows : List FileRow)
    → IsSome (head_at path (heads_of rows)) ↔ IsSome (file_at path rows)
there_alike path [] = (λ x. x, λ x. x)
there_alike path (row ∷ rows) =
    let rest = there_alike path rows in
    let step : (b : Bool) → IsSome (cond b (Some row.head) (head_at path (heads_of rows)))
    ↔ IsSome (cond b (Some row) (file_at path rows))
    = λ b. elim b as (λ b. IsSome (cond b (Some row.head) (head_at path (heads_of rows)))
    ↔ IsSome (cond b (Some row) (file_at path rows))) [
      | true ↦ (λ e. refl, λ e. refl)
      | false ↦ rest
    ]
    in step (same_path row.head.path path)

-- what files take of the quota: their bodies, and 32 bytes more for each
pub use_alike : (rows : List FileRow)
    → use_of rows ≡ length (pooled_bytes rows) + 32 * length (heads_of rows)
use_alike [] = omega arith
use_alike (row ∷ rows) =
    sum_by-cons (λ (r : FileRow). length r.body + 32) row rows
    ∙ omega (arith, use_alike rows, length-append row.body (pooled_bytes rows))

-- bytes that are a record for a head are one for its file
pub record_alike : (row : FileRow) (head : FileHead) (number : ℕ) (bytes : List ℕ)
    → row.head ≡ head → (r : Bool)
    → (IsTrue r ↔ ((length bytes ≡ head.record_len)
    × (HasRecord head number ⊎ ((number ≡ 0) × (head.kind ≡ Cyclic)))))
    → IsTrue r ↔ IsRecordFor row number bytes
record_alike row head number bytes same r test = (
  λ e. let is = test.0 e in record {
    exact = is.0 ∙ sym (ap (λ (h : FileHead). h.record_len) same);
    place = subst (λ (h : FileHead). HasRecord h number ⊎ ((number ≡ 0) × (h.kind ≡ Cyclic)))
        (sym same) is.1;
  },
  λ is. test.1 (
    is.exact ∙ ap (λ (h : FileHead). h.record_len) same,
    subst (λ (h : FileHead). HasRecord h number ⊎ ((number ≡ 0) × (h.kind ≡ Cyclic)))
        same is.place,
  ),
)
