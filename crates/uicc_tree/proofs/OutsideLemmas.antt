-- How much of the quota the files take that don't stand below one.
use Rattle.std.proofs.Common.{◌≡◌, ℕ, ◌+◌, ◌<◌, ◌≤◌, Bool, true, false, cond, not, List, [], ◌∷◌}
use Rattle.std.proofs.Common.{map, filter, drop, length, get_or, refl, ◌∙◌, ap, Contains, ⊎_elim}
use Rattle.std.proofs.Common.{subst, arith}
use Rattle.std.proofs.lemmas.List.{drop_more}
use Rattle.std.proofs.lemmas.List.Sums.{sum_by-cons}
use Rattle.file_rows.specs.Content.{use_of}
use Rattle.file_rows.specs.Path.{stands_below}
use Rattle.file_rows.specs.declared.row.FileRow.{FileRow}
use Rattle.file_rows.proofs.ListLemmas.{contains_cases, sum_by-filter}
use Rattle.uicc_tree.specs.Arena.{use_outside}
use Rattle.uicc_tree.proofs.GivesLemmas.{nothing_there}

abbrev pub outside : List ℕ → List FileRow → List FileRow
outside top rows = filter (λ row. not (stands_below top row.head.path)) rows

use_first : (top : List ℕ) (row : FileRow) (rows : List FileRow) → use_of (outside top (row ∷ rows)) ≡ use_outside top row + use_of (outside top rows)
use_first top row rows =
    let step : (b : Bool) → use_of (cond (not b) (row ∷ outside top rows) (outside top rows)) ≡ cond b 0 (length row.body + 32) + use_of (outside top rows)
    = λ b. elim b as (λ b. use_of (cond (not b) (row ∷ outside top rows) (outside top rows)) ≡ cond b 0 (length row.body + 32) + use_of (outside top rows)) [
      | true ↦ omega arith
      | false ↦ sum_by-cons (λ (r : FileRow). length r.body + 32) row (outside top rows)
    ]
    in step (stands_below top row.head.path)

-- a file more is counted
pub use_next : (f : ℕ → FileRow) (top : List ℕ) (nodes : List ℕ) (i : ℕ) → i < length nodes
    → use_of (outside top (map f (drop i nodes))) ≡ use_outside top (f (get_or nodes i 0)) + use_of (outside top (map f (drop (i + 1) nodes)))
use_next f top nodes i within =
    ap (λ (ns : List ℕ). use_of (outside top (map f ns))) (drop_more nodes i 0 within) ∙ use_first top (f (get_or nodes i 0)) (map f (drop (i + 1) nodes))

-- they take no more than all files
pub outside_le : (top : List ℕ) (rows : List FileRow) → use_of (outside top rows) ≤ use_of rows
outside_le top rows = sum_by-filter (λ (r : FileRow). length r.body + 32) (λ row. not (stands_below top row.head.path)) rows

-- one file takes no more than all
pub use_one : (f : ℕ → FileRow) (nodes : List ℕ) (node : ℕ) → Contains nodes node → length (f node).body + 32 ≤ use_of (map f nodes)
use_one f [] node there = absurd (nothing_there f [] node refl there)
use_one f (n ∷ nodes) node there = ⊎_elim
    (λ same. subst (λ (k : ℕ). length (f k).body + 32 ≤ use_of (map f (n ∷ nodes))) same (omega (arith, sum_by-cons (λ (r : FileRow). length r.body + 32) (f n) (map f nodes))))
    (λ later. omega (arith, use_one f nodes node later, sum_by-cons (λ (r : FileRow). length r.body + 32) (f n) (map f nodes)))
    (contains_cases n nodes node there)
