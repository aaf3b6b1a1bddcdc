use Rattle.std.proofs.Common.{◌≡◌, ◌≢◌, ◌↔◌, ℕ, ◌≤◌, ◌+◌, ◌-◌, Bool, true, false, ◌&&◌, ◌==◌, List}
use Rattle.std.proofs.Common.{[], ◌∷◌, ◌++◌, length, take, drop, refl, sym, ◌∙◌, ap, subst}
use Rattle.std.proofs.Common.{append_assoc, Some, arith}
use Rattle.std.proofs.lemmas.Bool.{true≢false}
use Rattle.std.proofs.lemmas.Bool.Decides.{Decides-eqb}
use Rattle.std.proofs.lemmas.List.{length-append, length-drop}
use Rattle.std.proofs.lemmas.Slice.Eq.{starts_is}
use Rattle.std.specs.Bool.{IsTrue}
use Rattle.std.specs.Prelude.{slice_get}
use Rattle.file_rows.specs.Path.{IsIn, is_in, own_id, parent_of, stands_below}
use Rattle.file_rows.proofs.FormLemmas.{directory_holds, directory_is}

get-append_last : (directory : List ℕ) (id : ℕ) → slice_get (directory ++ id ∷ []) (length directory) ≡ Some id
get-append_last [] id = refl
get-append_last (x ∷ directory) id = get-append_last directory id

pub own_id-append : (directory : List ℕ) (id : ℕ) → own_id (directory ++ id ∷ []) ≡ id
own_id-append directory id =
    let last : length (directory ++ id ∷ []) - 1 ≡ length directory = omega (arith, length-append directory (id ∷ [])) in
    rw (last, get-append_last directory id) refl

pub is_false : (b : Bool) → (b ≡ true → ⊥) → b ≡ false
is_false true h = absurd (h refl)
is_false false h = refl

pub not_zero : (n : ℕ) → n ≢ 0 → (n == 0) ≡ false
not_zero n some = is_false (n == 0) (λ e. some ((Decides-eqb n 0).0 e))

some_parent : (file : List ℕ) → 1 ≤ length file → parent_of file ≡ Some (take (length file - 1) file)
some_parent file some = rw (not_zero (length file) (omega (arith, some))) refl

-- the directory above a file is the one in which it stands
pub parent_is : (directory file : List ℕ) → (parent_of file ≡ Some directory) ↔ IsIn directory file
parent_is directory [] = (λ e. absurd (cc), λ inside. absurd (omega (arith, ap length inside.1, length-append directory (inside.0 ∷ []))))
parent_is directory (id ∷ file) = (
  λ e.
      let is : take (length (id ∷ file) - 1) (id ∷ file) ≡ directory = cc (some_parent (id ∷ file) (omega arith), e) in
      subst (λ (p : List ℕ). IsIn p (id ∷ file)) is (directory_holds (id ∷ file) (omega arith)),
  λ inside. some_parent (id ∷ file) (omega arith) ∙ ap (λ (p : List ℕ). Some p) (directory_is directory (id ∷ file) inside),
)

pub both_hold : (one other : Bool) → (one && other) ≡ true → (one ≡ true) × (other ≡ true)
both_hold true other e = (refl, e)
both_hold false other e = absurd (true≢false (sym e))

one_left : (rest : List ℕ) → length rest ≡ 1 → (id : ℕ) × (rest ≡ id ∷ [])
one_left [] e = absurd (omega (arith, e))
one_left (id ∷ []) e = (id, refl)
one_left (id ∷ other ∷ rest) e = absurd (omega (arith, e))

-- the test of whether a file stands in a directory
pub is_in-is : (directory file : List ℕ) → IsTrue (is_in directory file) ↔ IsIn directory file
is_in-is directory file = (
  λ e.
      let both = both_hold (stands_below directory file) (length file == length directory + 1) e in
      let whole : file ≡ directory ++ drop (length directory) file = (starts_is Decides-eqb file directory (stands_below directory file) refl).0 both.0 in
      let long : length file ≡ length directory + 1 = (Decides-eqb (length file) (length directory + 1)).0 both.1 in
      let last = one_left (drop (length directory) file) (omega (arith, long, length-drop (length directory) file)) in
      (last.0, whole ∙ ap (λ (rest : List ℕ). directory ++ rest) last.1),
  λ inside.
      let below : stands_below directory file ≡ true = (starts_is Decides-eqb file directory (stands_below directory file) refl).1 (inside.0 ∷ []) inside.1 in
      let long : length file ≡ length directory + 1 = ap length inside.1 ∙ length-append directory (inside.0 ∷ []) in
      rw (below, (Decides-eqb (length file) (length directory + 1)).1 long) refl,
)

-- a path below another begins with it
pub below_is : (top path : List ℕ) → stands_below top path ≡ true → path ≡ top ++ drop (length top) path
below_is top path below = (starts_is Decides-eqb path top (stands_below top path) refl).0 below

pub is_below : (top path rest : List ℕ) → path ≡ top ++ rest → stands_below top path ≡ true
is_below top path rest e = (starts_is Decides-eqb path top (stands_below top path) refl).1 rest e

-- what stands in a file below the top one does too
pub below_more : (top path more : List ℕ) → stands_below top path ≡ true → stands_below top (path ++ more) ≡ true
below_more top path more below =
    is_below top (path ++ more) (drop (length top) path ++ more)
    (ap (λ (p : List ℕ). p ++ more) (below_is top path below) ∙ append_assoc top (drop (length top) path) more)
