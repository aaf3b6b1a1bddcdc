-- Files as their heads and one list of bytes.
use Rattle.std.proofs.Common.{◌≡◌, ℕ, zero, suc, ◌+◌, ◌≤◌, List, [], ◌∷◌, ◌++◌, length, take, drop}
use Rattle.std.proofs.Common.{Some, refl, sym, ◌∙◌, ap, subst, arith}
use Rattle.std.specs.Prelude.{slice_get}
use Rattle.std.specs.List.{AllByRecursion, flat_map}
use Rattle.std.proofs.lemmas.Grind.{flat_map-append}
use Rattle.std.proofs.lemmas.List.{append-nil, drop-drop, length-drop, length-take}
use Rattle.std.proofs.lemmas.List.Sums.{sum_by-cons}
use Rattle.file_rows.specs.declared.head.FileHead.{FileHead}
use Rattle.file_rows.specs.declared.row.FileRow.{FileRow}
use Rattle.record_codec.specs.Pooled.{pooled_rows, pooled_size}
use Rattle.record_codec.specs.Sizes.{HasFileSizes}
use Rattle.record_codec.specs.Spelling.{file}
use Rattle.record_codec.specs.Window.{Puts}
use Rattle.record_codec.specs.declared.window.Place.{Place}
use Rattle.record_codec.proofs.WindowLemmas.{puts_nothing, then}

abbrev IsSized : FileRow → Type 0
IsSized row = length row.body ≡ row.head.size

-- the file with this head, cut off the bytes
abbrev pub row_of : FileHead → List ℕ → FileRow
row_of head bytes = record { head = head; body = take head.size bytes }

pub size-cons : (head : FileHead) (heads : List FileHead)
    → pooled_size (head ∷ heads) ≡ head.size + pooled_size heads
size-cons head heads = sum_by-cons (λ (head : FileHead). head.size) head heads

-- one element further
pub take-one : {X : Type 0} (xs : List X) (k : ℕ) (x : X) → slice_get xs k ≡ Some x
    → take (suc k) xs ≡ take k xs ++ x ∷ []
take-one [] k x there = absurd (cc)
take-one (y ∷ ys) zero x there =
    let same : y ≡ x = cc in
    ap (λ z. z ∷ []) same
take-one (y ∷ ys) (suc k) x there = ap (λ zs. y ∷ zs) (take-one ys k x there)

-- one file further
pub size-one : (heads : List FileHead) (k : ℕ) (head : FileHead) → slice_get heads k ≡ Some head
    → pooled_size (take (suc k) heads) ≡ pooled_size (take k heads) + head.size
size-one [] k head there = absurd (cc)
size-one (it ∷ heads) zero head there =
    let same : it ≡ head = cc in
    omega (arith, size-cons it [], ap (λ (h : FileHead). h.size) same)
size-one (it ∷ heads) (suc k) head there =
    omega (
      arith,
      size-cons it (take (suc k) heads),
      size-cons it (take k heads),
      size-one heads k head there,
    )

-- the file at a place
pub row-at : (heads : List FileHead) (index : ℕ) (bytes : List ℕ) (head : FileHead)
    → slice_get heads index ≡ Some head
    → slice_get (pooled_rows heads bytes) index
    ≡ Some (row_of head (drop (pooled_size (take index heads)) bytes))
row-at [] index bytes head there = absurd (cc)
row-at (it ∷ heads) zero bytes head there =
    let same : it ≡ head = cc in
    ap (λ (h : FileHead). Some (row_of h bytes)) same
row-at (it ∷ heads) (suc index) bytes head there =
    row-at heads index (drop it.size bytes) head there
    ∙ ap (λ (b : List ℕ). Some (row_of head b))
    (drop-drop (pooled_size (take index heads)) it.size bytes
    ∙ ap (λ (n : ℕ). drop n bytes) (sym (size-cons it (take index heads))))

-- the bytes up to the end of a file's body are among those of all
pub start-within : (heads : List FileHead) (index : ℕ) (head : FileHead)
    → slice_get heads index ≡ Some head
    → pooled_size (take index heads) + head.size ≤ pooled_size heads
start-within [] index head there = absurd (cc)
start-within (it ∷ heads) zero head there =
    let same : it ≡ head = cc in
    omega (arith, size-cons it heads, ap (λ (h : FileHead). h.size) same)
start-within (it ∷ heads) (suc index) head there =
    omega (
      arith,
      size-cons it heads,
      size-cons it (take index heads),
      start-within heads index head there,
    )

-- as many files as heads
pub length-pooled_rows : (heads : List FileHead) (bytes : List ℕ)
    → length (pooled_rows heads bytes) ≡ length heads
length-pooled_rows [] bytes = refl
length-pooled_rows (head ∷ heads) bytes = ap suc (length-pooled_rows heads (drop head.size bytes))

-- where each body is as long as its head says, the bytes are enough for all
pub sized-fits : (heads : List FileHead) (bytes : List ℕ)
    → AllByRecursion IsSized (pooled_rows heads bytes) → pooled_size heads ≤ length bytes
sized-fits [] bytes each = omega arith
sized-fits (head ∷ heads) bytes each =
    omega (
      arith,
      size-cons head heads,
      sized-fits heads (drop head.size bytes) each.1,
      each.0,
      length-take head.size bytes,
      length-drop head.size bytes,
    )

pub all-more : {X : Type 0} (P : X → Type 0) (xs : List X) (x : X) → AllByRecursion P xs → P x
    → AllByRecursion P (xs ++ x ∷ [])
all-more P [] x each here = (here, tt)
all-more P (y ∷ ys) x each here = (each.0, all-more P ys x each.1 here)

-- what is put up to a file, and of it too
pub record PutUpTo (heads : List FileHead) (bytes : List ℕ) (k start : ℕ) (first : Place)
    (out : List ℕ) (now : Place) (after : List ℕ) : Type 0 where
  pub begin : start ≡ pooled_size (take k heads)
  pub puts : Puts (flat_map file (take k (pooled_rows heads bytes))) first out now after
  pub sizes : AllByRecursion HasFileSizes (take k (pooled_rows heads bytes))

pub put-first : (heads : List FileHead) (bytes : List ℕ) (first : Place) (out : List ℕ)
    → PutUpTo heads bytes 0 0 first out first out
put-first heads bytes first out =
    record { begin = refl; puts = puts_nothing first out; sizes = tt }

pub put-one : (heads : List FileHead) (bytes : List ℕ) (k start : ℕ) (head : FileHead)
    (first : Place) (out : List ℕ) (before : Place) (mid : List ℕ) (now : Place) (after : List ℕ)
    → slice_get heads k ≡ Some head → PutUpTo heads bytes k start first out before mid
    → Puts (file (row_of head (drop start bytes))) before mid now after
    → HasFileSizes (row_of head (drop start bytes))
    → PutUpTo heads bytes (k + 1) (start + head.size) first out now after
put-one heads bytes k start head first out before mid now after there so_far puts sizes =
    let up : k + 1 ≡ suc k = omega arith in
    let row : FileRow = row_of head (drop start bytes) in
    let rows = take k (pooled_rows heads bytes) in
    let more : take (k + 1) (pooled_rows heads bytes) ≡ rows ++ row ∷ [] =
    ap (λ (n : ℕ). take n (pooled_rows heads bytes)) up
    ∙ take-one (pooled_rows heads bytes) k row
    (row-at heads k bytes head there
    ∙ ap (λ (n : ℕ). Some (row_of head (drop n bytes))) (sym so_far.begin)) in
    let text : flat_map file (rows ++ row ∷ []) ≡ flat_map file rows ++ file row =
    flat_map-append file rows (row ∷ [])
    ∙ ap (λ (l : List ℕ). flat_map file rows ++ l) (append-nil (file row)) in
    record {
      begin = ap (λ (n : ℕ). n + head.size) so_far.begin ∙ sym (size-one heads k head there)
          ∙ ap (λ (n : ℕ). pooled_size (take n heads)) (sym up);
      puts = subst (λ (rs : List FileRow). Puts (flat_map file rs) first out now after) (sym more)
          (subst (λ (l : List ℕ). Puts l first out now after) (sym text) (then so_far.puts puts));
      sizes = subst (AllByRecursion HasFileSizes) (sym more)
          (all-more HasFileSizes rows row so_far.sizes sizes);
    }
