-- Bodies one behind another.
use Rattle.std.proofs.Common.{◌≡◌, ℕ, zero, suc, ◌+◌, ◌*◌, ◌≤◌, List, [], ◌∷◌, ◌++◌, length, take}
use Rattle.std.proofs.Common.{drop, set, Some, refl, sym, ◌∙◌, ap, arith, append_assoc, add_assoc}
use Rattle.std.proofs.Common.{zero-add, append-nil}
use Rattle.std.specs.Prelude.{replicate, slice_get}
use Rattle.std.specs.List.{AllByRecursion, flat_map}
use Rattle.std.proofs.lemmas.List.{length-take-le, length-drop, length-append, length-replicate}
use Rattle.std.proofs.lemmas.List.{take-append-drop, drop-drop}
use Rattle.std.proofs.lemmas.List.Sums.{sum_by-append, sum_by-cons}
use Rattle.std.proofs.Math.Seq.{drop-append_seam, take-append_seam, take-add}
use Rattle.file_rows.specs.Change.{new_file}
use Rattle.file_rows.specs.Content.{heads_of, use_of}
use Rattle.file_rows.specs.declared.head.FileHead.{FileHead}
use Rattle.file_rows.specs.declared.row.FileRow.{FileRow}
use Rattle.record_codec.specs.Pooled.{pooled_rows, pooled_size}
use Rattle.record_codec.proofs.PooledLemmas.{size-cons}

-- the bodies of files, one behind another
abbrev pub pooled_bytes : List FileRow → List ℕ
pooled_bytes rows = flat_map (λ row. row.body) rows

abbrev pub IsSized : FileRow → Type 0
IsSized row = length row.body ≡ row.head.size

-- the heads are those that the files are made of
pub heads_of-pooled_rows : (heads : List FileHead) (bytes : List ℕ) → heads_of (pooled_rows heads bytes) ≡ heads
heads_of-pooled_rows [] bytes = refl
heads_of-pooled_rows (head ∷ heads) bytes = ap (λ (rest : List FileHead). head ∷ rest) (heads_of-pooled_rows heads (drop head.size bytes))

pub left_over : (size more : ℕ) (bytes : List ℕ) → size + more ≡ length bytes → (length (take size bytes) ≡ size) × (more ≡ length (drop size bytes))
left_over size more bytes fits =
    (length-take-le size bytes (omega (arith, fits)), omega (arith, fits, length-drop size bytes))

empty_by_length : (bytes : List ℕ) → 0 ≡ length bytes → [] ≡ bytes
empty_by_length [] e = refl
empty_by_length (byte ∷ bytes) e = absurd (omega (arith, e))

rest_of : (head : FileHead) (heads : List FileHead) (bytes : List ℕ) → pooled_size (head ∷ heads) ≡ length bytes
    → (length (take head.size bytes) ≡ head.size) × (pooled_size heads ≡ length (drop head.size bytes))
rest_of head heads bytes full = left_over head.size (pooled_size heads) bytes (sym (size-cons head heads) ∙ full)

pub pooled_bytes-pooled_rows : (heads : List FileHead) (bytes : List ℕ) → pooled_size heads ≡ length bytes → pooled_bytes (pooled_rows heads bytes) ≡ bytes
pooled_bytes-pooled_rows [] bytes full = empty_by_length bytes full
pooled_bytes-pooled_rows (head ∷ heads) bytes full =
    ap (λ (rest : List ℕ). take head.size bytes ++ rest) (pooled_bytes-pooled_rows heads (drop head.size bytes) (rest_of head heads bytes full).1)
    ∙ take-append-drop head.size bytes

pub sized-pooled_rows : (heads : List FileHead) (bytes : List ℕ) → pooled_size heads ≡ length bytes → AllByRecursion IsSized (pooled_rows heads bytes)
sized-pooled_rows [] bytes full = tt
sized-pooled_rows (head ∷ heads) bytes full =
    let rest : (length (take head.size bytes) ≡ head.size) × (pooled_size heads ≡ length (drop head.size bytes)) = rest_of head heads bytes full in
    (rest.0, sized-pooled_rows heads (drop head.size bytes) rest.1)

-- cut off at its size, a body is itself
pub cut : (body more : List ℕ) (size : ℕ) → length body ≡ size → (take size (body ++ more) ≡ body) × (drop size (body ++ more) ≡ more)
cut body more size e = (
  ap (λ (n : ℕ). take n (body ++ more)) (sym e) ∙ take-append_seam body more,
  ap (λ (n : ℕ). drop n (body ++ more)) (sym e) ∙ drop-append_seam body more,
)

row_cut : (head : FileHead) (heads : List FileHead) (body more : List ℕ) → length body ≡ head.size
    → pooled_rows (head ∷ heads) (body ++ more) ≡ record { head = head; body = body } ∷ pooled_rows heads more
row_cut head heads body more e =
    let parts : (take head.size (body ++ more) ≡ body) × (drop head.size (body ++ more) ≡ more) = cut body more head.size e in
    ap (λ (b : List ℕ). record { head = head; body = b } ∷ pooled_rows heads (drop head.size (body ++ more))) parts.0
    ∙ ap (λ (m : List ℕ). let row : FileRow = record { head = head; body = body } in row ∷ pooled_rows heads m) parts.1

pub pooled_rows-pooled_bytes : (rows : List FileRow) → AllByRecursion IsSized rows → pooled_rows (heads_of rows) (pooled_bytes rows) ≡ rows
pooled_rows-pooled_bytes [] each = refl
pooled_rows-pooled_bytes (row ∷ rows) each =
    row_cut row.head (heads_of rows) row.body (pooled_bytes rows) each.0
    ∙ ap (λ (rest : List FileRow). row ∷ rest) (pooled_rows-pooled_bytes rows each.1)

-- the bodies of sized files are as long as their heads say
pub size-heads_of : (rows : List FileRow) → AllByRecursion IsSized rows → pooled_size (heads_of rows) ≡ length (pooled_bytes rows)
size-heads_of [] each = refl
size-heads_of (row ∷ rows) each =
    size-cons row.head (heads_of rows)
    ∙ omega (arith, each.0, size-heads_of rows each.1, length-append row.body (pooled_bytes rows))

-- what the files take of the quota: their bytes, and 32 bytes more for each
pub use-pooled_rows : (heads : List FileHead) (bytes : List ℕ) → pooled_size heads ≡ length bytes → use_of (pooled_rows heads bytes) ≡ length bytes + 32 * length heads
use-pooled_rows [] bytes full = omega (arith, full)
use-pooled_rows (head ∷ heads) bytes full =
    let rest : (length (take head.size bytes) ≡ head.size) × (pooled_size heads ≡ length (drop head.size bytes)) = rest_of head heads bytes full in
    sum_by-cons (λ (row : FileRow). length row.body + 32) (record { head = head; body = take head.size bytes }) (pooled_rows heads (drop head.size bytes))
    ∙ omega (arith, rest.0, rest.1, use-pooled_rows heads (drop head.size bytes) rest.1, size-cons head heads, full)

-- an edit behind the first bytes, seen from there
shifted : (first start size : ℕ) (bytes body : List ℕ) → take (first + start) bytes ++ (body ++ drop (first + start + size) bytes)
    ≡ take first bytes ++ (take start (drop first bytes) ++ (body ++ drop (start + size) (drop first bytes)))
shifted first start size bytes body =
    ap (λ (xs : List ℕ). xs ++ (body ++ drop (first + start + size) bytes)) (take-add first start bytes)
    ∙ append_assoc (take first bytes) (take start (drop first bytes)) (body ++ drop (first + start + size) bytes)
    ∙ ap (λ (d : List ℕ). take first bytes ++ (take start (drop first bytes) ++ (body ++ d)))
    (ap (λ (n : ℕ). drop n bytes) (add_assoc first start size) ∙ sym (drop-drop (start + size) first bytes))

-- another file at a place, with a body as long as its head says
pub splice : (heads : List FileHead) (index : ℕ) (bytes : List ℕ) (head other : FileHead) (body : List ℕ) → pooled_size heads ≡ length bytes
    → slice_get heads index ≡ Some head → length body ≡ other.size
    → pooled_rows (set heads index other) (take (pooled_size (take index heads)) bytes ++ (body ++ drop (pooled_size (take index heads) + head.size) bytes))
    ≡ set (pooled_rows heads bytes) index (record { head = other; body = body })
splice [] index bytes head other body full there e = absurd (cc)
splice (it ∷ heads) zero bytes head other body full there e =
    let same : it ≡ head = cc in
    row_cut other heads body (drop (0 + head.size) bytes) e
    ∙ ap (λ (n : ℕ). let row : FileRow = record { head = other; body = body } in row ∷ pooled_rows heads (drop n bytes)) (zero-add head.size ∙ ap (λ (h : FileHead). h.size) (sym same))
splice (it ∷ heads) (suc index) bytes head other body full there e =
    let start = pooled_size (take index heads) in
    let rest = drop it.size bytes in
    let parts : (length (take it.size bytes) ≡ it.size) × (pooled_size heads ≡ length rest) = rest_of it heads bytes full in
    ap (λ (n : ℕ). pooled_rows (it ∷ set heads index other) (take n bytes ++ (body ++ drop (n + head.size) bytes))) (size-cons it (take index heads))
    ∙ ap (pooled_rows (it ∷ set heads index other)) (shifted it.size start head.size bytes body)
    ∙ row_cut it (set heads index other) (take it.size bytes) (take start rest ++ (body ++ drop (start + head.size) rest)) parts.0
    ∙ ap (λ (rows : List FileRow). let row : FileRow = record { head = it; body = take it.size bytes } in row ∷ rows) (splice heads index rest head other body parts.1 there e)

-- one file more takes as many bytes more
pub size-more : (heads : List FileHead) (head : FileHead) → pooled_size (heads ++ head ∷ []) ≡ pooled_size heads + head.size
size-more heads head = sum_by-append (λ (head : FileHead). head.size) heads (head ∷ []) ∙ omega (arith, size-cons head [])

-- another file at a place takes its own bytes in the place of those of the other
pub size-set : (heads : List FileHead) (index : ℕ) (head other : FileHead) → slice_get heads index ≡ Some head
    → pooled_size (set heads index other) + head.size ≡ pooled_size heads + other.size
size-set [] index head other there = absurd (cc)
size-set (it ∷ heads) zero head other there =
    let same : it ≡ head = cc in
    omega (arith, size-cons it heads, size-cons other heads, ap (λ (h : FileHead). h.size) same)
size-set (it ∷ heads) (suc index) head other there =
    omega (arith, size-cons it heads, size-cons it (set heads index other), size-set heads index head other there)

-- one file more, behind the others
pub row-more : (heads : List FileHead) (bytes body : List ℕ) (head : FileHead) → pooled_size heads ≡ length bytes → length body ≡ head.size
    → pooled_rows (heads ++ head ∷ []) (bytes ++ body) ≡ pooled_rows heads bytes ++ record { head = head; body = body } ∷ []
row-more [] bytes body head full e =
    ap (λ (b : List ℕ). pooled_rows (head ∷ []) (b ++ body)) (sym (empty_by_length bytes full))
    ∙ ap (λ (b : List ℕ). pooled_rows (head ∷ []) b) (sym (append-nil body))
    ∙ row_cut head [] body [] e
row-more (it ∷ heads) bytes body head full e =
    let rest = drop it.size bytes in
    let parts : (length (take it.size bytes) ≡ it.size) × (pooled_size heads ≡ length rest) = rest_of it heads bytes full in
    ap (λ (b : List ℕ). pooled_rows (it ∷ heads ++ head ∷ []) (b ++ body)) (sym (take-append-drop it.size bytes))
    ∙ ap (pooled_rows (it ∷ heads ++ head ∷ [])) (append_assoc (take it.size bytes) rest body)
    ∙ row_cut it (heads ++ head ∷ []) (take it.size bytes) (rest ++ body) parts.0
    ∙ ap (λ (rows : List FileRow). let row : FileRow = record { head = it; body = take it.size bytes } in row ∷ rows) (row-more heads rest body head parts.1 e)

-- where the quota has room for a file, so have the lists for its head and its body
pub room-more : (heads : List FileHead) (bytes : List ℕ) (size : ℕ) → pooled_size heads ≡ length bytes → use_of (pooled_rows heads bytes) + (size + 32) ≤ 65536
    → (length heads + 1 ≤ 2048) × (length bytes + size ≤ 65536)
room-more heads bytes size full room =
    let taken = use-pooled_rows heads bytes full in
    (omega (arith, taken, room), omega (arith, taken, room))

-- a file more whose body is FF
pub blank-more : (heads heads' : List FileHead) (bytes bytes' : List ℕ) (size : ℕ) (head : FileHead) → pooled_size heads ≡ length bytes
    → heads' ≡ heads ++ head ∷ [] → bytes' ≡ bytes ++ replicate size 255 → size ≡ head.size
    → (pooled_rows heads' bytes' ≡ pooled_rows heads bytes ++ new_file head ∷ []) × (pooled_size heads' ≡ length bytes')
blank-more heads heads' bytes bytes' size head full more blank e =
    let long : length (replicate head.size 255) ≡ head.size = length-replicate {A = ℕ} head.size 255 in (
      rw (more, blank, e) (row-more heads bytes (replicate head.size 255) head full long),
      rw (more, blank, e) (size-more heads head ∙ omega (arith, full, long, length-append bytes (replicate head.size 255))),
    )

-- a file more, with its head and its body
pub pushed-more : (heads heads' : List FileHead) (bytes bytes' : List ℕ) (row : FileRow) → pooled_size heads ≡ length bytes → length row.body ≡ row.head.size
    → heads' ≡ heads ++ row.head ∷ [] → bytes' ≡ bytes ++ row.body
    → (pooled_rows heads' bytes' ≡ pooled_rows heads bytes ++ row ∷ []) × (pooled_size heads' ≡ length bytes')
pushed-more heads heads' bytes bytes' row full long more pushed = (
  rw (more, pushed) (row-more heads bytes row.body row.head full long),
  rw (more, pushed) (size-more heads row.head ∙ omega (arith, full, long, length-append bytes row.body)),
)
