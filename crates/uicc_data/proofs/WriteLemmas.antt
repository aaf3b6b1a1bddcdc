-- Records of a file after one of them was written.
use Rattle.std.proofs.Common.{◌≡◌, ◌≢◌, ◌≤◌, ◌<◌, ◌+◌, ◌-◌, ◌*◌, ◌⊎◌, ℕ, zero, suc, List, [], ◌∷◌}
use Rattle.std.proofs.Common.{◌++◌, length, length-take-le, take, drop, append_assoc, refl, sym}
use Rattle.std.proofs.Common.{◌∙◌, ap, subst, inl, inr, arith}
use Rattle.std.proofs.Math.Seq.{drop-append-add, take-append_seam}
use Rattle.std.proofs.lemmas.Bool.{cases_lt}
use Rattle.std.proofs.lemmas.List.{drop-append-le, drop-drop, drop-take, length-append, length-drop}
use Rattle.std.proofs.lemmas.List.{take-append-le}
use Rattle.file_rows.specs.Change.{with_body, with_record}
use Rattle.file_rows.specs.FileHead.{HasRecord}
use Rattle.file_rows.specs.declared.row.FileRow.{FileRow}
use Rattle.uicc_data.proofs.ReadBackLemmas.{bytes_back}
use Rattle.uicc_data.specs.RecordWalk.{record_bytes}

one_more : (k len : ℕ) → suc k * len ≡ k * len + len
one_more k len = grind arith

-- the record that was written
pub record_written : (row : FileRow) (number : ℕ) (bytes : List ℕ) → length row.body ≡ row.head.size → HasRecord row.head number → length bytes ≡ row.head.record_len
    → record_bytes (with_body (with_record number bytes) row) number ≡ bytes
record_written row zero bytes whole has exact = absurd (omega (arith, has.first))
record_written row (suc k) bytes whole has exact =
    let before : suc k - 1 ≡ k = omega arith in
    let inside : k * length bytes + length bytes ≤ length row.body = omega (arith, has.last, whole, exact, ap (λ (n : ℕ). k * n) exact, one_more k row.head.record_len) in
    rw (before, ← exact) (bytes_back row.body (k * length bytes) bytes inside)

-- a new first record
pub first_written : (row : FileRow) (bytes : List ℕ) → length bytes ≡ row.head.record_len → record_bytes (with_body (with_record 0 bytes) row) 1 ≡ bytes
first_written row bytes exact =
    let none : (1 - 1) * row.head.record_len ≡ 0 = omega arith in
    rw (none, ← exact) (take-append_seam bytes (take (length row.body - length bytes) row.body))

-- a part of a list that doesn't reach its cut end
cut_part : (xs : List ℕ) (from len upto : ℕ) → from + len ≤ upto → take len (drop from (take upto xs)) ≡ take len (drop from xs)
cut_part xs from len upto inside =
    let split : upto ≡ from + (upto - from) = omega (arith, inside) in
    let fits : len ≤ upto - from = omega (arith, inside) in
    subst (λ (n : ℕ). take len (drop from (take n xs)) ≡ take len (drop from xs)) (sym split)
    (ap (λ (ys : List ℕ). take len ys) (drop-take from (upto - from) xs) ∙ take_less (drop from xs) len (upto - from) fits)
  where
    take_less : (ys : List ℕ) (n m : ℕ) → n ≤ m → take n (take m ys) ≡ take n ys
    take_less ys zero m below = refl
    take_less ys (suc n) zero below = absurd (omega (arith, below))
    take_less [] (suc n) (suc m) below = refl
    take_less (y ∷ ys) (suc n) (suc m) below = ap (λ (zs : List ℕ). y ∷ zs) (take_less ys n m (omega (arith, below)))

-- and each other one is one further
pub later_written : (row : FileRow) (number : ℕ) (bytes : List ℕ) → length row.body ≡ row.head.size → HasRecord row.head (number + 1) → 1 ≤ number → length bytes ≡ row.head.record_len
    → record_bytes (with_body (with_record 0 bytes) row) (number + 1) ≡ record_bytes row number
later_written row zero bytes whole has some exact = absurd (omega (arith, some))
later_written row (suc k) bytes whole has some exact =
    let len : ℕ = row.head.record_len in
    let before : suc k - 1 ≡ k = omega arith in
    let start : (suc k + 1 - 1) * row.head.record_len ≡ length bytes + k * row.head.record_len =
    ap (λ (n : ℕ). n * row.head.record_len) (let e : suc k + 1 - 1 ≡ suc k = omega arith in e) ∙ omega (arith, one_more k row.head.record_len, exact) in
    let inside : k * row.head.record_len + row.head.record_len ≤ length row.body - length bytes =
    omega (arith, has.last, whole, exact, one_more k row.head.record_len, one_more (suc k) row.head.record_len, ap (λ (n : ℕ). n * row.head.record_len) (let e : suc k + 1 ≡ suc (suc k) = omega arith in e)) in
    rw (start, before, drop-append-add bytes (take (length row.body - length bytes) row.body) (k * row.head.record_len))
    (cut_part row.body (k * row.head.record_len) row.head.record_len (length row.body - length bytes) inside)

-- a part that ends before the place where bytes are written, or begins behind them
part_before : (xs bytes rest : List ℕ) (from at n : ℕ) → from + n ≤ at → at ≤ length xs → take n (drop from ((take at xs ++ bytes) ++ rest)) ≡ take n (drop from xs)
part_before xs bytes rest from at n inside fits =
    let front : length (take at xs) ≡ at = length-take-le at xs fits in
    let left : length (drop from (take at xs)) ≡ at - from = length-drop from (take at xs) ∙ ap (λ (k : ℕ). k - from) front in
    ap (λ (ys : List ℕ). take n (drop from ys)) (append_assoc (take at xs) bytes rest)
    ∙ ap (λ (ys : List ℕ). take n ys) (drop-append-le from (take at xs) (bytes ++ rest) (omega (arith, front, inside)))
    ∙ take-append-le n (drop from (take at xs)) (bytes ++ rest) (omega (arith, left, inside))
    ∙ cut_part xs from n at inside

part_behind : (xs bytes : List ℕ) (from at : ℕ) → at + length bytes ≤ from → at ≤ length xs → drop from ((take at xs ++ bytes) ++ drop (at + length bytes) xs) ≡ drop from xs
part_behind xs bytes from at behind fits =
    let front : length (take at xs ++ bytes) ≡ at + length bytes = length-append (take at xs) bytes ∙ ap (λ (k : ℕ). k + length bytes) (length-take-le at xs fits) in
    let split : from ≡ length (take at xs ++ bytes) + (from - (at + length bytes)) = omega (arith, front, behind) in
    let whole : at + length bytes + (from - (at + length bytes)) ≡ from = omega (arith, behind) in
    ap (λ (k : ℕ). drop k ((take at xs ++ bytes) ++ drop (at + length bytes) xs)) split
    ∙ drop-append-add (take at xs ++ bytes) (drop (at + length bytes) xs) (from - (at + length bytes))
    ∙ drop-drop (from - (at + length bytes)) (at + length bytes) xs
    ∙ ap (λ (k : ℕ). drop k xs) whole

-- at another place of the same length nothing changes
other_part : (xs bytes : List ℕ) (j k : ℕ) → j ≢ k → k * length bytes + length bytes ≤ length xs
    → take (length bytes) (drop (j * length bytes) ((take (k * length bytes) xs ++ bytes) ++ drop (k * length bytes + length bytes) xs)) ≡ take (length bytes) (drop (j * length bytes) xs)
other_part xs bytes j k apart inside = either (cases_lt j k) (cases_lt k j)
  where
    ends : (j k len : ℕ) → j < k → j * len + len ≤ k * len
    ends j k len below = grind arith

    either : (j < k) ⊎ (k ≤ j) → (k < j) ⊎ (j ≤ k)
        → take (length bytes) (drop (j * length bytes) ((take (k * length bytes) xs ++ bytes) ++ drop (k * length bytes + length bytes) xs)) ≡ take (length bytes) (drop (j * length bytes) xs)
    either (inl below) other =
        part_before xs bytes (drop (k * length bytes + length bytes) xs) (j * length bytes) (k * length bytes) (length bytes) (ends j k (length bytes) below) (omega (arith, inside))
    either (inr up) (inl above) =
        ap (λ (ys : List ℕ). take (length bytes) ys) (part_behind xs bytes (j * length bytes) (k * length bytes) (ends k j (length bytes) above) (omega (arith, inside)))
    either (inr up) (inr down) = let same : j ≡ k = omega (arith, up, down) in absurd (apart same)

-- every other record stays
pub other_written : (row : FileRow) (number other : ℕ) (bytes : List ℕ) → length row.body ≡ row.head.size → HasRecord row.head number → HasRecord row.head other → other ≢ number
    → length bytes ≡ row.head.record_len → record_bytes (with_body (with_record number bytes) row) other ≡ record_bytes row other
other_written row zero other bytes whole has its apart exact = absurd (omega (arith, has.first))
other_written row (suc k) zero bytes whole has its apart exact = absurd (omega (arith, its.first))
other_written row (suc k) (suc j) bytes whole has its apart exact =
    let before : suc j - 1 ≡ j = omega arith in
    let inside : k * length bytes + length bytes ≤ length row.body = omega (arith, has.last, whole, exact, ap (λ (n : ℕ). k * n) exact, one_more k row.head.record_len) in
    rw (before, ← exact) (other_part row.body bytes j k (λ same. apart (ap suc same)) inside)
