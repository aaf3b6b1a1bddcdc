-- The two descriptions of a text's lines give the same lines: std's, by the parts between line feeds, and that of the
-- crate bstr, line by line.
use Rattle.std.proofs.Common.{◌≡◌, ◌≢◌, ℕ, zero, suc, ◌+◌, ◌-◌, ◌<◌, ◌≤◌, ◌==◌, ◌&&◌, Bool, true}
use Rattle.std.proofs.Common.{false, cond, nat_lt, List, [], ◌∷◌, ◌++◌, length, map, take, drop}
use Rattle.std.proofs.Common.{slice_index, All, refl, sym, ap, ◌∙◌, arith, inl, inr, length-drop}
use Rattle.std.proofs.Common.{length-append}
use Rattle.std.specs.List.{slice_split, position_or_len, before_first, after_first}
use Rattle.std.specs.Str.Lines.{lines, lines_of_parts, strip_carriage_return}
use Rattle.std.proofs.lemmas.Bool.{cases_eq, cases_lt, eq-eqb, eqb-true, eqb-false, ne_eqb}
use Rattle.std.proofs.lemmas.Bool.{cond-true, cond-false, lt-ltb, and_right}
use Rattle.std.proofs.lemmas.List.{take_more, take_at, get_or_at}
use Rattle.std.proofs.lemmas.List.Elements.{All-from_get_or}
use Rattle.std.proofs.lemmas.List.Splits.{slice_split_none, slice_split_first, length-slice_split}
use Rattle.std.proofs.lemmas.List.Sums.{fails_before_first, passes_at_first}
use Rattle.bstr.specs.Text.{line_len, lines_of, no_cr, without_terminator}
use Rattle.bstr.proofs.lemmas.LineLemmas.{line_len-at, lines-step, lines-one, lines-empty}

abbrev is_feed : ℕ → Bool
is_feed b = b == 10

-- a part with a part behind it is a line
lines_of_parts-more : (part : List ℕ) (parts : List (List ℕ)) → 0 < length parts
    → lines_of_parts (part ∷ parts) ≡ strip_carriage_return part ∷ lines_of_parts parts
lines_of_parts-more part [] some = absurd (omega arith)
lines_of_parts-more part (next ∷ parts) some = refl

-- one carriage return is taken from the end
no_cr-strip : (bs : List ℕ) → no_cr bs ≡ strip_carriage_return bs
no_cr-strip [] = refl
no_cr-strip (b ∷ bs) =
    let line = b ∷ bs in
    let some : nat_lt 0 (length line) ≡ true = lt-ltb 0 (length line) (omega arith) in
    ap (λ (t : Bool). cond (t && (slice_index line (length line - 1) == 13)) (take (length line - 1) line) line) some

-- a line loses its line feed, and then a carriage return
without_terminator-feed : (bs : List ℕ) → without_terminator (bs ++ 10 ∷ []) ≡ strip_carriage_return bs
without_terminator-feed bs =
    let line = bs ++ 10 ∷ [] in
    let long = length-append bs (10 ∷ []) in
    let place : length line - 1 ≡ length bs = omega arith in
    let some : nat_lt 0 (length line) ≡ true = lt-ltb 0 (length line) (omega arith) in
    let last : slice_index line (length line - 1) ≡ 10 = get_or_at bs 10 [] 0 (length line - 1) (sym place) in
    let feed : (slice_index line (length line - 1) == 10) ≡ true = eq-eqb (slice_index line (length line - 1)) 10 last in
    let front : take (length line - 1) line ≡ bs = take_at bs (10 ∷ []) (length line - 1) (sym place) in
    let test : (nat_lt 0 (length line) && (slice_index line (length line - 1) == 10)) ≡ true =
    ap (λ (t : Bool). t && (slice_index line (length line - 1) == 10)) some ∙ feed in
    cond-true _ _ _ test ∙ ap no_cr front ∙ no_cr-strip bs

-- a line without a line feed at its end stays as it is
without_terminator-other : (bs : List ℕ) → slice_index bs (length bs - 1) ≢ 10 → without_terminator bs ≡ bs
without_terminator-other bs other =
    cond-false _ _ _ (and_right (nat_lt 0 (length bs)) (slice_index bs (length bs - 1) == 10) (ne_eqb (slice_index bs (length bs - 1)) 10 other))

-- a text whose first line ends at a place
lines-feed : (bs : List ℕ) → position_or_len is_feed bs < length bs
    → lines bs ≡ strip_carriage_return (before_first is_feed bs) ∷ lines (after_first is_feed bs)
lines-feed bs some =
    let rest = slice_split is_feed (after_first is_feed bs) in
    let more = length-slice_split is_feed (after_first is_feed bs) in
    ap lines_of_parts (slice_split_first is_feed bs 0 some)
    ∙ lines_of_parts-more (before_first is_feed bs) rest (omega arith)

lines_of-feed : (bs : List ℕ) → position_or_len is_feed bs < length bs
    → map without_terminator (lines_of bs) ≡ strip_carriage_return (before_first is_feed bs) ∷ map without_terminator (lines_of (after_first is_feed bs))
lines_of-feed bs some =
    let n = position_or_len is_feed bs in
    let feed : slice_index bs n ≡ 10 = eqb-true (slice_index bs n) 10 (passes_at_first is_feed bs 0 some) in
    let before : (k : ℕ) → k < n → slice_index bs k ≢ 10 = λ k low. eqb-false (slice_index bs k) 10 (fails_before_first is_feed bs k 0 low) in
    let len : line_len bs ≡ n + 1 = line_len-at bs n some feed before in
    let step : lines_of bs ≡ take (n + 1) bs ∷ lines_of (drop (n + 1) bs) =
    lines-step bs (omega arith) ∙ ap (λ (k : ℕ). take k bs ∷ lines_of (drop k bs)) len in
    let line : take (n + 1) bs ≡ take n bs ++ 10 ∷ [] = take_more bs n 0 some ∙ ap (λ (b : ℕ). take n bs ++ b ∷ []) feed in
    let first : without_terminator (take (n + 1) bs) ≡ strip_carriage_return (take n bs) =
    ap without_terminator line ∙ without_terminator-feed (take n bs) in
    ap (map without_terminator) step
    ∙ ap (λ (l : List ℕ). l ∷ map without_terminator (lines_of (drop (n + 1) bs))) first

-- a text without a line feed is one line, or none
lines-whole : (bs : List ℕ) → length bs ≤ position_or_len is_feed bs → map without_terminator (lines_of bs) ≡ lines bs
lines-whole bs all =
    let before : (k : ℕ) → k < length bs → slice_index bs k ≢ 10 = λ k low. eqb-false (slice_index bs k) 10 (fails_before_first is_feed bs k 0 (omega arith)) in
    let none : All (λ b. is_feed b ≡ false) bs = All-from_get_or (λ b. is_feed b ≡ false) bs 0 (λ k low. fails_before_first is_feed bs k 0 (omega arith)) in
    let parts : lines bs ≡ lines_of_parts (bs ∷ []) = ap lines_of_parts (slice_split_none is_feed bs none) in
    elim (cases_eq (length bs) 0) [
      | inl empty ↦
          ap (map without_terminator) (lines-empty bs empty)
          ∙ sym (parts ∙ cond-true (length bs == 0) [] (bs ∷ []) (eq-eqb (length bs) 0 empty))
      | inr some ↦
          let other : slice_index bs (length bs - 1) ≢ 10 = before (length bs - 1) (omega arith) in
          ap (map without_terminator) (lines-one bs (omega arith) (λ k low. before k (omega arith)))
          ∙ ap (λ (l : List ℕ). l ∷ []) (without_terminator-other bs other)
          ∙ sym (parts ∙ cond-false (length bs == 0) [] (bs ∷ []) (ne_eqb (length bs) 0 some))
    ]

same : (fuel : ℕ) (bs : List ℕ) → length bs ≤ fuel → map without_terminator (lines_of bs) ≡ lines bs
same zero bs short = lines-whole bs (omega arith)
same (suc fuel) bs short =
    elim (cases_lt (position_or_len is_feed bs) (length bs)) [
      | inl some ↦
          let rest = after_first is_feed bs in
          let left = length-drop (position_or_len is_feed bs + 1) bs in
          lines_of-feed bs some
          ∙ ap (λ (ls : List (List ℕ)). strip_carriage_return (before_first is_feed bs) ∷ ls) (same fuel rest (omega arith))
          ∙ sym (lines-feed bs some)
      | inr all ↦ lines-whole bs all
    ]

-- what the crate bstr gives are the lines
pub map-lines_of : (bs : List ℕ) → map without_terminator (lines_of bs) ≡ lines bs
map-lines_of bs = same (length bs) bs (omega arith)
