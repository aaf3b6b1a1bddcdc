-- The words of a line, taken from its start.
use Rattle.std.proofs.Common.{◌≡◌, ◌≢◌, ℕ, zero, suc, ◌+◌, ◌<◌, ◌==◌, Bool, true, false, List, []}
use Rattle.std.proofs.Common.{◌∷◌, ◌++◌, length, take, drop, slice_index, Option, Some, None}
use Rattle.std.proofs.Common.{unwrap_or, All, refl, sym, ap, ◌∙◌, arith, inl, inr, get_or-take}
use Rattle.std.proofs.Common.{take-append-drop}
use Rattle.std.specs.List.{filter}
use Rattle.std.proofs.lemmas.Bool.{cases_eq, eq-eqb, eqb-true, ne_eqb, cond-true}
use Rattle.std.proofs.lemmas.List.{drop_all, drop_more, take_all, length-take-le}
use Rattle.std.proofs.lemmas.List.Elements.{All-from_get_or}
use Rattle.std.proofs.lemmas.List.Splits.{slice_split_none, slice_split_at}
use Rattle.bstr.specs.Find.{IsFirstByte, is_byte}
use Rattle.bstr.specs.Bytes.{is_in, not_in}
use Rattle.script_text.specs.Words.{is_word, words}

-- a byte that ends a word
abbrev is_space : ℕ → Bool
is_space b = b == 32

-- no byte of the part ends a word
abbrev HasNoSpace : List ℕ → Type 0
HasNoSpace part = All (λ b. is_space b ≡ false) part

is_word-from_length : (part : List ℕ) → 0 < length part → is_word part ≡ true
is_word-from_length [] some = absurd (omega arith)
is_word-from_length (b ∷ bs) some = refl

-- a word with nothing behind it
words-last : (word : List ℕ) → 0 < length word → HasNoSpace word → words word ≡ word ∷ []
words-last word some none =
    ap (filter is_word) (slice_split_none is_space word none)
    ∙ cond-true (is_word word) (word ∷ []) [] (is_word-from_length word some)

-- a word with a space behind it
words-first : (word rest : List ℕ) → 0 < length word → HasNoSpace word
    → words (word ++ 32 ∷ rest) ≡ word ∷ words (32 ∷ rest)
words-first word rest some none =
    ap (filter is_word) (slice_split_at is_space word 32 rest none refl)
    ∙ cond-true (is_word word) (word ∷ words rest) (words rest) (is_word-from_length word some)

-- spaces at the start say nothing
words-drop : (n : ℕ) (line : List ℕ) → ((k : ℕ) → k < n → slice_index line k ≡ 32) → words line ≡ words (drop n line)
words-drop zero line spaces = refl
words-drop (suc n) [] spaces = refl
words-drop (suc n) (b ∷ line) spaces =
    let first : b ≡ 32 = spaces 0 (omega arith) in
    ap (λ (x : ℕ). words (x ∷ line)) first ∙ words-drop n line (λ k low. spaces (suc k) (omega arith))

-- a byte that isn't outside the set of the space is a space
space-from_not_in : (b : ℕ) → (not_in (32 ∷ []) b ≡ true → ⊥) → b ≡ 32
unfolding is_in
space-from_not_in b other = elim (cases_eq b 32) [
  | inl same ↦ same
  | inr differs ↦ absurd (other (rw (ne_eqb b 32 differs) refl))
]

other-from_not_in : (b : ℕ) → not_in (32 ∷ []) b ≡ true → b ≢ 32
unfolding is_in
other-from_not_in b is same = cc (sym is ∙ ap (not_in (32 ∷ [])) same)

-- a line of spaces alone has no word
pub words-none : (line : List ℕ) → IsFirstByte (not_in (32 ∷ [])) line None → words line ≡ []
words-none line none =
    words-drop (length line) line (λ k low. space-from_not_in (slice_index line k) (none k (omega arith) low))
    ∙ ap words (drop_all (length line) line (omega arith))

-- the word at the start of a line, up to a space or the end
words-first_word : (line : List ℕ) (r : Option ℕ) → 0 < length line → slice_index line 0 ≢ 32 → IsFirstByte (is_byte 32) line r
    → words line ≡ take (unwrap_or r (length line)) line ∷ words (drop (unwrap_or r (length line)) line)
words-first_word line None some other none =
    let spaceless : HasNoSpace line =
    All-from_get_or (λ b. is_space b ≡ false) line 0 (λ k low. ne_eqb (slice_index line k) 32 (λ same. none k (omega arith) low (eq-eqb (slice_index line k) 32 same))) in
    let whole : take (length line) line ≡ line = take_all (length line) line (omega arith) in
    let left : drop (length line) line ≡ [] = drop_all (length line) line (omega arith) in
    rw (whole, left) (words-last line some spaceless)
words-first_word line (Some end) some other found =
    let first = found.0 in
    let high = first.high in
    let space : slice_index line end ≡ 32 = eqb-true (slice_index line end) 32 found.1 in
    let later : 0 < end = elim (cases_eq end 0) [
      | inl start ↦ absurd (other (sym (ap (slice_index line) start) ∙ space))
      | inr positive ↦ omega arith
    ] in
    let long : length (take end line) ≡ end = length-take-le end line (omega arith) in
    let spaceless : HasNoSpace (take end line) =
    All-from_get_or (λ b. is_space b ≡ false) (take end line) 0 (λ k low.
    ne_eqb (slice_index (take end line) k) 32 (λ same.
    first.before k (omega arith) (omega arith) (eq-eqb (slice_index line k) 32 (sym (get_or-take end line k 0 (omega arith)) ∙ same)))) in
    let behind : drop end line ≡ 32 ∷ drop (end + 1) line =
    drop_more line end 0 (omega arith) ∙ ap (λ (b : ℕ). b ∷ drop (end + 1) line) space in
    let cut : line ≡ take end line ++ 32 ∷ drop (end + 1) line =
    sym (take-append-drop end line) ∙ ap (λ (l : List ℕ). take end line ++ l) behind in
    ap words cut ∙ words-first (take end line) (drop (end + 1) line) (omega arith) spaceless
    ∙ ap (λ (l : List ℕ). take end line ∷ words l) (sym behind)

-- the first word of a line that begins at a place, and the words behind it
pub words-some : (line rest : List ℕ) (start : ℕ) (r : Option ℕ) → IsFirstByte (not_in (32 ∷ [])) line (Some start)
    → rest ≡ drop start line → IsFirstByte (is_byte 32) rest r
    → words line ≡ take (unwrap_or r (length rest)) rest ∷ words (drop (unwrap_or r (length rest)) rest)
words-some line rest start r found is ends =
    let first = found.0 in
    let high = first.high in
    let cut : rest ≡ slice_index line start ∷ drop (start + 1) line = is ∙ drop_more line start 0 (omega arith) in
    let other : slice_index rest 0 ≢ 32 = λ same.
    other-from_not_in (slice_index line start) found.1 (sym (ap (λ (l : List ℕ). slice_index l 0) cut) ∙ same) in
    let long : 0 < length rest = omega (arith, ap length cut) in
    words-drop start line (λ k low. space-from_not_in (slice_index line k) (first.before k (omega arith) low))
    ∙ ap words (sym is) ∙ words-first_word rest r long other ends
