-- Rows as lists of bytes.
use Rattle.std.proofs.Common.{◌≡◌, inl, inr, ℕ, zero, suc, ◌+◌, ◌-◌, ◌^◌, ◌<◌, ◌≤◌, List, [], ◌∷◌}
use Rattle.std.proofs.Common.{◌++◌, length, get_or, min, take, drop, refl, sym, ◌∙◌, ap, arith}
use Rattle.std.proofs.Common.{append_assoc, append-nil, length-append, length-drop}
use Rattle.std.proofs.Common.{take-append-drop}
use Rattle.std.specs.Int.{to_be_bytes, from_be_bytes, w32}
use Rattle.std.proofs.lemmas.List.{take_at, drop_at, length-take-le}
use Rattle.std.proofs.lemmas.Nat.{be_bytes_4, from_be_bytes-to_be_bytes_4}
use Rattle.std.proofs.lemmas.List.{take-append-le, drop-append-le, take_all, drop_all, take-take}
use Rattle.std.proofs.lemmas.List.{length-take}
use Rattle.std.proofs.lemmas.Bool.{cases_eq}
use Rattle.std.proofs.Math.Seq.{take-append-add}
use Rattle.flash_pages.specs.Rows.{behind_gate, row_of, BeginsWithRow}

pub length-of_length : (n : ℕ) → length (to_be_bytes w32 n) ≡ 4
length-of_length n = refl

pub length-behind_gate : (body : List ℕ) → length (behind_gate body) ≡ 4 + length body
length-behind_gate body = length-append (to_be_bytes w32 (length body)) body

pub length-row_of : (body : List ℕ) → length (row_of body) ≡ 5 + length body
length-row_of body = omega (arith, length-behind_gate body)

-- an open row of which there is enough
pub opens : (bs more : List ℕ) (len : ℕ) → length bs ≡ 4 → ((i : ℕ) → get_or bs i 0 < 256)
    → len ≡ from_be_bytes w32 bs → len ≤ length more
    → (body : List ℕ) × BeginsWithRow (0 ∷ bs ++ more) body × (length body ≡ len)
opens bs more len four bytes is enough =
    let size : length (take len more) ≡ len = length-take-le len more enough in
    let spelled : to_be_bytes w32 (length (take len more)) ≡ bs =
    ap (to_be_bytes w32) size ∙ be_bytes_4 bs len four bytes is in (
      take len more,
      (
        drop len more,
        ap (λ (l : List ℕ). 0 ∷ bs ++ l) (sym (take-append-drop len more))
            ∙ ap (λ (l : List ℕ). 0 ∷ l) (sym (append_assoc bs (take len more) (drop len more)))
            ∙ ap (λ (l : List ℕ). 0 ∷ ((l ++ take len more) ++ drop len more)) (sym spelled),
      ),
      size,
    )

-- one of which there isn't
pub overruns : (bs more : List ℕ) (len : ℕ) → length bs ≡ 4 → len ≡ from_be_bytes w32 bs
    → length more < len
    → (body : List ℕ) → length body < 2 ^ 32 → BeginsWithRow (0 ∷ bs ++ more) body → ⊥
overruns bs more len four is short body small (rest, row) =
    let spelled = to_be_bytes w32 (length body) in
    let tails : bs ++ more ≡ (spelled ++ body) ++ rest = cc in
    let split : bs ++ more ≡ spelled ++ (body ++ rest) = tails ∙ append_assoc spelled body rest in
    let same_length : bs ≡ spelled =
    sym (take_at bs more 4 four) ∙ ap (take 4) split ∙ take_at spelled (body ++ rest) 4 refl in
    let same_rest : more ≡ body ++ rest =
    sym (drop_at bs more 4 four) ∙ ap (drop 4) split ∙ drop_at spelled (body ++ rest) 4 refl in
    let size : len ≡ length body =
    is ∙ ap (from_be_bytes w32) same_length ∙ from_be_bytes-to_be_bytes_4 (length body) small in
    omega (arith, ap length same_rest, length-append body rest)

-- too few bytes for a head
pub too_short : (bytes body : List ℕ) → length bytes < 5 → BeginsWithRow bytes body → ⊥
too_short bytes body short (rest, row) =
    omega (arith, ap length row, length-append (row_of body) rest, length-row_of body)

-- the bytes of the length in a head
abbrev pub length_bytes : List ℕ → List ℕ
length_bytes head = get_or head 1 0 ∷ get_or head 2 0 ∷ get_or head 3 0 ∷ get_or head 4 0 ∷ []

-- a head of five bytes
pub five : (head : List ℕ) → length head ≡ 5
    → head ≡ get_or head 0 0 ∷ length_bytes head
five [] h = absurd (omega arith)
five (a ∷ []) h = absurd (omega arith)
five (a ∷ b ∷ []) h = absurd (omega arith)
five (a ∷ b ∷ c ∷ []) h = absurd (omega arith)
five (a ∷ b ∷ c ∷ d ∷ []) h = absurd (omega arith)
five (a ∷ b ∷ c ∷ d ∷ e ∷ []) h = refl
five (a ∷ b ∷ c ∷ d ∷ e ∷ f ∷ more) h = absurd (omega arith)

length_bytes_small : (head : List ℕ) → ((i : ℕ) → get_or head i 0 < 256) → (i : ℕ)
    → get_or (length_bytes head) i 0 < 256
length_bytes_small head small zero = small 1
length_bytes_small head small (suc zero) = small 2
length_bytes_small head small (suc (suc zero)) = small 3
length_bytes_small head small (suc (suc (suc zero))) = small 4
length_bytes_small head small (suc (suc (suc (suc i)))) = omega arith

-- what the head of an open row says
pub opens_at : (head rest : List ℕ) (len : ℕ) → length head ≡ 5 → get_or head 0 0 ≡ 0
    → ((i : ℕ) → get_or head i 0 < 256) → len ≡ from_be_bytes w32 (length_bytes head)
    → head ≡ take 5 rest
    → len ≤ length (drop 5 rest) → (body : List ℕ) × BeginsWithRow rest body × (length body ≡ len)
opens_at head rest len long gate small is prefix enough =
    let found = opens (length_bytes head) (drop 5 rest) len refl
    (length_bytes_small head small) is enough in
    let whole : rest ≡ 0 ∷ length_bytes head ++ drop 5 rest =
    sym (take-append-drop 5 rest)
    ∙ ap (λ (l : List ℕ). l ++ drop 5 rest) (sym prefix ∙ five head long)
    ∙ ap (λ (g : ℕ). g ∷ length_bytes head ++ drop 5 rest) gate in
    (found.0, (found.1.0, whole ∙ found.1.1), found.2)

pub overruns_at : (head rest : List ℕ) (len : ℕ) → length head ≡ 5 → get_or head 0 0 ≡ 0
    → len ≡ from_be_bytes w32 (length_bytes head) → head ≡ take 5 rest
    → length (drop 5 rest) < len → (body : List ℕ) → length body < 2 ^ 32 → BeginsWithRow rest body
    → ⊥
overruns_at head rest len long gate is prefix short body small (more, row) =
    let whole : rest ≡ 0 ∷ length_bytes head ++ drop 5 rest =
    sym (take-append-drop 5 rest)
    ∙ ap (λ (l : List ℕ). l ++ drop 5 rest) (sym prefix ∙ five head long)
    ∙ ap (λ (g : ℕ). g ∷ length_bytes head ++ drop 5 rest) gate in
    overruns (length_bytes head) (drop 5 rest) len refl is short body small (more, sym whole ∙ row)

-- length and body filled into a buffer in two steps
module _ (spelled body out : List ℕ) (at n : ℕ) (four : length spelled ≡ 4) (within : at < 4)
    (fits : at + length out ≤ 4 + length body) where
  abbrev left : List ℕ
  left = take (4 - at) (drop at spelled)

  left-is : left ≡ drop at spelled
  left-is = take_all (4 - at) (drop at spelled) (omega (arith, length-drop at spelled))

  left-length : length left ≡ 4 - at
  left-length = ap length left-is ∙ length-drop at spelled ∙ ap (λ (k : ℕ). k - at) four

  both : n ≡ min (length out) (4 - at)
      → take n left ++ take (length out - n) body ≡ take (length out) (drop at (spelled ++ body))
  both is =
      prefix ∙ ap (λ (l : List ℕ). take (length out) (l ++ body)) left-is
      ∙ ap (take (length out)) (sym (drop-append-le at spelled body (omega arith)))
    where
      prefix : take n left ++ take (length out - n) body ≡ take (length out) (left ++ body)
      prefix = elim (cases_eq n (4 - at)) [
        | inl whole ↦
            let all : take n left ≡ left = take_all n left (omega (arith, left-length)) in
            let total : length left + (length out - n) ≡ length out = omega (arith, left-length) in
            ap (λ (l : List ℕ). l ++ take (length out - n) body) all
            ∙ sym (take-append-add left body (length out - n))
            ∙ ap (λ (k : ℕ). take k (left ++ body)) total
        | inr part_only ↦
            let short : n ≡ length out = omega arith in
            let none : length out - n ≡ 0 = omega arith in
            ap (λ (k : ℕ). take n left ++ take k body) none ∙ append-nil (take n left)
            ∙ ap (λ (k : ℕ). take k left) short
            ∙ sym (take-append-le (length out) left body (omega (arith, left-length)))
      ]

  pub filled_both : (buffer filled : List ℕ) (r : ℕ) → n ≡ min (length out) (length left)
      → buffer ≡ take n left ++ drop n out
      → r ≡ min (length (take (length buffer - n) (drop n buffer))) (length body - 0)
      → filled ≡ take r body ++ drop r (take (length buffer - n) (drop n buffer))
      → take n buffer ++ (filled ++ drop (length buffer - n) (drop n buffer)) ≡ take (length out)
      (drop at (spelled ++ body))
  filled_both buffer filled r is copied count fill =
      let is_min : n ≡ min (length out) (4 - at) = is ∙ ap (min (length out)) left-length in
      let prefix_length : length (take n left) ≡ n =
      length-take-le n left (omega (arith, left-length, is_min)) in
      let size : length buffer ≡ length out =
      omega (
        arith,
        ap length copied,
        length-append (take n left)
            (drop n out),
        length-drop n out,
        prefix_length,
        is_min,
      ) in
      let prefix : take n buffer ≡ take n left =
      ap (take n) copied ∙ take_at (take n left) (drop n out) n prefix_length in
      let rest_length : length (drop n buffer) ≡ length buffer - n = length-drop n buffer in
      let rest : take (length buffer - n) (drop n buffer) ≡ drop n buffer =
      take_all (length buffer - n) (drop n buffer) (omega (arith, rest_length)) in
      let none : drop (length buffer - n) (drop n buffer) ≡ [] =
      drop_all (length buffer - n) (drop n buffer) (omega (arith, rest_length)) in
      let r_is : r ≡ length out - n =
      omega (arith, count, ap length rest, rest_length, size, is_min, fits, within) in
      let no_more : drop r (take (length buffer - n) (drop n buffer)) ≡ [] =
      drop_all r (take (length buffer - n) (drop n buffer))
      (omega (arith, r_is, ap length rest, rest_length, size)) in
      let filled_is : filled ≡ take (length out - n) body =
      fill ∙ ap (λ (l : List ℕ). take r body ++ l) no_more ∙ append-nil (take r body)
      ∙ ap (λ (k : ℕ). take k body) r_is in
      ap (λ (l : List ℕ). l ++ (filled ++ drop (length buffer - n) (drop n buffer))) prefix
      ∙ ap (λ (l : List ℕ). take n left ++ (filled ++ l)) none
      ∙ ap (λ (l : List ℕ). take n left ++ l) (append-nil filled ∙ filled_is) ∙ both is_min

-- the first bytes of what is left of a bank
pub head_prefix : (m : ℕ) (l : List ℕ) → take (min 5 m) l ≡ take 5 (take m l)
head_prefix m l = elim (cases_eq (min 5 m) 5) [
  | inl long ↦ let enough : 5 ≤ m =
      omega arith in ap (λ (k : ℕ). take k l) long ∙ sym (take-take 5 m l enough)
  | inr short ↦
      let all : min 5 m ≡ m = omega arith in
      let size : length (take m l) ≤ 5 = omega (arith, length-take m l) in
      ap (λ (k : ℕ). take k l) all ∙ sym (take_all 5 (take m l) size)
]
