-- What a byte at the next place of a switch row makes of it.
use Rattle.std.proofs.Common.{◌≡◌, ℕ, ◌+◌, ◌-◌, ◌*◌, ◌%◌, ◌<◌, ◌≤◌, ◌==◌, Bool, cond, get_or, List}
use Rattle.std.proofs.Common.{[], ◌∷◌, ◌++◌, length, take, drop, Option, Some, None, inl, inr, refl}
use Rattle.std.proofs.Common.{sym, ◌∙◌, ap, subst, arith, length-drop, take-append-drop}
use Rattle.std.specs.List.{count_by}
use Rattle.std.specs.Prelude.{slice_index}
use Rattle.std.proofs.lemmas.List.{get_or-take, get_or-drop, drop_more, length-take-le}
use Rattle.std.proofs.lemmas.List.Sums.{sum_by-append, sum_by-drop_more}
use Rattle.std.proofs.lemmas.Bool.{cases_lt, ne_eqb}
use Rattle.flash_pages.specs.Bytes.{part, patch, IsErased, DiffersIn}
use Rattle.flash_pages.specs.Switch.{IsUsedTo, IsNextByte, SwitchesTo}
use Rattle.flash_pages.proofs.Patches.{blank_one, part-DiffersIn, drop-patch-prefix}

abbrev opened : ℕ → ℕ
opened byte = cond (byte == 0) 1 0

abbrev zeros : List ℕ → ℕ
zeros row = count_by (λ byte. byte == 0) row

zeros-append : (xs ys : List ℕ) → zeros (xs ++ ys) ≡ zeros xs + zeros ys
zeros-append xs ys = sum_by-append (λ (byte : ℕ). cond (byte == 0) 1 0) xs ys

-- the bytes around one place
zeros-at : (row : List ℕ) (k : ℕ) → k < length row
    → zeros row ≡ zeros (take k row) + (opened (get_or row k 0) + zeros (drop (k + 1) row))
zeros-at row k below =
    ap zeros (sym (take-append-drop k row)) ∙ zeros-append (take k row) (drop k row)
    ∙ ap (λ (n : ℕ). zeros (take k row) + n)
    (sum_by-drop_more (λ (byte : ℕ). cond (byte == 0) 1 0) row k 0 below)

opened-zero : (byte : ℕ) → byte ≡ 0 → opened byte ≡ 1
opened-zero byte is = ap opened is

opened-other : (byte : ℕ) → (byte ≡ 0 → ⊥) → opened byte ≡ 0
opened-other byte other = ap (λ (b : Bool). cond b 1 0) (ne_eqb byte 0 other)

module _ (row image : List ℕ) (next : ℕ) (is_next : IsNextByte row (Some next))
    (differs : DiffersIn next 1 row image) where
  below : next < length image
  below = omega (arith, is_next.0, differs.same_length)

  before_it : (k : ℕ) → k < next → slice_index image k ≡ slice_index row k
  before_it k less =
      sym (get_or-take next image k 0 less) ∙ ap (λ (l : List ℕ). get_or l k 0) differs.before
      ∙ get_or-take next row k 0 less

  behind_it : (k : ℕ) → next + 1 ≤ k → slice_index image k ≡ slice_index row k
  behind_it k more =
      let to : (next + 1) + (k - (next + 1)) ≡ k = omega arith in
      ap (λ (j : ℕ). get_or image j 0) (sym to)
      ∙ sym (get_or-drop (next + 1) image (k - (next + 1)) 0)
      ∙ ap (λ (l : List ℕ). get_or l (k - (next + 1)) 0) differs.after
      ∙ get_or-drop (next + 1) row (k - (next + 1)) 0 ∙ ap (λ (j : ℕ). get_or row j 0) to

  erased : slice_index row next ≡ 255
  erased = is_next.1.rest next (omega arith) is_next.0

  -- the zeros of before, and one more where this byte is 00
  zeros-image : zeros image ≡ zeros row + opened (slice_index image next)
  zeros-image =
      let was = zeros-at row next is_next.0 in
      let now = zeros-at image next below in
      let none : opened (slice_index row next) ≡ 0 = ap opened erased in
      let prefix : zeros (take next image) ≡ zeros (take next row) = ap zeros differs.before in
      let back : zeros (drop (next + 1) image) ≡ zeros (drop (next + 1) row) =
      ap zeros differs.after in
      omega (arith, was, now, none, prefix, back)

  rest_is : (k : ℕ) → next + 1 ≤ k → k < length image → slice_index image k ≡ 255
  rest_is k more less =
      behind_it k more ∙ is_next.1.rest k (omega arith) (omega (arith, less, differs.same_length))

  unused_rest : slice_index image next ≡ 255 → (k : ℕ) → next ≤ k → k < length image
      → slice_index image k ≡ 255
  unused_rest is k from less = elim (cases_lt next k) [
    | inl later ↦ rest_is k (omega arith) less
    | inr here ↦ let same : k ≡ next = omega arith in ap (slice_index image) same ∙ is
  ]

  used_to : (slice_index image next ≡ 255 → ⊥) → IsUsedTo image (next + 1)
  used_to other = record {
    rest = rest_is;
    last = λ some is. let same : (next + 1) - 1 ≡ next = omega arith in
        other (ap (slice_index image) (sym same) ∙ is);
  }

  pub switches : SwitchesTo row image next
  switches = record {
    flips = λ is. let one = opened-zero (slice_index image next) is
        in omega (arith, zeros-image, one);
    stays = λ other. let none = opened-other (slice_index image next) other in
        let same : zeros image ≡ zeros row = omega (arith, zeros-image, none) in
        ap (λ (n : ℕ). n % 2) same;
    unused = λ is. (
      below,
      record {
        rest = unused_rest is;
        last = λ some same. is_next.1.last some (sym (before_it (next - 1) (omega arith)) ∙ same);
      },
    );
    used = λ other more. (omega (arith, more, differs.same_length), used_to other);
    used_up = λ other last.
        let end : next + 1 ≡ length image = last ∙ sym differs.same_length in
        subst (IsUsedTo image) end (used_to other);
  }

-- two places from which on all is FF, each behind a byte that isn't
one_used : (row : List ℕ) (a b : ℕ) → a ≤ length row → b ≤ length row → IsUsedTo row a
    → IsUsedTo row b → a ≤ b
one_used row a b fits_a fits_b first second = elim (cases_lt b a) [
  | inl less ↦ absurd (first.last (omega arith) (second.rest (a - 1) (omega arith) (omega arith)))
  | inr le ↦ le
]

pub one_next_byte : (row : List ℕ) (first second : Option ℕ) → IsNextByte row first
    → IsNextByte row second
    → first ≡ second
one_next_byte row (Some a) (Some b) p q =
    let same : a ≡ b =
    omega (
      arith,
      one_used row a b (omega (arith, p.0)) (omega (arith, q.0)) p.1 q.1,
      one_used row b a (omega (arith, q.0)) (omega (arith, p.0)) q.1 p.1,
    ) in
    ap Some same
one_next_byte row (Some a) None p q =
    absurd (omega
    (arith, p.0, one_used row (length row) a (omega arith) (omega (arith, p.0)) q p.1))
one_next_byte row None (Some b) p q =
    absurd (omega
    (arith, q.0, one_used row (length row) b (omega arith) (omega (arith, q.0)) p q.1))
one_next_byte row None None p q = refl

-- the switch row in a block of the flash, where anything comes to stand at its next byte
pub switches_in : (block next : ℕ) (before image : List ℕ)
    → IsNextByte (part (4096 * block) 4096 before) (Some next)
    → 4096 * block + 4096 ≤ length before → DiffersIn (4096 * block + next) 1 before image
    → SwitchesTo (part (4096 * block) 4096 before) (part (4096 * block) 4096 image) next
switches_in block next before image is_next fits differs =
    let row = part (4096 * block) 4096 before in
    let size : length row ≡ 4096 =
    length-take-le 4096 (drop (4096 * block) before)
    (omega (arith, length-drop (4096 * block) before)) in
    switches row (part (4096 * block) 4096 image) next is_next
    (part-DiffersIn (4096 * block) 4096 next 1
    (omega (arith, is_next.0, size)) before image differs)

-- after a program of 00 the byte reads so
pub opened_in : (block next : ℕ) (before : List ℕ) → next < 4096
    → 4096 * block + 4096 ≤ length before
    → slice_index (part (4096 * block) 4096 (patch before (4096 * block + next) (0 ∷ []))) next ≡ 0
opened_in block next before within fits =
    let image = patch before (4096 * block + next) (0 ∷ []) in
    let here : (4096 * block + next) + 0 ≡ 4096 * block + next = omega arith in
    get_or-take 4096 (drop (4096 * block) image) next 0 within
    ∙ get_or-drop (4096 * block) image next 0
    ∙ sym (ap (λ (k : ℕ). get_or image k 0) here)
    ∙ sym (get_or-drop (4096 * block + next) image 0 0)
    ∙ ap (λ (l : List ℕ). get_or l 0 0)
    (drop-patch-prefix before (4096 * block + next) (0 ∷ []) (omega arith))

-- the next byte may be programmed
pub next_erased : (block next : ℕ) (before : List ℕ)
    → IsNextByte (part (4096 * block) 4096 before) (Some next)
    → 4096 * block + 4096 ≤ length before → IsErased (4096 * block + next) 1 before
next_erased block next before is_next fits =
    let row = part (4096 * block) 4096 before in
    let size : length row ≡ 4096 =
    length-take-le 4096 (drop (4096 * block) before)
    (omega (arith, length-drop (4096 * block) before)) in
    let within : next < 4096 = omega (arith, is_next.0, size) in
    let place = 4096 * block + next in
    let here : get_or before place 0 ≡ 255 =
    sym (get_or-drop (4096 * block) before next 0)
    ∙ sym (get_or-take 4096 (drop (4096 * block) before) next 0 within)
    ∙ is_next.1.rest next (omega arith) is_next.0 in
    let there : place < length before = omega (arith, within) in
    ap (take 1) (drop_more before place 0 there) ∙ ap (λ (byte : ℕ). byte ∷ []) here ∙ blank_one
