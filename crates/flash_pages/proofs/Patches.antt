-- Patches of a list of bytes, and lists that differ in one range alone.
use Rattle.std.proofs.Common.{◌≡◌, ◌⊎◌, inl, inr, ℕ, ◌+◌, ◌-◌, ◌<◌, ◌≤◌, get_or, min, List, [], ◌∷◌}
use Rattle.std.proofs.Common.{◌++◌, length, take, drop, replicate, refl, sym, ◌∙◌, ap, arith}
use Rattle.std.proofs.Common.{append_assoc, append-nil, length-append, length-drop}
use Rattle.std.proofs.Common.{take-append-drop}
use Rattle.std.proofs.lemmas.List.{take_at, drop_at, take-take, drop-drop, drop-take}
use Rattle.std.proofs.lemmas.List.{take-replicate, drop-replicate, length-take, length-take-le}
use Rattle.std.proofs.lemmas.List.{length-replicate, get_or-replicate, ext_get_or}
use Rattle.flash_pages.specs.Bytes.{blank, part, patch, DiffersIn}

pub length-blank : (n : ℕ) → length (blank n) ≡ n
unfolding blank
length-blank n = length-replicate n 255

pub blank_one : 255 ∷ [] ≡ blank 1
unfolding blank
blank_one = refl

pub DiffersIn-refl : (at n : ℕ) (bytes : List ℕ) → DiffersIn at n bytes bytes
DiffersIn-refl at n bytes = record { before = refl; after = refl; same_length = refl }

pub DiffersIn-trans : (at n : ℕ) (a b c : List ℕ) → DiffersIn at n a b → DiffersIn at n b c
    → DiffersIn at n a c
DiffersIn-trans at n a b c p q =
    record {
      before = q.before ∙ p.before;
      after = q.after ∙ p.after;
      same_length = q.same_length
          ∙ p.same_length;
    }

pub DiffersIn-wider : (at n at' n' : ℕ) (a b : List ℕ) → at' ≤ at → at + n ≤ at' + n'
    → DiffersIn at n a b → DiffersIn at' n' a b
DiffersIn-wider at n at' n' a b below above p = record {
  before = sym (take-take at' at b below) ∙ ap (take at') p.before ∙ take-take at' at a below;
  after = sym (further b) ∙ ap (drop more) p.after ∙ further a;
  same_length = p.same_length;
}
  where
    more : ℕ
    more = (at' + n') - (at + n)

    further : (l : List ℕ) → drop more (drop (at + n) l) ≡ drop (at' + n') l
    further l = let to : (at + n) + more ≡ at' + n' =
        omega arith in drop-drop more (at + n) l ∙ ap (λ (k : ℕ). drop k l) to

module _ (b : List ℕ) (at : ℕ) (xs : List ℕ) (fits : at + length xs ≤ length b) where
  prefix-length : length (take at b ++ xs) ≡ at + length xs
  prefix-length =
      let prefix : length (take at b) ≡ at = length-take-le at b (omega arith) in
      length-append (take at b) xs ∙ ap (λ (n : ℕ). n + length xs) prefix

  pub length-patch : length (patch b at xs) ≡ length b
  length-patch =
      let behind = length-drop (at + length xs) b in
      let whole = length-append (take at b ++ xs) (drop (at + length xs) b) in
      omega (arith, prefix-length, behind, whole)

  pub take-patch : take (at + length xs) (patch b at xs) ≡ take at b ++ xs
  take-patch = take_at (take at b ++ xs) (drop (at + length xs) b) (at + length xs) prefix-length

  pub drop-patch : drop (at + length xs) (patch b at xs) ≡ drop (at + length xs) b
  drop-patch = drop_at (take at b ++ xs) (drop (at + length xs) b) (at + length xs) prefix-length

  pub take-patch-prefix : take at (patch b at xs) ≡ take at b
  take-patch-prefix =
      let prefix : length (take at b) ≡ at = length-take-le at b (omega arith) in
      ap (take at) (append_assoc (take at b) xs (drop (at + length xs) b))
      ∙ take_at (take at b) (xs ++ drop (at + length xs) b) at prefix

  pub drop-patch-prefix : drop at (patch b at xs) ≡ xs ++ drop (at + length xs) b
  drop-patch-prefix =
      let prefix : length (take at b) ≡ at = length-take-le at b (omega arith) in
      ap (drop at) (append_assoc (take at b) xs (drop (at + length xs) b))
      ∙ drop_at (take at b) (xs ++ drop (at + length xs) b) at prefix

  pub DiffersIn-patch : DiffersIn at (length xs) b (patch b at xs)
  DiffersIn-patch =
      record { before = take-patch-prefix; after = drop-patch; same_length = length-patch }

  -- a patch right behind a patch
  pub patch-patch : (ys : List ℕ)
      → patch (patch b at xs) (at + length xs) ys ≡ patch b at (xs ++ ys)
  patch-patch ys =
      ap (λ (l : List ℕ). l ++ ys ++ drop (at + length xs + length ys) (patch b at xs)) take-patch
      ∙ ap (λ (l : List ℕ). (take at b ++ xs) ++ ys ++ l) behind
      ∙ ap (λ (l : List ℕ). l ++ drop (at + length (xs ++ ys)) b) (append_assoc (take at b) xs ys)
    where
      behind : drop (at + length xs + length ys) (patch b at xs) ≡ drop (at + length (xs ++ ys)) b
      behind =
          let same : (at + length xs) + length ys ≡ at + length (xs ++ ys) =
          omega (arith, length-append xs ys) in
          sym (drop-drop (length ys) (at + length xs) (patch b at xs))
          ∙ ap (drop (length ys)) drop-patch ∙ drop-drop (length ys) (at + length xs) b
          ∙ ap (λ (k : ℕ). drop k b) same

-- a gate programmed before what stands behind it
pub patch_gate : (b : List ℕ) (at gate : ℕ) (xs : List ℕ) → at + 1 + length xs ≤ length b
    → patch (patch b (at + 1) xs) at (gate ∷ []) ≡ patch b at (gate ∷ xs)
patch_gate b at gate xs fits =
    ap (λ (l : List ℕ). l ++ (gate ∷ []) ++ drop (at + 1) (patch b (at + 1) xs)) prefix
    ∙ ap (λ (l : List ℕ). take at b ++ (gate ∷ []) ++ l) (drop-patch-prefix b (at + 1) xs fits)
    ∙ sym (append_assoc (take at b ++ (gate ∷ [])) xs (drop (at + 1 + length xs) b))
    ∙ ap (λ (l : List ℕ). l ++ drop (at + 1 + length xs) b)
    (append_assoc (take at b) (gate ∷ []) xs)
    ∙ ap (λ (k : ℕ). take at b ++ (gate ∷ xs) ++ drop k b) (omega arith)
  where
    prefix : take at (patch b (at + 1) xs) ≡ take at b
    prefix = let le : at ≤ at + 1 =
        omega arith in sym (take-take at (at + 1) (patch b (at + 1) xs) le)
        ∙ ap (take at) (take-patch-prefix b (at + 1) xs fits) ∙ take-take at (at + 1) b le

-- a part of what comes before a place is the same where that is
pub part_before : (at n m : ℕ) (a b : List ℕ) → at + n ≤ m → take m a ≡ take m b
    → part at n a ≡ part at n b
part_before at n m a b le same = sym (drop-take at n a) ∙ ap (drop at) shorter ∙ drop-take at n b
  where
    shorter : take (at + n) a ≡ take (at + n) b
    shorter = sym (take-take (at + n) m a le) ∙ ap (take (at + n)) same ∙ take-take (at + n) m b le

-- a part outside the range in which two lists differ
pub part_outside : (at n : ℕ) (old new : List ℕ) → DiffersIn at n old new → (place len : ℕ)
    → (place + len ≤ at) ⊎ (at + n ≤ place) → part place len new ≡ part place len old
part_outside at n old new differs place len (inl before) =
    part_before place len at new old before differs.before
part_outside at n old new differs place len (inr behind) =
    let to : (at + n) + (place - (at + n)) ≡ place = omega arith in
    let further = λ (l : List ℕ). drop-drop (place - (at + n)) (at + n) l
    ∙ ap (λ (k : ℕ). drop k l) to in
    ap (take len) (sym (further new) ∙ ap (drop (place - (at + n))) differs.after ∙ further old)

-- a part of bytes of FF
pub part-blank : (at n k m : ℕ) (b : List ℕ) → k + m ≤ n → part at n b ≡ blank n
    → part (at + k) m b ≡ blank m
unfolding blank
part-blank at n k m b le erased =
    ap (take m) (sym (drop-drop k at b))
    ∙ sym (take-take m (n - k) (drop k (drop at b)) (omega arith))
    ∙ ap (take m)
    (sym (drop-take k (n - k) (drop at b)) ∙ ap (drop k) whole ∙ drop-replicate k n 255)
    ∙ take-replicate m (n - k) 255 (omega arith)
  where
    whole : take (k + (n - k)) (drop at b) ≡ replicate n 255
    whole = let same : k + (n - k) ≡ n =
        omega arith in ap (λ (j : ℕ). take j (drop at b)) same ∙ erased

pub patch-nil : (b : List ℕ) (at : ℕ) → patch b at [] ≡ b
patch-nil b at =
    ap (λ (l : List ℕ). l ++ drop (at + 0) b) (append-nil (take at b))
    ∙ (let same : at + 0 ≡ at = omega arith in ap (λ (k : ℕ). take at b ++ drop k b) same)
    ∙ take-append-drop at b

-- a list is the patch that its differing part makes
pub is_patch : (at : ℕ) (b c xs : List ℕ) → DiffersIn at (length xs) b c
    → part at (length xs) c ≡ xs → c ≡ patch b at xs
is_patch at b c xs differs middle =
    let n = length xs in
    sym (take-append-drop at c)
    ∙ ap (λ (l : List ℕ). take at c ++ l) (sym (take-append-drop n (drop at c)))
    ∙ ap (λ (l : List ℕ). take at c ++ (l ++ drop n (drop at c))) middle
    ∙ ap (λ (l : List ℕ). take at c ++ (xs ++ l)) (drop-drop n at c ∙ differs.after)
    ∙ ap (λ (l : List ℕ). l ++ (xs ++ drop (at + n) b)) differs.before
    ∙ sym (append_assoc (take at b) xs (drop (at + n) b))

pub part-part : (start size k n : ℕ) (b : List ℕ) → k + n ≤ size
    → part k n (part start size b) ≡ part (start + k) n b
part-part start size k n b le =
    let shorter : k + (size - k) ≡ size = omega arith in
    ap (λ (j : ℕ). take n (drop k (take j (drop start b)))) (sym shorter)
    ∙ ap (take n) (drop-take k (size - k) (drop start b))
    ∙ take-take n (size - k) (drop k (drop start b)) (omega arith)
    ∙ ap (take n) (drop-drop k start b)

pub part-patch_same : (b : List ℕ) (at : ℕ) (xs : List ℕ) → at + length xs ≤ length b
    → part at (length xs) (patch b at xs) ≡ xs
part-patch_same b at xs fits =
    ap (take (length xs)) (drop-patch-prefix b at xs fits)
    ∙ take_at xs (drop (at + length xs) b) (length xs) refl

-- the same inside a part of both
module _ (start size k n : ℕ) (inside : k + n ≤ size) where
  prefix_of_part : (l : List ℕ) → take k (part start size l) ≡ drop start (take (start + k) l)
  prefix_of_part l = take-take k size (drop start l) (omega arith) ∙ sym (drop-take start k l)

  back_of_part : (l : List ℕ)
      → drop (k + n) (part start size l) ≡ take (size - (k + n)) (drop (start + k + n) l)
  back_of_part l =
      let whole : (k + n) + (size - (k + n)) ≡ size = omega arith in
      let to : start + (k + n) ≡ start + k + n = omega arith in
      ap (λ (j : ℕ). drop (k + n) (take j (drop start l))) (sym whole)
      ∙ drop-take (k + n) (size - (k + n)) (drop start l)
      ∙ ap (take (size - (k + n))) (drop-drop (k + n) start l ∙ ap (λ (j : ℕ). drop j l) to)

  pub part-DiffersIn : (b c : List ℕ) → DiffersIn (start + k) n b c
      → DiffersIn k n (part start size b) (part start size c)
  part-DiffersIn b c differs = record {
    before = prefix_of_part c ∙ ap (drop start) differs.before ∙ sym (prefix_of_part b);
    after = back_of_part c ∙ ap (take (size - (k + n))) differs.after ∙ sym (back_of_part b);
    same_length = sizes c ∙ ap (λ (j : ℕ). min size (j - start)) differs.same_length
        ∙ sym (sizes b);
  }
    where
      sizes : (l : List ℕ) → length (part start size l) ≡ min size (length l - start)
      sizes l = length-take size (drop start l) ∙ ap (min size) (length-drop start l)

pub part-patch : (start size k : ℕ) (b xs : List ℕ) → k + length xs ≤ size
    → start + k + length xs ≤ length b
    → part start size (patch b (start + k) xs) ≡ patch (part start size b) k xs
part-patch start size k b xs inside fits =
    is_patch k (part start size b) (part start size (patch b (start + k) xs)) xs
    (part-DiffersIn start size k (length xs) inside b (patch b (start + k) xs)
    (DiffersIn-patch b (start + k) xs fits))
    (part-part start size k (length xs) (patch b (start + k) xs) inside
    ∙ part-patch_same b (start + k) xs fits)

-- bytes that are FF at each place
pub blank_from_each : (bytes : List ℕ) → ((k : ℕ) → k < length bytes → get_or bytes k 0 ≡ 255)
    → bytes ≡ blank (length bytes)
unfolding blank
blank_from_each bytes each =
    ext_get_or 0 bytes (replicate (length bytes) 255) (sym (length-replicate (length bytes) 255))
    (λ k below. each k below ∙ sym (get_or-replicate (length bytes) k 255 0 below))
