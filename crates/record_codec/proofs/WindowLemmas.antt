-- Bytes put into a buffer, one field after another.
use Rattle.std.proofs.Common.{◌≡◌, ◌≤◌, ◌+◌, ◌-◌, ℕ, zero, suc, min, List, [], ◌∷◌, ◌++◌, length}
use Rattle.std.proofs.Common.{take, drop, refl, sym, ap, subst, ◌∙◌, append_assoc, arith, inl, inr}
use Rattle.std.proofs.lemmas.Bool.{cases_lt}
use Rattle.std.proofs.lemmas.List.{append-nil, take_all, take_at, length-append, length-take}
use Rattle.std.proofs.lemmas.List.{length-drop}
use Rattle.std.proofs.lemmas.Slice.{drop-append-drop}
use Rattle.record_codec.specs.Fields.{◌&◌}
use Rattle.record_codec.specs.Window.{Puts, Shows, shown}
use Rattle.record_codec.specs.declared.window.Place.{Place}

drop_parts : (n : ℕ) (xs ys : List ℕ) → drop n (xs ++ ys) ≡ drop n xs ++ drop (n - length xs) ys
drop_parts zero xs ys = let none : zero - length xs ≡ zero = omega arith in rw none refl
drop_parts (suc n) [] ys = let same : suc n - zero ≡ suc n = omega arith in rw same refl
drop_parts (suc n) (x ∷ xs) ys =
    let same : n - length xs ≡ suc n - suc (length xs) = omega arith in
    drop_parts n xs ys ∙ ap (λ k. drop n xs ++ drop k ys) same

take_parts : (n : ℕ) (xs ys : List ℕ) → take n (xs ++ ys) ≡ take n xs ++ take (n - length xs) ys
take_parts zero xs ys = let none : zero - length xs ≡ zero = omega arith in rw none refl
take_parts (suc n) [] ys = let same : suc n - zero ≡ suc n = omega arith in rw same refl
take_parts (suc n) (x ∷ xs) ys =
    let same : n - length xs ≡ suc n - suc (length xs) = omega arith in
    ap (λ zs. x ∷ zs) (take_parts n xs ys ∙ ap (λ k. take n xs ++ take k ys) same)

take_min : (n : ℕ) (xs : List ℕ) → take (min n (length xs)) xs ≡ take n xs
take_min n xs = elim (cases_lt n (length xs)) [
  | inl lt ↦ let same : min n (length xs) ≡ n = omega (arith, lt) in ap (λ k. take k xs) same
  | inr le ↦
      let same : min n (length xs) ≡ length xs = omega (arith, le) in
      ap (λ k. take k xs) same ∙ take_all (length xs) xs (omega arith) ∙ sym (take_all n xs le)
]

shown_more : (at len : ℕ) (bytes text : List ℕ)
    → shown at len (bytes ++ text) ≡ shown at len bytes ++ take (len - length (shown at len bytes)) (drop (at - length bytes) text)
shown_more at len bytes text =
    let left : len - length (drop at bytes) ≡ len - length (shown at len bytes) = omega (arith, length-take len (drop at bytes)) in
    ap (take len) (drop_parts at bytes text)
    ∙ take_parts len (drop at bytes) (drop (at - length bytes) text)
    ∙ ap (λ k. shown at len bytes ++ take k (drop (at - length bytes) text)) left

-- what put does to a buffer
pub put_more : (text : List ℕ) (old new : Place) (out after : List ℕ) (count : ℕ)
    → count ≡ min (length out - min old.filled (length out)) (length (drop old.skip text))
    → after ≡ take (min old.filled (length out)) out ++ take count (drop old.skip text) ++ drop (min old.filled (length out) + count) out
    → new.skip ≡ old.skip - length text
    → new.filled ≡ min old.filled (length out) + count
    → Puts text old out new after
put_more text old new out after count counted copied skips fills = record {
  more = λ at bytes first shows.
      let len = length first in
      let seen = shown at len bytes in
      let wanted = drop old.skip text in
      let few : length seen ≤ len = omega (arith, length-take len (drop at bytes)) in
      let long : length out ≡ len =
      ap length shows.buffer ∙ length-append seen (drop old.filled first)
      ∙ (omega (arith, length-drop old.filled first, shows.filled, few)) in
      let from : min old.filled (length out) ≡ length seen = omega (arith, long, shows.filled, few) in
      let number : count ≡ min (len - length seen) (length wanted) = omega (arith, counted, long, from) in
      let taken : take count wanted ≡ take (len - length seen) wanted = ap (λ k. take k wanted) number ∙ take_min (len - length seen) wanted in
      let now : shown at len (bytes ++ text) ≡ seen ++ take (len - length seen) wanted =
      shown_more at len bytes text ∙ ap (λ k. seen ++ take (len - length seen) (drop k text)) (sym shows.skip) in
      let kept : take (length seen) out ≡ seen = ap (take (length seen)) shows.buffer ∙ take_at seen (drop old.filled first) (length seen) refl in
      let behind : drop (length seen + count) out ≡ drop (length seen + count) first =
      ap (drop (length seen + count)) (shows.buffer ∙ ap (λ k. seen ++ drop k first) shows.filled)
      ∙ drop-append-drop (length seen) first seen (length seen + count) (omega arith) refl in
      let filled : new.filled ≡ length seen + count = fills ∙ ap (λ k. k + count) from in
      let total : length seen + count ≡ length (shown at len (bytes ++ text)) =
      omega (arith, number, ap length now, length-append seen (take (len - length seen) wanted), length-take (len - length seen) wanted) in
      record {
        skip = omega (arith, skips, shows.skip, length-append bytes text);
        filled = filled ∙ total;
        buffer =
            copied
            ∙ ap (λ k. take k out ++ take count wanted ++ drop (k + count) out) from
            ∙ rw (kept, behind, taken, now, filled) refl;
      };
}

-- nothing goes by
pub puts_nothing : (place : Place) (out : List ℕ) → Puts [] place out place out
puts_nothing place out = record { more = λ at bytes first shows. subst (λ (seen : List ℕ). Shows at seen first place out) (sym (append-nil bytes)) shows }

-- one field, and then others
pub then : {one others : List ℕ} {a b c : Place} {x y z : List ℕ} → Puts one a x b y → Puts others b y c z → Puts (one & others) a x c z
then {one} {others} {a} {b} {c} {x} {y} {z} first second = record {
  more = λ at bytes start shows.
      subst (λ (seen : List ℕ). Shows at seen start c z) (append_assoc bytes one others)
      (second.more at (bytes ++ one) start (first.more at bytes start shows));
}

-- the same of a place and bytes that are these
pub put_from : (text : List ℕ) (old new : Place) (out after : List ℕ) (count from : ℕ) (wanted : List ℕ)
    → from ≡ min old.filled (length out) → wanted ≡ drop old.skip text → count ≡ min (length out - from) (length wanted)
    → after ≡ take from out ++ take count wanted ++ drop (from + count) out → new.skip ≡ old.skip - length text → new.filled ≡ from + count
    → Puts text old out new after
put_from text old new out after count from wanted from_is wanted_is counted copied skips fills =
    put_more text old new out after count
    (counted ∙ ap (λ k. min (length out - k) (length wanted)) from_is ∙ ap (λ (w : List ℕ). min (length out - min old.filled (length out)) (length w)) wanted_is)
    (copied ∙ ap (λ k. take k out ++ take count wanted ++ drop (k + count) out) from_is
    ∙ ap (λ (w : List ℕ). take (min old.filled (length out)) out ++ take count w ++ drop (min old.filled (length out) + count) out) wanted_is)
    skips (fills ∙ ap (λ k. k + count) from_is)

-- three fields, and then others
pub then_three : (one two three : List ℕ) {others : List ℕ} {a b c : Place} {x y z : List ℕ} → Puts (one & two & three) a x b y → Puts others b y c z
    → Puts (one & two & three & others) a x c z
then_three one two three {others} {a} {b} {c} {x} {y} {z} first second =
    subst (λ (text : List ℕ). Puts text a x c z) (append_assoc one (two ++ three) others ∙ ap (λ (t : List ℕ). one ++ t) (append_assoc two three others)) (then first second)

-- four fields, and then others
pub then_four : (one two three four : List ℕ) {others : List ℕ} {a b c : Place} {x y z : List ℕ} → Puts (one & two & three & four) a x b y → Puts others b y c z
    → Puts (one & two & three & four & others) a x c z
then_four one two three four {others} {a} {b} {c} {x} {y} {z} first second =
    subst (λ (text : List ℕ). Puts text a x c z)
    (append_assoc one (two ++ (three ++ four)) others
    ∙ ap (λ (t : List ℕ). one ++ t) (append_assoc two (three ++ four) others ∙ ap (λ (t : List ℕ). two ++ t) (append_assoc three four others)))
    (then first second)

drop_nil : (n : ℕ) → drop {A = ℕ} n [] ≡ []
drop_nil zero = refl
drop_nil (suc n) = refl

take_nil : (n : ℕ) → take {A = ℕ} n [] ≡ []
take_nil zero = refl
take_nil (suc n) = refl

-- what a whole coding leaves in a buffer that had nothing of it
pub shows_whole : (at : ℕ) (text first : List ℕ) (old new : Place) (after : List ℕ) → old.skip ≡ at → old.filled ≡ 0 → Puts text old first new after
    → Shows at text first new after
shows_whole at text first old new after skip filled puts = puts.more at [] first (record {
  skip = omega (arith, skip);
  filled = filled ∙ sym (ap length none);
  buffer = sym (ap (λ (seen : List ℕ). seen ++ drop old.filled first) none ∙ ap (λ k. drop k first) filled);
})
  where
    none : shown at (length first) [] ≡ []
    none = ap (take (length first)) (drop_nil at) ∙ take_nil (length first)

module _ (at : ℕ) (text first : List ℕ) (new : Place) (after : List ℕ) (shows : Shows at text first new after) where
  part : new.filled ≡ min (length first) (length (drop at text))
  part = omega (arith, shows.filled, length-take (length first) (drop at text))

  pub whole_count : new.filled ≡ min (length first) (length text - at)
  whole_count = omega (arith, part, length-drop at text)

  pub whole_filled : after ≡ take new.filled (drop at text) ++ drop new.filled first
  whole_filled = shows.buffer ∙ ap (λ (seen : List ℕ). seen ++ drop new.filled first)
      (sym (ap (λ k. take k (drop at text)) part ∙ take_min (length first) (drop at text)))
