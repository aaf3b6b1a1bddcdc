use Rattle.std.proofs.Common.{◌≡◌, ℕ, ◌+◌, ◌-◌, ◌<◌, ◌≤◌, ◌⊎◌, inl, inr, List, [], ◌∷◌, ◌++◌}
use Rattle.std.proofs.Common.{length, take, get_or, Option, Some, None, refl, sym, ◌∙◌, ap, arith}
use Rattle.std.proofs.Common.{length-append}
use Rattle.std.proofs.lemmas.Bool.{cases_eq, cases_lt}
use Rattle.std.proofs.lemmas.Grind.{common_steps}
use Rattle.std.proofs.lemmas.List.{get_or_push, length-take-le, take_more}
use Rattle.std.proofs.Math.Seq.{take-length}
use Rattle.apdu_codec.specs.Class.{HasClass}
use Rattle.apdu_codec.specs.Command.{IsBody, Spells, SpellsTail, Apdu, expected}
use Rattle.apdu_codec.specs.declared.commands.Class.{Class}
use Rattle.apdu_codec.specs.declared.commands.Class.TheVariants.{Standard, Special}

-- a class byte has one class and one channel
HasClass-once : (byte : ℕ) (c d : Class) (m n : ℕ) → HasClass byte c m → HasClass byte d n → (c ≡ d) × (m ≡ n)
HasClass-once byte Standard Standard m n h k = (refl, omega arith)
HasClass-once byte Standard Special m n h k = absurd (omega arith)
HasClass-once byte Special Standard m n h k = absurd (omega arith)
HasClass-once byte Special Special m n h k = (refl, omega arith)

-- one more element at the end tells the front and itself
front_of : (xs ys : List ℕ) (x y : ℕ) → xs ++ x ∷ [] ≡ ys ++ y ∷ [] → length xs ≡ length ys → (xs ≡ ys) × (x ≡ y)
front_of [] [] x y e same = (refl, cc)
front_of [] (b ∷ ys) x y e same = absurd (omega arith)
front_of (a ∷ xs) [] x y e same = absurd (omega arith)
front_of (a ∷ xs) (b ∷ ys) x y e same =
    let tails : xs ++ x ∷ [] ≡ ys ++ y ∷ [] = cc in
    let heads : a ≡ b = cc in
    let lengths : length xs ≡ length ys = omega arith in
    let rest = front_of xs ys x y tails lengths in
    let fronts : xs ≡ ys = rest.0 in
    let lasts : x ≡ y = rest.1 in
    (cc, lasts)

-- one byte alone isn't a length, a body and a byte
not_both : (tail one body : List ℕ) (byte : ℕ) → tail ≡ one → length one ≡ 1 → tail ≡ length body ∷ body ++ byte ∷ [] → ⊥
not_both tail one body byte e single f = omega (arith, ap length (sym e ∙ f), length-append body (byte ∷ []))

-- what follows the header has one body and one Le
SpellsTail-once : (tail one other : List ℕ) (m n : Option ℕ) → SpellsTail tail one m → SpellsTail tail other n → (one ≡ other) × (m ≡ n)
SpellsTail-once tail one other m n (inl h) (inl k) = (h.1 ∙ sym k.1, h.2 ∙ sym k.2)
SpellsTail-once tail one other m n (inl h) (inr (inl k)) = absurd (grind (arith, h.0, k.2))
SpellsTail-once tail one other m n (inl h) (inr (inr (inl k))) = absurd (grind (arith, h.0, k.1))
SpellsTail-once tail one other m n (inl h) (inr (inr (inr k))) = absurd (grind (arith, h.0, k.3))
SpellsTail-once tail one other m n (inr (inl h)) (inl k) = absurd (grind (arith, h.2, k.0))
SpellsTail-once tail one other m n (inr (inl h)) (inr (inl k)) = let e : h.0 ≡ k.0 = grind (arith, h.2, k.2) in (h.3 ∙ sym k.3, h.4 ∙ (ap (λ b. Some (expected b)) e ∙ sym k.4))
SpellsTail-once tail one other m n (inr (inl h)) (inr (inr (inl k))) = absurd (grind (arith, h.2, k.1, k.0))
SpellsTail-once tail one other m n (inr (inl h)) (inr (inr (inr k))) = absurd (not_both tail (h.0 ∷ []) other k.0 h.2 refl k.3)
SpellsTail-once tail one other m n (inr (inr (inl h))) (inl k) = absurd (grind (arith, h.1, k.0))
SpellsTail-once tail one other m n (inr (inr (inl h))) (inr (inl k)) = absurd (grind (arith, h.1, k.2, h.0))
SpellsTail-once tail one other m n (inr (inr (inl h))) (inr (inr (inl k))) = let e : one ≡ other = grind (arith, h.1, k.1) in (e, h.2 ∙ sym k.2)
SpellsTail-once tail one other m n (inr (inr (inl h))) (inr (inr (inr k))) = absurd (grind (arith, common_steps, h.1, k.3))
SpellsTail-once tail one other m n (inr (inr (inr h))) (inl k) = absurd (grind (arith, h.3, k.0))
SpellsTail-once tail one other m n (inr (inr (inr h))) (inr (inl k)) = absurd (not_both tail (k.0 ∷ []) one h.0 k.2 refl h.3)
SpellsTail-once tail one other m n (inr (inr (inr h))) (inr (inr (inl k))) = absurd (grind (arith, common_steps, h.3, k.1))
SpellsTail-once tail one other m n (inr (inr (inr h))) (inr (inr (inr k))) =
    let same : length one ∷ one ++ h.0 ∷ [] ≡ length other ∷ other ++ k.0 ∷ [] = sym h.3 ∙ k.3 in
    let lengths : length one ≡ length other = cc in
    let rests : one ++ h.0 ∷ [] ≡ other ++ k.0 ∷ [] = cc in
    let parts = front_of one other h.0 k.0 rests lengths in
    (parts.0, h.4 ∙ (ap (λ b. Some (expected b)) parts.1 ∙ sym k.4))

-- bytes spell at most one command
pub Spells-once : (bytes : List ℕ) (c d : Apdu) → Spells bytes c → Spells bytes d → c ≡ d
Spells-once bytes c d h k =
    let same : h.0 ∷ c.ins ∷ c.p1 ∷ c.p2 ∷ h.1 ≡ k.0 ∷ d.ins ∷ d.p1 ∷ d.p2 ∷ k.1 = sym h.2 ∙ k.2 in
    let class_byte : h.0 ≡ k.0 = cc in
    let tail : h.1 ≡ k.1 = cc in
    let ins : c.ins ≡ d.ins = cc in
    let p1 : c.p1 ≡ d.p1 = cc in
    let p2 : c.p2 ≡ d.p2 = cc in
    let of_class = HasClass-once k.0 c.class d.class c.channel d.channel (rw class_byte at h.3) k.3 in
    let class : c.class ≡ d.class = of_class.0 in
    let channel : c.channel ≡ d.channel = of_class.1 in
    let of_tail = SpellsTail-once k.1 c.body d.body c.le d.le (rw tail at h.4) k.4 in
    ap (λ (x : ℕ). record { channel = x; class = c.class; ins = c.ins; p1 = c.p1; p2 = c.p2; body = c.body; le = c.le }) channel
    ∙ ap (λ (x : Class). record { channel = d.channel; class = x; ins = c.ins; p1 = c.p1; p2 = c.p2; body = c.body; le = c.le }) class
    ∙ ap (λ (x : ℕ). record { channel = d.channel; class = d.class; ins = x; p1 = c.p1; p2 = c.p2; body = c.body; le = c.le }) ins
    ∙ ap (λ (x : ℕ). record { channel = d.channel; class = d.class; ins = d.ins; p1 = x; p2 = c.p2; body = c.body; le = c.le }) p1
    ∙ ap (λ (x : ℕ). record { channel = d.channel; class = d.class; ins = d.ins; p1 = d.p1; p2 = x; body = c.body; le = c.le }) p2
    ∙ ap (λ (x : List ℕ). record { channel = d.channel; class = d.class; ins = d.ins; p1 = d.p1; p2 = d.p2; body = x; le = c.le }) of_tail.0
    ∙ ap (λ (x : Option ℕ). record { channel = d.channel; class = d.class; ins = d.ins; p1 = d.p1; p2 = d.p2; body = d.body; le = x }) of_tail.1

-- a class byte has a class and a channel, or none has it
HasClass-decided : (byte : ℕ) → ((c : Class) × (n : ℕ) × HasClass byte c n) ⊎ ((c : Class) (n : ℕ) → HasClass byte c n → ⊥)
HasClass-decided byte =
    elim (cases_lt byte 4) [
      | inl low ↦ inl (Standard, byte, (refl, low))
      | inr above ↦
          elim (cases_lt byte 0x80) [
            | inl between ↦ inr (λ c. elim c as (λ c. (n : ℕ) → HasClass byte c n → ⊥) [ Standard ↦ λ n h. omega arith | Special ↦ λ n h. omega arith ])
            | inr high ↦
                elim (cases_lt byte 0x84) [
                  | inl below ↦ inl (Special, byte - 0x80, (omega arith, omega arith))
                  | inr past ↦ inr (λ c. elim c as (λ c. (n : ℕ) → HasClass byte c n → ⊥) [ Standard ↦ λ n h. omega arith | Special ↦ λ n h. omega arith ])
                ]
          ]
    ]

-- what follows the header is a tail, or it is none
HasTail : List ℕ → Type 0
HasTail tail = (body : List ℕ) × (le : Option ℕ) × SpellsTail tail body le

NoTail : List ℕ → Type 0
NoTail tail = (body : List ℕ) (le : Option ℕ) → SpellsTail tail body le → ⊥

-- what two bytes and more have to be to follow a header
record Fitting (lc x : ℕ) (rest : List ℕ) : Type 0 where
  some : 0 < lc
  short : lc < 256
  length_fits : (lc ≡ length (x ∷ rest)) ⊎ ((lc + 1 ≡ length (x ∷ rest)) × (get_or (x ∷ rest) lc 0 < 256))

fitting : (lc x : ℕ) (rest body : List ℕ) (le : Option ℕ) → SpellsTail (lc ∷ x ∷ rest) body le → Fitting lc x rest
fitting lc x rest body le (inl h) = absurd (omega (arith, ap length h.0))
fitting lc x rest body le (inr (inl h)) = absurd (omega (arith, ap length h.2))
fitting lc x rest body le (inr (inr (inl h))) =
    let whole = h.1 in
    let heads : lc ≡ length body = cc in
    let tails : x ∷ rest ≡ body = cc in
    let bounds = h.0 in
    record { some = omega arith; short = omega arith; length_fits = inl (heads ∙ ap length (sym tails)) }
fitting lc x rest body le (inr (inr (inr h))) =
    let whole = h.3 in
    let heads : lc ≡ length body = cc in
    let tails : x ∷ rest ≡ body ++ h.0 ∷ [] = cc in
    let bounds = h.2 in
    let last : get_or (x ∷ rest) lc 0 ≡ h.0 = rw tails (get_or_push body h.0 0 lc (sym heads)) in
    record {
      some = omega arith;
      short = omega arith;
      length_fits = inr (omega (arith, ap length tails, length-append body (h.0 ∷ [])), rw last h.1);
    }

split_last : (xs : List ℕ) (n : ℕ) → n + 1 ≡ length xs → xs ≡ take n xs ++ get_or xs n 0 ∷ []
split_last xs n e =
    let below : n < length xs = omega arith in
    let all : take (n + 1) xs ≡ xs = rw e (take-length xs) in
    sym all ∙ take_more xs n 0 below

-- a body of that length, and one byte more
with_le : (lc x : ℕ) (rest : List ℕ) → 0 < lc → lc < 256 → lc + 1 ≡ length (x ∷ rest) → get_or (x ∷ rest) lc 0 < 256
    → (byte : ℕ) × (byte < 256) × IsBody (take lc (x ∷ rest)) × (lc ∷ x ∷ rest ≡ length (take lc (x ∷ rest)) ∷ take lc (x ∷ rest) ++ byte ∷ [])
    × (Some (expected (get_or (x ∷ rest) lc 0)) ≡ Some (expected byte))
with_le lc x rest some short more small =
    let size : length (take lc (x ∷ rest)) ≡ lc = length-take-le lc (x ∷ rest) (omega arith) in (
      get_or (x ∷ rest) lc 0,
      small,
      (omega arith, omega arith),
      rw size (ap (λ (bytes : List ℕ). lc ∷ bytes) (split_last (x ∷ rest) lc more)),
      refl,
    )

-- a byte of more than eight bits follows no header
alone : (byte : ℕ) → 256 ≤ byte → (body : List ℕ) (le : Option ℕ) → SpellsTail (byte ∷ []) body le → ⊥
alone byte big body le (inl h) = omega (arith, ap length h.0)
alone byte big body le (inr (inl h)) = let whole = h.2 in let e : byte ≡ h.0 = cc in let small = h.1 in omega arith
alone byte big body le (inr (inr (inl h))) = let bounds = h.0 in omega (arith, ap length h.1)
alone byte big body le (inr (inr (inr h))) = omega (arith, ap length h.3, length-append body (h.0 ∷ []))

-- two bytes and more: a length that fits, with an Le or without
longer : (lc x : ℕ) (rest : List ℕ) → HasTail (lc ∷ x ∷ rest) ⊎ NoTail (lc ∷ x ∷ rest)
unfolding HasTail NoTail
longer lc x rest =
    let none : (Fitting lc x rest → ⊥) → NoTail (lc ∷ x ∷ rest) = λ f body le h. f (fitting lc x rest body le h) in
    elim (cases_lt 0 lc) [
      | inr nothing ↦ inr (none (λ f. let some = f.some in omega arith))
      | inl some ↦
          elim (cases_lt lc 256) [
            | inr long ↦ inr (none (λ f. let short = f.short in omega arith))
            | inl short ↦
                elim (cases_eq lc (length (x ∷ rest))) [
                  | inl whole ↦ inl (x ∷ rest, None, inr (inr (inl ((omega arith, omega arith), ap (λ n. n ∷ x ∷ rest) whole, refl))))
                  | inr not_whole ↦
                      elim (cases_eq (lc + 1) (length (x ∷ rest))) [
                        | inr not_more ↦ inr (none (λ f. elim f.length_fits [ inl e ↦ not_whole e | inr e ↦ not_more e.0 ]))
                        | inl more ↦
                            elim (cases_lt (get_or (x ∷ rest) lc 0) 256) [
                              | inr big ↦ inr (none (λ f. elim f.length_fits [ inl e ↦ not_whole e | inr e ↦ let small = e.1 in omega arith ]))
                              | inl small ↦ inl (take lc (x ∷ rest), Some (expected (get_or (x ∷ rest) lc 0)), inr (inr (inr (with_le lc x rest some short more small))))
                            ]
                      ]
                ]
          ]
    ]

SpellsTail-decided : (tail : List ℕ) → HasTail tail ⊎ NoTail tail
unfolding HasTail NoTail
SpellsTail-decided [] = inl ([], None, inl (refl, refl, refl))
SpellsTail-decided (byte ∷ []) =
    elim (cases_lt byte 256) [
      | inl small ↦ inl ([], Some (expected byte), inr (inl (byte, small, refl, refl, refl)))
      | inr big ↦ inr (alone byte big)
    ]
SpellsTail-decided (lc ∷ x ∷ rest) = longer lc x rest

-- bytes spell a command, or none
pub Spells-decided : (bytes : List ℕ) → ((c : Apdu) × Spells bytes c) ⊎ ((c : Apdu) → Spells bytes c → ⊥)
unfolding HasTail NoTail
Spells-decided [] = inr (λ c h. absurd (omega (arith, ap length h.2)))
Spells-decided (a ∷ []) = inr (λ c h. absurd (omega (arith, ap length h.2)))
Spells-decided (a ∷ b ∷ []) = inr (λ c h. absurd (omega (arith, ap length h.2)))
Spells-decided (a ∷ b ∷ e ∷ []) = inr (λ c h. absurd (omega (arith, ap length h.2)))
Spells-decided (a ∷ ins ∷ p1 ∷ p2 ∷ tail) =
    elim (HasClass-decided a) [
      | inr none ↦ inr (λ c h. let whole = h.2 in let e : a ≡ h.0 = cc in none c.class c.channel (rw e h.3))
      | inl class ↦
          elim (SpellsTail-decided tail) [
            | inr none ↦ inr (λ c h. let whole = h.2 in let e : tail ≡ h.1 = cc in none c.body c.le (rw e h.4))
            | inl t ↦ inl (record { channel = class.1; class = class.0; ins = ins; p1 = p1; p2 = p2; body = t.0; le = t.1 }, (a, tail, refl, class.2, t.2))
          ]
    ]
