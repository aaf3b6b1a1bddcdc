-- What a few bytes at the prefix spell.
use Rattle.std.proofs.Common.{◌≡◌, ◌≢◌, ℕ, ◌+◌, ◌-◌, ◌*◌, ◌%◌, ◌<◌, ◌≤◌, List, [], ◌∷◌, ◌++◌}
use Rattle.std.proofs.Common.{length, take, drop, get_or, refl, arith}
use Rattle.std.proofs.lemmas.List.{take_rest}
use Rattle.ber_tlv.specs.Parts.{BeginsWithTag, BeginsWithLength}

-- the bytes before a place and those from it
prefix_1 : (s : List ℕ) → 1 ≤ length s → s ≡ (get_or s 0 0 ∷ []) ++ take (length s - 1) (drop 1 s)
prefix_1 [] h = absurd (omega arith)
prefix_1 (a ∷ s) h = rw take_rest refl

prefix_2 : (s : List ℕ) → 2 ≤ length s → s ≡ (get_or s 0 0 ∷ get_or s 1 0 ∷ []) ++ take (length s - 2) (drop 2 s)
prefix_2 [] h = absurd (omega arith)
prefix_2 (a ∷ []) h = absurd (omega arith)
prefix_2 (a ∷ b ∷ s) h = rw take_rest refl

prefix_3 : (s : List ℕ) → 3 ≤ length s → s ≡ (get_or s 0 0 ∷ get_or s 1 0 ∷ get_or s 2 0 ∷ []) ++ take (length s - 3) (drop 3 s)
prefix_3 [] h = absurd (omega arith)
prefix_3 (a ∷ []) h = absurd (omega arith)
prefix_3 (a ∷ b ∷ []) h = absurd (omega arith)
prefix_3 (a ∷ b ∷ c ∷ s) h = rw take_rest refl

prefix_4 : (s : List ℕ) → 4 ≤ length s → s ≡ (get_or s 0 0 ∷ get_or s 1 0 ∷ get_or s 2 0 ∷ get_or s 3 0 ∷ []) ++ take (length s - 4) (drop 4 s)
prefix_4 [] h = absurd (omega arith)
prefix_4 (a ∷ []) h = absurd (omega arith)
prefix_4 (a ∷ b ∷ []) h = absurd (omega arith)
prefix_4 (a ∷ b ∷ c ∷ []) h = absurd (omega arith)
prefix_4 (a ∷ b ∷ c ∷ d ∷ s) h = rw take_rest refl

pub tag_1 : (s : List ℕ) (t : ℕ) → 1 ≤ length s → get_or s 0 0 < 256 → get_or s 0 0 % 32 ≢ 31 → t ≡ get_or s 0 0 → BeginsWithTag s t (take (length s - 1) (drop 1 s))
tag_1 s t h a n e = record { prefix = get_or s 0 0 ∷ []; tagged = (a, n, e); whole = prefix_1 s h }

pub tag_2 : (s : List ℕ) (t : ℕ) → 2 ≤ length s → get_or s 0 0 < 256 → get_or s 0 0 % 32 ≡ 31 → get_or s 1 0 < 128 → t ≡ get_or s 0 0 * 256 + get_or s 1 0 → BeginsWithTag s t (take (length s - 2) (drop 2 s))
tag_2 s t h a n b e = record { prefix = get_or s 0 0 ∷ get_or s 1 0 ∷ []; tagged = (a, n, b, e); whole = prefix_2 s h }

pub tag_3 : (s : List ℕ) (t : ℕ) → 3 ≤ length s → get_or s 0 0 < 256 → get_or s 0 0 % 32 ≡ 31 → 128 < get_or s 1 0 → get_or s 1 0 < 256 → get_or s 2 0 < 128 → t ≡ (get_or s 0 0 * 256 + get_or s 1 0) * 256 + get_or s 2 0 → BeginsWithTag s t (take (length s - 3) (drop 3 s))
tag_3 s t h a n b c d e = record { prefix = get_or s 0 0 ∷ get_or s 1 0 ∷ get_or s 2 0 ∷ []; tagged = (a, n, b, c, d, e); whole = prefix_3 s h }

pub length_1 : (s : List ℕ) (t : ℕ) → 1 ≤ length s → get_or s 0 0 < 128 → t ≡ get_or s 0 0 → BeginsWithLength s t (take (length s - 1) (drop 1 s))
length_1 s t h a e = record { size = get_or s 0 0 ∷ []; sized = (a, e); whole = prefix_1 s h }

pub length_2 : (s : List ℕ) (t : ℕ) → 2 ≤ length s → get_or s 0 0 ≡ 0x81 → get_or s 1 0 < 256 → t ≡ get_or s 1 0 → BeginsWithLength s t (take (length s - 2) (drop 2 s))
length_2 s t h a b e = record { size = get_or s 0 0 ∷ get_or s 1 0 ∷ []; sized = (a, b, e); whole = prefix_2 s h }

pub length_3 : (s : List ℕ) (t : ℕ) → 3 ≤ length s → get_or s 0 0 ≡ 0x82 → get_or s 1 0 < 256 → get_or s 2 0 < 256 → t ≡ get_or s 1 0 * 256 + get_or s 2 0 → BeginsWithLength s t (take (length s - 3) (drop 3 s))
length_3 s t h a b c e = record { size = get_or s 0 0 ∷ get_or s 1 0 ∷ get_or s 2 0 ∷ []; sized = (a, b, c, e); whole = prefix_3 s h }

pub length_4 : (s : List ℕ) (t : ℕ) → 4 ≤ length s → get_or s 0 0 ≡ 0x83 → get_or s 1 0 < 256 → get_or s 2 0 < 256 → get_or s 3 0 < 256 → t ≡ (get_or s 1 0 * 256 + get_or s 2 0) * 256 + get_or s 3 0 → BeginsWithLength s t (take (length s - 4) (drop 4 s))
length_4 s t h a b c d e = record { size = get_or s 0 0 ∷ get_or s 1 0 ∷ get_or s 2 0 ∷ get_or s 3 0 ∷ []; sized = (a, b, c, d, e); whole = prefix_4 s h }
