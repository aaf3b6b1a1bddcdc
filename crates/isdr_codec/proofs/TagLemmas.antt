-- A list of tags.
use Rattle.std.proofs.Common.{◌≡◌, ◌≢◌, ◌+◌, ◌-◌, ◌*◌, ◌<◌, ◌≤◌, ◌%◌, ℕ, Bool, true, false, nat_lt}
use Rattle.std.proofs.Common.{List, [], ◌∷◌, length, take, drop, get_or, Option, Some, None, refl}
use Rattle.std.proofs.Common.{sym, ◌∙◌, ap, subst, arith, eq-eqb}
use Rattle.std.specs.Prelude.{◌==◌, ◌||◌, option_map}
use Rattle.std.proofs.lemmas.List.{take_rest}
use Rattle.std.proofs.lemmas.Bool.{ne_eqb}
use Rattle.ber_tlv.proofs.ObjectLemmas.{ltb-is, ltb-not}
use Rattle.isdr_codec.specs.ProfilesInfo.{bit_of_tag, fields_asked, has_tag, tags_in}

one : (a : ℕ) (more : List ℕ) → (a % 32 == 31) ≡ false → tags_in (a ∷ more) ≡ option_map
    (λ tags. a ∷ tags) (tags_in more)
one a [] is = rw is refl
one a (b ∷ []) is = rw is refl
one a (b ∷ c ∷ more) is = rw is refl

two : (a b : ℕ) (more : List ℕ) → (a % 32 == 31) ≡ true → nat_lt b 128 ≡ true
    → tags_in (a ∷ b ∷ more) ≡ option_map (λ tags. (a * 256 + b) ∷ tags) (tags_in more)
two a b [] is below = rw (is, below) refl
two a b (c ∷ more) is below = rw (is, below) refl

three : (a b c : ℕ) (more : List ℕ) → (a % 32 == 31) ≡ true → nat_lt b 128 ≡ false → nat_lt 128 b
    ≡ true → nat_lt c 128 ≡ true
    → tags_in (a ∷ b ∷ c ∷ more) ≡ option_map (λ tags. ((a * 256 + b) * 256 + c) ∷ tags)
    (tags_in more)
three a b c more is not_below above last = rw (is, not_below, above, last) refl

pub tag_1 : (s : List ℕ) (t : ℕ) → 1 ≤ length s → get_or s 0 0 % 32 ≢ 31 → t ≡ get_or s 0 0
    → tags_in s ≡ option_map (λ tags. t ∷ tags) (tags_in (take (length s - 1) (drop 1 s)))
tag_1 s t some apart is =
    subst (λ (rest : List ℕ). tags_in s ≡ option_map (λ tags. t ∷ tags) (tags_in rest))
    (sym (take_rest s 1)) (plain s t some apart is)
  where
    plain : (s : List ℕ) (t : ℕ) → 1 ≤ length s → get_or s 0 0 % 32 ≢ 31 → t ≡ get_or s 0 0
        → tags_in s ≡ option_map (λ tags. t ∷ tags) (tags_in (drop 1 s))
    plain [] t some apart is = absurd (omega (arith, some))
    plain (a ∷ more) t some apart is =
        subst (λ (t : ℕ). tags_in (a ∷ more) ≡ option_map (λ tags. t ∷ tags) (tags_in more))
        (sym is) (one a more (ne_eqb (a % 32) 31 apart))

pub tag_2 : (s : List ℕ) (t : ℕ) → 2 ≤ length s → get_or s 0 0 % 32 ≡ 31 → get_or s 1 0 < 128
    → t ≡ get_or s 0 0 * 256 + get_or s 1 0
    → tags_in s ≡ option_map (λ tags. t ∷ tags) (tags_in (take (length s - 2) (drop 2 s)))
tag_2 s t some long below is =
    subst (λ (rest : List ℕ). tags_in s ≡ option_map (λ tags. t ∷ tags) (tags_in rest))
    (sym (take_rest s 2)) (plain s t some long below is)
  where
    plain : (s : List ℕ) (t : ℕ) → 2 ≤ length s → get_or s 0 0 % 32 ≡ 31 → get_or s 1 0 < 128
        → t ≡ get_or s 0 0 * 256 + get_or s 1 0 → tags_in s ≡ option_map (λ tags. t ∷ tags)
        (tags_in (drop 2 s))
    plain [] t some long below is = absurd (omega (arith, some))
    plain (a ∷ []) t some long below is = absurd (omega (arith, some))
    plain (a ∷ b ∷ more) t some long below is =
        subst (λ (t : ℕ). tags_in (a ∷ b ∷ more) ≡ option_map (λ tags. t ∷ tags) (tags_in more))
        (sym is) (two a b more (eq-eqb (a % 32) 31 long) (ltb-is b 128 below))

pub tag_3 : (s : List ℕ) (t : ℕ) → 3 ≤ length s → get_or s 0 0 % 32 ≡ 31 → 128 < get_or s 1 0
    → get_or s 2 0 < 128 → t ≡ (get_or s 0 0 * 256 + get_or s 1 0) * 256 + get_or s 2 0
    → tags_in s ≡ option_map (λ tags. t ∷ tags) (tags_in (take (length s - 3) (drop 3 s)))
tag_3 s t some long above last is =
    subst (λ (rest : List ℕ). tags_in s ≡ option_map (λ tags. t ∷ tags) (tags_in rest))
    (sym (take_rest s 3)) (plain s t some long above last is)
  where
    plain : (s : List ℕ) (t : ℕ) → 3 ≤ length s → get_or s 0 0 % 32 ≡ 31 → 128 < get_or s 1 0
        → get_or s 2 0 < 128 → t ≡ (get_or s 0 0 * 256 + get_or s 1 0) * 256 + get_or s 2 0
        → tags_in s ≡ option_map (λ tags. t ∷ tags) (tags_in (drop 3 s))
    plain [] t some long above last is = absurd (omega (arith, some))
    plain (a ∷ []) t some long above last is = absurd (omega (arith, some))
    plain (a ∷ b ∷ []) t some long above last is = absurd (omega (arith, some))
    plain (a ∷ b ∷ c ∷ more) t some long above last is =
        subst (λ (t : ℕ). tags_in (a ∷ b ∷ c ∷ more) ≡ option_map (λ tags. t ∷ tags) (tags_in more))
        (sym is)
        (three a b c more (eq-eqb (a % 32) 31 long) (ltb-not b 128 (omega (arith, above)))
        (ltb-is 128 b above) (ltb-is c 128 last))

-- whether a tag is among those of a list of tags
abbrev pub listed_in : ℕ → List ℕ → Option Bool
listed_in tag bytes = option_map (has_tag tag) (tags_in bytes)

joined : (so_far here : Bool) (rest : Bool) → (so_far || (here || rest))
    ≡ ((so_far || here) || rest)
joined true here rest = refl
joined false here rest = refl

stepped : (tag other : ℕ) (so_far : Bool) (tags : Option (List ℕ))
    → option_map (λ b. so_far || b)
    (option_map (has_tag tag) (option_map (λ tags. other ∷ tags) tags)) ≡ option_map
    (λ b. (so_far || (other == tag)) || b) (option_map (has_tag tag) tags)
stepped tag other so_far None = refl
stepped tag other so_far (Some tags) =
    ap (λ (b : Bool). Some b) (joined so_far (other == tag) (has_tag tag tags))

pub next : (tag other : ℕ) (so_far : Bool) (value rest behind : List ℕ) → tags_in rest ≡ option_map
    (λ tags. other ∷ tags) (tags_in behind)
    → option_map (λ b. so_far || b) (listed_in tag rest) ≡ listed_in tag value
    → option_map (λ b. (so_far || (other == tag)) || b) (listed_in tag behind) ≡ listed_in tag value
next tag other so_far value rest behind is so =
    sym
    (ap (λ (tags : Option (List ℕ)). option_map (λ b. so_far || b)
    (option_map (has_tag tag) tags)) is ∙ stepped tag other so_far (tags_in behind)) ∙ so

pub broken : (tag : ℕ) (so_far : Bool) (value rest : List ℕ) → tags_in rest ≡ None
    → option_map (λ b. so_far || b) (listed_in tag rest) ≡ listed_in tag value → listed_in tag value
    ≡ None
broken tag so_far value rest none so =
    sym so ∙ ap (λ (tags : Option (List ℕ)). option_map (λ b. so_far || b)
    (option_map (has_tag tag) tags)) none

or_false : (b : Bool) → (b || false) ≡ b
or_false true = refl
or_false false = refl

pub ended : (tag : ℕ) (so_far : Bool) (value rest : List ℕ) → rest ≡ []
    → option_map (λ b. so_far || b) (listed_in tag rest) ≡ listed_in tag value → Some so_far
    ≡ listed_in tag value
ended tag so_far value rest none so =
    ap (λ (b : Bool). Some b) (sym (or_false so_far))
    ∙ (ap (λ (rest : List ℕ). option_map (λ b. so_far || b) (listed_in tag rest)) (sym none)
    ∙ so)

same : (o : Option Bool) → option_map (λ b. false || b) o ≡ o
same None = refl
same (Some b) = refl

pub at_first : (tag : ℕ) (value : List ℕ) → option_map (λ b. false || b) (listed_in tag value)
    ≡ listed_in tag value
at_first tag value = same (listed_in tag value)

-- the bit of a tag, from whether it is listed
pub bit_set : (tag bit : ℕ) (tags : Option (List ℕ)) → Some true ≡ option_map (has_tag tag) tags
    → Some bit ≡ option_map (bit_of_tag tag bit) tags
bit_set tag bit None is = absurd cc
bit_set tag bit (Some tags) is = let its : has_tag tag tags ≡ true = cc in rw its refl

pub bit_unset : (tag bit : ℕ) (tags : Option (List ℕ)) → Some false ≡ option_map (has_tag tag) tags
    → Some 0 ≡ option_map (bit_of_tag tag bit) tags
bit_unset tag bit None is = absurd cc
bit_unset tag bit (Some tags) is = let its : has_tag tag tags ≡ false = cc in rw its refl

pub no_bit : (tag bit : ℕ) (tags : Option (List ℕ)) → None ≡ option_map (has_tag tag) tags
    → None ≡ option_map (bit_of_tag tag bit) tags
no_bit tag bit None is = refl
no_bit tag bit (Some tags) is = absurd cc

-- the fields that are asked for, from the bits
pub none_asked : (tag bit : ℕ) (tags : Option (List ℕ)) → None ≡ option_map (bit_of_tag tag bit)
    tags → None ≡ option_map fields_asked tags
none_asked tag bit None is = refl
none_asked tag bit (Some tags) is = absurd cc

pub all_asked : (tags : Option (List ℕ)) (a b c d e f g h : ℕ)
    → Some a ≡ option_map (bit_of_tag 0x5A 1) tags → Some b ≡ option_map (bit_of_tag 0x4F 2) tags
    → Some c ≡ option_map (bit_of_tag 0x9F70 4) tags
    → Some d ≡ option_map (bit_of_tag 0x9F24 8) tags → Some e ≡ option_map (bit_of_tag 0x90 16) tags
    → Some f ≡ option_map (bit_of_tag 0x91 32) tags
    → Some g ≡ option_map (bit_of_tag 0x92 64) tags → Some h ≡ option_map (bit_of_tag 0x95 128) tags
    → Some (a + b + c + d + e + f + g + h) ≡ option_map fields_asked tags
all_asked None a b c d e f g h p q r s t u v w = absurd cc
all_asked (Some tags) a b c d e f g h p q r s t u v w =
    let p : a ≡ bit_of_tag 0x5A 1 tags = cc in
    let q : b ≡ bit_of_tag 0x4F 2 tags = cc in
    let r : c ≡ bit_of_tag 0x9F70 4 tags = cc in
    let s : d ≡ bit_of_tag 0x9F24 8 tags = cc in
    let t : e ≡ bit_of_tag 0x90 16 tags = cc in
    let u : f ≡ bit_of_tag 0x91 32 tags = cc in
    let v : g ≡ bit_of_tag 0x92 64 tags = cc in
    let w : h ≡ bit_of_tag 0x95 128 tags = cc in
    rw (p, q, r, s, t, u, v, w) refl
