-- Bytes begin with a head, or a reader refuses them.
use Rattle.std.proofs.Common.{◌≡◌, ℕ, ◌+◌, ◌*◌, ◌<◌, ◌≤◌, ◌%◌, List, [], ◌∷◌, ◌++◌, refl, sym, ◌∙◌}
use Rattle.std.proofs.Common.{ap, subst, ◌⊎◌, ⊎_elim, inl, inr, arith, append_assoc}
use Rattle.std.proofs.lemmas.Bool.{cases_eq, cases_lt}
use Rattle.ber_tlv.specs.declared.fault.TlvFault.{TlvFault}
use Rattle.ber_tlv.specs.declared.fault.TlvFault.TheVariants.{Short, BadTag, BadLength}
use Rattle.ber_tlv.specs.Tag.{SpellsTag, HasBadTag}
use Rattle.ber_tlv.specs.Length.{SpellsLength}
use Rattle.ber_tlv.specs.Parts.{BeginsBadly, BeginsWithTag, BeginsWithLength, RefusesTag}
use Rattle.ber_tlv.specs.Parts.{RefusesLength}
use Rattle.ber_tlv.specs.Head.{BeginsWithHead, RefusesHead}
use Rattle.ber_tlv.proofs.Heads.{head_refused_at_tag, head_refused_at_length}

-- a fact that holds or doesn't
abbrev pub IsDecided : Type 0 → Type 0
IsDecided P = P ⊎ ¬ P

pub both_decided : {P Q : Type 0} → IsDecided P → IsDecided Q → IsDecided (P × Q)
both_decided p q = ⊎_elim
    (λ a. ⊎_elim (λ b. inl (a, b)) (λ no. inr (λ h. no h.1)) q) (λ no. inr (λ h. no h.0)) p

pub either_decided : {P Q : Type 0} → IsDecided P → IsDecided Q → IsDecided (P ⊎ Q)
either_decided p q = ⊎_elim (λ a. inl (inl a))
    (λ no. ⊎_elim (λ b. inl (inr b)) (λ not. inr (λ h. ⊎_elim no not h)) q) p

not_decided : {P : Type 0} → IsDecided P → IsDecided (¬ P)
not_decided p = ⊎_elim (λ a. inr (λ no. no a)) (λ no. inl no) p

pub below : (a b : ℕ) → IsDecided (a < b)
below a b = ⊎_elim (λ less. inl less) (λ more. inr (λ less. absurd (omega arith))) (cases_lt a b)

pub upto : (a b : ℕ) → IsDecided (a ≤ b)
upto a b = ⊎_elim (λ less. inr (λ most. absurd (omega arith))) (λ more. inl more) (cases_lt b a)

pub same : (a b : ℕ) → IsDecided (a ≡ b)
same a b = ⊎_elim (λ e. inl e) (λ no. inr no) (cases_eq a b)

-- the first bytes are those of a tag
abbrev IsTagFirst : List ℕ → Type 0
IsTagFirst [] = ⊥
IsTagFirst (a ∷ []) = (a < 256) × (¬ (a % 32 ≡ 31))
IsTagFirst (a ∷ b ∷ []) = (a < 256) × ((¬ (a % 32 ≡ 31)) ⊎ ((a % 32 ≡ 31) × (b < 128)))
IsTagFirst (a ∷ b ∷ c ∷ more) =
    (a < 256) × ((¬ (a % 32 ≡ 31))
    ⊎ ((a % 32 ≡ 31) × ((b < 128) ⊎ ((128 < b) × ((b < 256) × (c < 128))))))

first_decided : (bytes : List ℕ) → IsDecided (IsTagFirst bytes)
first_decided [] = inr (λ h. h)
first_decided (a ∷ []) = both_decided (below a 256) (not_decided (same (a % 32) 31))
first_decided (a ∷ b ∷ []) = both_decided (below a 256)
    (either_decided (not_decided (same (a % 32) 31))
    (both_decided (same (a % 32) 31) (below b 128)))
first_decided (a ∷ b ∷ c ∷ more) = both_decided (below a 256)
    (either_decided (not_decided (same (a % 32) 31)) (both_decided (same (a % 32) 31)
    (either_decided (below b 128)
    (both_decided (below 128 b) (both_decided (below b 256) (below c 128))))))

bad_tag_decided : (bytes : List ℕ) → IsDecided (HasBadTag bytes)
bad_tag_decided [] = inr (λ h. h)
bad_tag_decided (a ∷ []) = inr (λ h. h)
bad_tag_decided (a ∷ b ∷ []) = both_decided (same (a % 32) 31) (same b 128)
bad_tag_decided (a ∷ b ∷ c ∷ more) = both_decided (same (a % 32) 31)
    (either_decided (same b 128) (both_decided (below 128 b) (upto 128 c)))

-- the bytes begin with some tag
abbrev SomeTag : List ℕ → Type 0
SomeTag bytes = (t : ℕ) × (rest : List ℕ) × BeginsWithTag bytes t rest

tag_of_one : (a : ℕ) (rest : List ℕ) → a < 256 → ¬ (a % 32 ≡ 31) → SomeTag (a ∷ rest)
tag_of_one a rest h other =
    (a, rest, record { prefix = a ∷ []; tagged = (h, other, refl); whole = refl })

tag_of_two : (a b : ℕ) (rest : List ℕ) → a < 256 → a % 32 ≡ 31 → b < 128 → SomeTag (a ∷ b ∷ rest)
tag_of_two a b rest h e k = (
  a * 256 + b,
  rest,
  record { prefix = a ∷ b ∷ []; tagged = (h, e, k, refl); whole = refl },
)

tag_of_three : (a b c : ℕ) (rest : List ℕ) → a < 256 → a % 32 ≡ 31
    → 128 < b → b < 256 → c < 128 → SomeTag (a ∷ b ∷ c ∷ rest)
tag_of_three a b c rest h e low high last = (
  (a * 256 + b) * 256 + c,
  rest,
  record { prefix = a ∷ b ∷ c ∷ []; tagged = (h, e, low, high, last, refl); whole = refl },
)

tag_first : (bytes : List ℕ) → IsTagFirst bytes → SomeTag bytes
tag_first [] h = absurd h
tag_first (a ∷ []) h = tag_of_one a [] h.0 h.1
tag_first (a ∷ b ∷ []) h = ⊎_elim (λ one. tag_of_one a (b ∷ []) h.0 one)
    (λ two. tag_of_two a b [] h.0 two.0 two.1) h.1
tag_first (a ∷ b ∷ c ∷ more) h = ⊎_elim (λ one. tag_of_one a (b ∷ c ∷ more) h.0 one)
    (λ longer. ⊎_elim (λ two. tag_of_two a b (c ∷ more) h.0 longer.0 two)
    (λ three. tag_of_three a b c more h.0 longer.0 three.0 three.1.0 three.1.1) longer.1) h.1

-- a tag and what follows have the tag's bytes first
first_of_tag : (tagged rest : List ℕ) (t : ℕ) → SpellsTag tagged t → IsTagFirst (tagged ++ rest)
first_of_tag [] rest t s = absurd s
first_of_tag (a ∷ []) [] t s = (s.0, s.1)
first_of_tag (a ∷ []) (b ∷ []) t s = (s.0, inl s.1)
first_of_tag (a ∷ []) (b ∷ c ∷ more) t s = (s.0, inl s.1)
first_of_tag (a ∷ b ∷ []) [] t s = (s.0, inr (s.1, s.2))
first_of_tag (a ∷ b ∷ []) (c ∷ more) t s = (s.0, inr (s.1, inl s.2))
first_of_tag (a ∷ b ∷ c ∷ []) rest t s = (s.0, inr (s.1, inr (s.2, (s.3, s.4))))
first_of_tag (a ∷ b ∷ c ∷ d ∷ more) rest t s = absurd s

each_tag : (bytes : List ℕ) → SomeTag bytes ⊎ ((fault : TlvFault) × RefusesTag bytes fault)
each_tag bytes = ⊎_elim (λ first. inl (tag_first bytes first))
    (λ no. ⊎_elim (λ bad. inr (BadTag, bad))
    (λ good. inr (
      Short,
      (
        good,
        λ t rest p. no (subst (λ (s : List ℕ). IsTagFirst s) (sym p.whole)
            (first_of_tag p.prefix rest t p.tagged)),
      ),
    )) (bad_tag_decided bytes)) (first_decided bytes)

-- the first bytes are those of a length
abbrev IsLengthFirst : List ℕ → Type 0
IsLengthFirst [] = ⊥
IsLengthFirst (a ∷ []) = a < 128
IsLengthFirst (a ∷ b ∷ []) = (a < 128) ⊎ ((a ≡ 0x81) × (b < 256))
IsLengthFirst (a ∷ b ∷ c ∷ []) =
    (a < 128) ⊎ (((a ≡ 0x81) × (b < 256)) ⊎ ((a ≡ 0x82) × ((b < 256) × (c < 256))))
IsLengthFirst (a ∷ b ∷ c ∷ d ∷ more) =
    (a < 128) ⊎ (((a ≡ 0x81) × (b < 256)) ⊎ (((a ≡ 0x82) × ((b < 256) × (c < 256)))
    ⊎ ((a ≡ 0x83) × ((b < 256) × ((c < 256) × (d < 256))))))

length_decided : (bytes : List ℕ) → IsDecided (IsLengthFirst bytes)
length_decided [] = inr (λ h. h)
length_decided (a ∷ []) = below a 128
length_decided (a ∷ b ∷ []) = either_decided (below a 128)
    (both_decided (same a 0x81) (below b 256))
length_decided (a ∷ b ∷ c ∷ []) = either_decided (below a 128)
    (either_decided (both_decided (same a 0x81) (below b 256))
    (both_decided (same a 0x82) (both_decided (below b 256) (below c 256))))
length_decided (a ∷ b ∷ c ∷ d ∷ more) = either_decided (below a 128)
    (either_decided (both_decided (same a 0x81) (below b 256))
    (either_decided (both_decided (same a 0x82) (both_decided (below b 256) (below c 256)))
    (both_decided (same a 0x83)
    (both_decided (below b 256) (both_decided (below c 256) (below d 256))))))

bad_length_decided : (bytes : List ℕ) → IsDecided (BeginsBadly bytes)
bad_length_decided [] = inr (λ h. h)
bad_length_decided (first ∷ more) = either_decided (same first 0x80) (below 0x83 first)

-- the bytes begin with some length
abbrev SomeLength : List ℕ → Type 0
SomeLength bytes = (n : ℕ) × (rest : List ℕ) × BeginsWithLength bytes n rest

length_of_one : (a : ℕ) (rest : List ℕ) → a < 128 → SomeLength (a ∷ rest)
length_of_one a rest h = (a, rest, record { size = a ∷ []; sized = (h, refl); whole = refl })

length_of_two : (a b : ℕ) (rest : List ℕ) → a ≡ 0x81 → b < 256 → SomeLength (a ∷ b ∷ rest)
length_of_two a b rest e h =
    (b, rest, record { size = a ∷ b ∷ []; sized = (e, h, refl); whole = refl })

length_of_three : (a b c : ℕ) (rest : List ℕ) → a ≡ 0x82 → b < 256 → c < 256
    → SomeLength (a ∷ b ∷ c ∷ rest)
length_of_three a b c rest e h k = (
  b * 256 + c,
  rest,
  record { size = a ∷ b ∷ c ∷ []; sized = (e, h, k, refl); whole = refl },
)

length_of_four : (a b c d : ℕ) (rest : List ℕ) → a ≡ 0x83 → b < 256 → c < 256 → d < 256
    → SomeLength (a ∷ b ∷ c ∷ d ∷ rest)
length_of_four a b c d rest e h k l = (
  (b * 256 + c) * 256 + d,
  rest,
  record { size = a ∷ b ∷ c ∷ d ∷ []; sized = (e, h, k, l, refl); whole = refl },
)

length_first : (bytes : List ℕ) → IsLengthFirst bytes → SomeLength bytes
length_first [] h = absurd h
length_first (a ∷ []) h = length_of_one a [] h
length_first (a ∷ b ∷ []) h = ⊎_elim (λ one. length_of_one a (b ∷ []) one)
    (λ two. length_of_two a b [] two.0 two.1) h
length_first (a ∷ b ∷ c ∷ []) h = ⊎_elim (λ one. length_of_one a (b ∷ c ∷ []) one)
    (λ longer. ⊎_elim (λ two. length_of_two a b (c ∷ []) two.0 two.1)
    (λ three. length_of_three a b c [] three.0 three.1.0 three.1.1) longer) h
length_first (a ∷ b ∷ c ∷ d ∷ more) h = ⊎_elim
    (λ one. length_of_one a (b ∷ c ∷ d ∷ more) one)
    (λ longer. ⊎_elim (λ two. length_of_two a b (c ∷ d ∷ more) two.0 two.1)
    (λ longest. ⊎_elim (λ three. length_of_three a b c (d ∷ more) three.0 three.1.0 three.1.1)
    (λ four. length_of_four a b c d more four.0 four.1.0 four.1.1.0 four.1.1.1) longest) longer) h

-- a length and what follows have the length's bytes first
first_of_length : (size rest : List ℕ) (n : ℕ) → SpellsLength size n → IsLengthFirst (size ++ rest)
first_of_length [] rest n s = absurd s
first_of_length (a ∷ []) [] n s = s.0
first_of_length (a ∷ []) (b ∷ []) n s = inl s.0
first_of_length (a ∷ []) (b ∷ c ∷ []) n s = inl s.0
first_of_length (a ∷ []) (b ∷ c ∷ d ∷ more) n s = inl s.0
first_of_length (a ∷ b ∷ []) [] n s = inr (s.0, s.1)
first_of_length (a ∷ b ∷ []) (c ∷ []) n s = inr (inl (s.0, s.1))
first_of_length (a ∷ b ∷ []) (c ∷ d ∷ more) n s = inr (inl (s.0, s.1))
first_of_length (a ∷ b ∷ c ∷ []) [] n s = inr (inr (s.0, (s.1, s.2)))
first_of_length (a ∷ b ∷ c ∷ []) (d ∷ more) n s = inr (inr (inl (s.0, (s.1, s.2))))
first_of_length (a ∷ b ∷ c ∷ d ∷ []) rest n s = inr (inr (inr (s.0, (s.1, (s.2, s.3)))))
first_of_length (a ∷ b ∷ c ∷ d ∷ e ∷ more) rest n s = absurd s

each_length : (bytes : List ℕ)
    → SomeLength bytes ⊎ ((fault : TlvFault) × RefusesLength bytes fault)
each_length bytes = ⊎_elim (λ first. inl (length_first bytes first))
    (λ no. ⊎_elim (λ bad. inr (BadLength, bad))
    (λ good. inr (
      Short,
      (
        good,
        λ n rest p. no (subst (λ (s : List ℕ). IsLengthFirst s)
            (sym p.whole) (first_of_length p.size rest n p.sized)),
      ),
    )) (bad_length_decided bytes))
    (length_decided bytes)

-- the bytes begin with some head
abbrev pub SomeHead : List ℕ → Type 0
SomeHead bytes = (t : ℕ) × (n : ℕ) × (rest : List ℕ) × BeginsWithHead bytes t n rest

head_of : (bytes rest more : List ℕ) (t n : ℕ) → BeginsWithTag bytes t rest
    → BeginsWithLength rest n more → SomeHead bytes
head_of bytes rest more t n p q = (
  t,
  n,
  more,
  record {
    head = p.prefix ++ q.size;
    spelled = record {
      prefix = p.prefix;
      size = q.size;
      tagged = p.tagged;
      sized = q.sized;
      whole = refl;
    };
    whole = p.whole ∙ ap (λ s. p.prefix ++ s) q.whole ∙ sym
        (append_assoc p.prefix q.size more);
  },
)

pub each_head : (bytes : List ℕ)
    → SomeHead bytes ⊎ ((fault : TlvFault) × RefusesHead bytes fault)
each_head bytes = ⊎_elim
    (λ tagged. ⊎_elim
    (λ sized. inl (head_of bytes tagged.1 sized.1 tagged.0 sized.0 tagged.2 sized.2))
    (λ refused. inr (
      refused.0,
      head_refused_at_length bytes tagged.1 tagged.0 refused.0 tagged.2 refused.1,
    ))
    (each_length tagged.1))
    (λ refused. inr (refused.0, head_refused_at_tag bytes refused.0 refused.1)) (each_tag bytes)
