-- A data object is read just where it stands.
use Rattle.std.proofs.Common.{◌≡◌, ℕ, zero, suc, ◌+◌, ◌*◌, ◌%◌, ◌<◌, ◌≤◌, Bool, true, false, cond}
use Rattle.std.proofs.Common.{List, [], ◌∷◌, ◌++◌, length, drop, Option, Some, None, refl, sym, ◌∙◌}
use Rattle.std.proofs.Common.{ap, subst, arith, eq-eqb}
use Rattle.std.proofs.lemmas.Bool.{cond-true, cond-false}
use Rattle.std.specs.Prelude.{◌==◌, ◌&&◌, nat_lt, nat_le, IfSome, option_and_then, option_map}
use Rattle.std.proofs.lemmas.Bool.{ltb-true, leb-true, eqb-false}
use Rattle.std.proofs.lemmas.Bool.Decides.{nat_tests}
use Rattle.std.proofs.lemmas.List.{length-append}
use Rattle.std.proofs.Math.Seq.{take-append_seam, drop-append_seam}
use Rattle.ber_tlv.specs.Tag.{SpellsTag}
use Rattle.ber_tlv.specs.Length.{SpellsLength}
use Rattle.ber_tlv.specs.Tlv.{BeginsWith}
use Rattle.ber_tlv.specs.Parts.{BeginsWithTag, BeginsWithLength}
use Rattle.ber_tlv.specs.Walk.{LeadWith, Object}
use Rattle.ber_tlv.proofs.Reading.{tag_of, length_of}
use Rattle.ber_tlv.proofs.Refusal.{found_at}
use Rattle.ber_tlv.proofs.Walking.{shorter}
use Rattle.ber_tlv.specs.Objects.{Read, long_tag, tag_at, long_length, length_at, value_at}
use Rattle.ber_tlv.specs.Objects.{object_at, objects_in, objects_of}

-- of a choice by a test
pub by_test : {A : Type 0} (P : A → Type 0) (b : Bool) (x y : A) → (b ≡ true → P x) → (b ≡ false → P y) → P (cond b x y)
by_test P true x y h k = h refl
by_test P false x y h k = k refl

pub both : (a b : Bool) → (a && b) ≡ true → (a ≡ true) × (b ≡ true)
both true b h = (refl, h)
both false b h = absurd (cc)

-- what holds of the value where there is one
unfoldable pub Sound : {X : Type 0} → (X → Type 0) → Option X → Type 0
Sound P o = IfSome o P

pub some : {X : Type 0} (P : X → Type 0) (x : X) → P x → Sound P (Some x)
unfolding Sound
some P x h = h

pub none : {X : Type 0} (P : X → Type 0) → Sound P None
unfolding Sound
none P = tt

pub of_some : {X : Type 0} (P : X → Type 0) (o : Option X) (x : X) → Sound P o → o ≡ Some x → P x
unfolding Sound
of_some P None x h e = absurd (cc)
of_some P (Some y) x h e = let i : y ≡ x = cc in subst P i h

pub and_then : {A B : Type 0} (f : A → Option B) (P : A → Type 0) (Q : B → Type 0) (o : Option A) → Sound P o → ((x : A) → P x → Sound Q (f x)) → Sound Q (option_and_then f o)
unfolding Sound
and_then f P Q None h k = tt
and_then f P Q (Some x) h k = k x h

pub mapped : {A B : Type 0} (f : A → B) (P : A → Type 0) (Q : B → Type 0) (o : Option A) → Sound P o → ((x : A) → P x → Q (f x)) → Sound Q (option_map f o)
unfolding Sound
mapped f P Q None h k = tt
mapped f P Q (Some x) h k = k x h

pub weaken : {X : Type 0} (P Q : X → Type 0) (o : Option X) → Sound P o → ((x : X) → P x → Q x) → Sound Q o
unfolding Sound
weaken P Q None h k = tt
weaken P Q (Some x) h k = k x h

pub no_value : {X : Type 0} (P : X → Type 0) (o : Option X) → Sound P o → ((x : X) → ¬ P x) → o ≡ None
unfolding Sound
no_value P None h k = refl
no_value P (Some x) h k = absurd (k x h)

-- two readings that are sound for one thing and find what is there are the same
pub same_values : {X : Type 0} (P : X → Type 0) (o p : Option X) → Sound P o → Sound P p → ((x : X) → P x → o ≡ Some x) → ((x : X) → P x → p ≡ Some x) → o ≡ p
unfolding Sound
same_values P None None h k l m = refl
same_values P None (Some y) h k l m = l y k
same_values P (Some x) p h k l m = sym (m x h)

-- what a tag, a length reads as
module _ (bytes : List ℕ) where
  abbrev HasTag : Read ℕ → Type 0
  HasTag r = BeginsWithTag bytes r.found r.behind

  abbrev HasLength : Read ℕ → Type 0
  HasLength r = BeginsWithLength bytes r.found r.behind

long_tag_there : (a : ℕ) (more : List ℕ) → a < 256 → a % 32 ≡ 31 → Sound (HasTag (a ∷ more)) (long_tag a more)
unfolding long_tag
long_tag_there a [] h i = none _
long_tag_there a (b ∷ []) h i = by_test (Sound (HasTag (a ∷ b ∷ []))) _ _ _
    (λ t. some _ _ (record { prefix = a ∷ b ∷ []; tagged = (h, i, ltb-true b 128 t, refl); whole = refl }))
    (λ t. none _)
long_tag_there a (b ∷ c ∷ more) h i = by_test (Sound (HasTag (a ∷ b ∷ c ∷ more))) _ _ _
    (λ t. some _ _ (record { prefix = a ∷ b ∷ []; tagged = (h, i, ltb-true b 128 t, refl); whole = refl }))
    (λ t. by_test (Sound (HasTag (a ∷ b ∷ c ∷ more))) _ _ _
    (λ u.
    let v = both (nat_lt 128 b && nat_lt b 256) (nat_lt c 128) u in
    let w = both (nat_lt 128 b) (nat_lt b 256) v.0 in
    some _ _ (record { prefix = a ∷ b ∷ c ∷ []; tagged = (h, i, ltb-true 128 b w.0, ltb-true b 256 w.1, ltb-true c 128 v.1, refl); whole = refl }))
    (λ u. none _))

pub eqb-is : (a b : ℕ) → (a == b) ≡ true → a ≡ b
eqb-is a b h = grind (arith, nat_tests)

-- a tag that is another
pub not_tag : (tag n m : ℕ) → tag ≡ n → (n == m) ≡ false → (tag == m) ≡ false
not_tag tag n m h k = rw h k

tag_there : (bytes : List ℕ) → Sound (HasTag bytes) (tag_at bytes)
unfolding tag_at
tag_there [] = none _
tag_there (a ∷ more) = by_test (Sound (HasTag (a ∷ more))) _ _ _
    (λ t. by_test (Sound (HasTag (a ∷ more))) _ _ _
    (λ u. long_tag_there a more (ltb-true a 256 t) (eqb-is (a % 32) 31 u))
    (λ u. some _ _ (record { prefix = a ∷ []; tagged = (ltb-true a 256 t, eqb-false (a % 32) 31 u, refl); whole = refl })))
    (λ t. none _)

long_length_there : (a : ℕ) (more : List ℕ) → Sound (HasLength (a ∷ more)) (long_length a more)
unfolding long_length
long_length_there a [] = none _
long_length_there a (b ∷ []) = by_test (Sound (HasLength (a ∷ b ∷ []))) _ _ _
    (λ t. two a b [] t)
    (λ t. none _)
  where
    two : (a b : ℕ) (more : List ℕ) → (a == 0x81 && nat_lt b 256) ≡ true → Sound (HasLength (a ∷ b ∷ more)) (Some (record { found = b; behind = more }))
    two a b more t =
        let v = both (a == 0x81) (nat_lt b 256) t in
        some _ _ (record { size = a ∷ b ∷ []; sized = (eqb-is a 0x81 v.0, ltb-true b 256 v.1, refl); whole = refl })
long_length_there a (b ∷ c ∷ []) = by_test (Sound (HasLength (a ∷ b ∷ c ∷ []))) _ _ _
    (λ t.
    let v = both (a == 0x81) (nat_lt b 256) t in
    some _ _ (record { size = a ∷ b ∷ []; sized = (eqb-is a 0x81 v.0, ltb-true b 256 v.1, refl); whole = refl }))
    (λ t. by_test (Sound (HasLength (a ∷ b ∷ c ∷ []))) _ _ _
    (λ t.
    let v = both (a == 0x82 && nat_lt b 256) (nat_lt c 256) t in
    let w = both (a == 0x82) (nat_lt b 256) v.0 in
    some _ _ (record { size = a ∷ b ∷ c ∷ []; sized = (eqb-is a 0x82 w.0, ltb-true b 256 w.1, ltb-true c 256 v.1, refl); whole = refl }))
    (λ t. none _))
long_length_there a (b ∷ c ∷ d ∷ more) = by_test (Sound (HasLength (a ∷ b ∷ c ∷ d ∷ more))) _ _ _
    (λ t.
    let v = both (a == 0x81) (nat_lt b 256) t in
    some _ _ (record { size = a ∷ b ∷ []; sized = (eqb-is a 0x81 v.0, ltb-true b 256 v.1, refl); whole = refl }))
    (λ t. by_test (Sound (HasLength (a ∷ b ∷ c ∷ d ∷ more))) _ _ _
    (λ t.
    let v = both (a == 0x82 && nat_lt b 256) (nat_lt c 256) t in
    let w = both (a == 0x82) (nat_lt b 256) v.0 in
    some _ _ (record { size = a ∷ b ∷ c ∷ []; sized = (eqb-is a 0x82 w.0, ltb-true b 256 w.1, ltb-true c 256 v.1, refl); whole = refl }))
    (λ t. by_test (Sound (HasLength (a ∷ b ∷ c ∷ d ∷ more))) _ _ _
    (λ t.
    let u = both (a == 0x83 && nat_lt b 256 && nat_lt c 256) (nat_lt d 256) t in
    let v = both (a == 0x83 && nat_lt b 256) (nat_lt c 256) u.0 in
    let w = both (a == 0x83) (nat_lt b 256) v.0 in
    some _ _ (record { size = a ∷ b ∷ c ∷ d ∷ []; sized = (eqb-is a 0x83 w.0, ltb-true b 256 w.1, ltb-true c 256 v.1, ltb-true d 256 u.1, refl); whole = refl }))
    (λ t. none _)))

length_there : (bytes : List ℕ) → Sound (HasLength bytes) (length_at bytes)
unfolding length_at
length_there [] = none _
length_there (a ∷ more) = by_test (Sound (HasLength (a ∷ more))) _ _ _
    (λ t. some _ _ (record { size = a ∷ []; sized = (ltb-true a 128 t, refl); whole = refl }))
    (λ t. long_length_there a more)

-- the data object stands there
abbrev pub IsThere : List ℕ → Read Object → Type 0
IsThere bytes read = BeginsWith bytes read.found.tag read.found.value read.behind

value_there : (bytes rest : List ℕ) (tag : ℕ) (size : Read ℕ) → BeginsWithTag bytes tag rest → HasLength rest size → Sound (IsThere bytes) (value_at tag size)
unfolding value_at
value_there bytes rest tag size p q = by_test (Sound (IsThere bytes)) _ _ _
    (λ t. some _ _ (found_at bytes rest size.behind tag size.found p q (leb-true size.found (length size.behind) t)))
    (λ t. none _)

pub object_there : (bytes : List ℕ) → Sound (IsThere bytes) (object_at bytes)
unfolding object_at
object_there bytes = and_then _ (HasTag bytes) (IsThere bytes) (tag_at bytes) (tag_there bytes)
    (λ tag p. and_then _ (HasLength tag.behind) (IsThere bytes) (length_at tag.behind) (length_there tag.behind)
    (λ size q. value_there bytes tag.behind tag.found size p q))

-- and where it stands it is read
pub ltb-is : (a b : ℕ) → a < b → nat_lt a b ≡ true
ltb-is a b h = grind (arith, nat_tests)

pub ltb-not : (a b : ℕ) → b ≤ a → nat_lt a b ≡ false
ltb-not a b h = grind (arith, nat_tests)

leb-is : (a b : ℕ) → a ≤ b → nat_le a b ≡ true
leb-is a b h = grind (arith, nat_tests)

pub eqb-not : (a b : ℕ) → (a ≡ b → ⊥) → (a == b) ≡ false
eqb-not a b h = grind (arith, nat_tests)

pub and-is : (a b : Bool) → a ≡ true → b ≡ true → (a && b) ≡ true
and-is a b h k = rw (h, k)

and-not : (a b : Bool) → a ≡ false → (a && b) ≡ false
and-not a b h = rw h

same_read : (m n : ℕ) (x : List ℕ) → n ≡ m → ◌≡◌ {A = Option (Read ℕ)} (Some (record { found = m; behind = x })) (Some (record { found = n; behind = x }))
same_read m n x e = let f : ℕ → Option (Read ℕ) = λ k. Some (record { found = k; behind = x }) in ap f (sym e)

long_tag_read : (a b : ℕ) (x : List ℕ) (t : ℕ) → b < 128 → t ≡ a * 256 + b → long_tag a (b ∷ x) ≡ Some (record { found = t; behind = x })
unfolding long_tag
long_tag_read a b [] t h e = cond-true _ _ _ (ltb-is b 128 h) ∙ same_read _ _ _ e
long_tag_read a b (c ∷ x) t h e = cond-true _ _ _ (ltb-is b 128 h) ∙ same_read _ _ _ e

tag_read : (a x : List ℕ) (t : ℕ) → SpellsTag a t → tag_at (a ++ x) ≡ Some (record { found = t; behind = x })
unfolding tag_at long_tag
tag_read [] x t p = absurd p
tag_read (a ∷ []) x t p = cond-true _ _ _ (ltb-is a 256 p.0) ∙ cond-false _ _ _ (eqb-not (a % 32) 31 p.1) ∙ same_read _ _ _ p.2
tag_read (a ∷ b ∷ []) x t p = cond-true _ _ _ (ltb-is a 256 p.0) ∙ cond-true _ _ _ (eq-eqb (a % 32) 31 p.1) ∙ long_tag_read a b x t p.2 p.3
tag_read (a ∷ b ∷ c ∷ []) x t p =
    cond-true _ _ _ (ltb-is a 256 p.0) ∙ cond-true _ _ _ (eq-eqb (a % 32) 31 p.1)
    ∙ cond-false _ _ _ (ltb-not b 128 (omega arith))
    ∙ cond-true _ _ _ (and-is (nat_lt 128 b && nat_lt b 256) (nat_lt c 128) (and-is (nat_lt 128 b) (nat_lt b 256) (ltb-is 128 b p.2) (ltb-is b 256 p.3)) (ltb-is c 128 p.4))
    ∙ same_read _ _ _ p.5
tag_read (a ∷ b ∷ c ∷ d ∷ m) x t p = absurd p

two_read : (a b : ℕ) (x : List ℕ) (n : ℕ) → a ≡ 0x81 → b < 256 → n ≡ b → long_length a (b ∷ x) ≡ Some (record { found = n; behind = x })
unfolding long_length
two_read a b [] n h i e = cond-true _ _ _ (and-is (a == 0x81) (nat_lt b 256) (eq-eqb a 0x81 h) (ltb-is b 256 i)) ∙ same_read _ _ _ e
two_read a b (c ∷ []) n h i e = cond-true _ _ _ (and-is (a == 0x81) (nat_lt b 256) (eq-eqb a 0x81 h) (ltb-is b 256 i)) ∙ same_read _ _ _ e
two_read a b (c ∷ d ∷ x) n h i e = cond-true _ _ _ (and-is (a == 0x81) (nat_lt b 256) (eq-eqb a 0x81 h) (ltb-is b 256 i)) ∙ same_read _ _ _ e

not_81 : (a b : ℕ) → 0x81 < a → (a == 0x81 && nat_lt b 256) ≡ false
not_81 a b h = and-not (a == 0x81) (nat_lt b 256) (eqb-not a 0x81 (λ e. omega arith))

three_read : (a b c : ℕ) (x : List ℕ) (n : ℕ) → a ≡ 0x82 → b < 256 → c < 256 → n ≡ b * 256 + c → long_length a (b ∷ c ∷ x) ≡ Some (record { found = n; behind = x })
unfolding long_length
three_read a b c [] n h i j e =
    cond-false _ _ _ (not_81 a b (omega arith))
    ∙ cond-true _ _ _ (and-is (a == 0x82 && nat_lt b 256) (nat_lt c 256) (and-is (a == 0x82) (nat_lt b 256) (eq-eqb a 0x82 h) (ltb-is b 256 i)) (ltb-is c 256 j))
    ∙ same_read _ _ _ e
three_read a b c (d ∷ x) n h i j e =
    cond-false _ _ _ (not_81 a b (omega arith))
    ∙ cond-true _ _ _ (and-is (a == 0x82 && nat_lt b 256) (nat_lt c 256) (and-is (a == 0x82) (nat_lt b 256) (eq-eqb a 0x82 h) (ltb-is b 256 i)) (ltb-is c 256 j))
    ∙ same_read _ _ _ e

not_82 : (a b c : ℕ) → a ≡ 0x83 → (a == 0x82 && nat_lt b 256 && nat_lt c 256) ≡ false
not_82 a b c h = and-not (a == 0x82 && nat_lt b 256) (nat_lt c 256) (and-not (a == 0x82) (nat_lt b 256) (eqb-not a 0x82 (λ e. omega arith)))

four_read : (a b c d : ℕ) (x : List ℕ) (n : ℕ) → a ≡ 0x83 → b < 256 → c < 256 → d < 256 → n ≡ (b * 256 + c) * 256 + d → long_length a (b ∷ c ∷ d ∷ x) ≡ Some (record { found = n; behind = x })
unfolding long_length
four_read a b c d x n h i j k e =
    cond-false _ _ _ (not_81 a b (omega arith))
    ∙ cond-false _ _ _ (not_82 a b c h)
    ∙ cond-true _ _ _ (and-is (a == 0x83 && nat_lt b 256 && nat_lt c 256) (nat_lt d 256)
    (and-is (a == 0x83 && nat_lt b 256) (nat_lt c 256) (and-is (a == 0x83) (nat_lt b 256) (eq-eqb a 0x83 h) (ltb-is b 256 i)) (ltb-is c 256 j))
    (ltb-is d 256 k))
    ∙ same_read _ _ _ e

length_read : (a x : List ℕ) (n : ℕ) → SpellsLength a n → length_at (a ++ x) ≡ Some (record { found = n; behind = x })
unfolding length_at
length_read [] x n p = absurd p
length_read (a ∷ []) x n p = cond-true _ _ _ (ltb-is a 128 p.0) ∙ same_read _ _ _ p.1
length_read (a ∷ b ∷ []) x n p = cond-false _ _ _ (ltb-not a 128 (omega arith)) ∙ two_read a b x n p.0 p.1 p.2
length_read (a ∷ b ∷ c ∷ []) x n p = cond-false _ _ _ (ltb-not a 128 (omega arith)) ∙ three_read a b c x n p.0 p.1 p.2 p.3
length_read (a ∷ b ∷ c ∷ d ∷ []) x n p = cond-false _ _ _ (ltb-not a 128 (omega arith)) ∙ four_read a b c d x n p.0 p.1 p.2 p.3 p.4
length_read (a ∷ b ∷ c ∷ d ∷ e ∷ m) x n p = absurd p

value_read : (tag : ℕ) (v rest : List ℕ) → value_at tag (record { found = length v; behind = v ++ rest }) ≡ Some (record { found = record { tag = tag; value = v }; behind = rest })
unfolding value_at
value_read tag v rest =
    let more : length v ≤ length (v ++ rest) = omega (arith, length-append v rest) in
    let made : List ℕ → List ℕ → Option (Read Object) = λ x y. Some (record { found = record { tag = tag; value = x }; behind = y }) in
    cond-true _ _ _ (leb-is (length v) (length (v ++ rest)) more)
    ∙ ap (λ x. made x (drop (length v) (v ++ rest))) (take-append_seam v rest)
    ∙ ap (λ x. made v x) (drop-append_seam v rest)

pub object_read : (bytes : List ℕ) (object : Object) (rest : List ℕ) → BeginsWith bytes object.tag object.value rest → object_at bytes ≡ Some (record { found = object; behind = rest })
unfolding object_at
object_read bytes object rest p =
    let t = tag_of p in
    let l = length_of p in
    let whole : tag_at bytes ≡ Some (record { found = object.tag; behind = p.spelled.size ++ object.value ++ rest }) =
    ap tag_at t.whole ∙ tag_read t.prefix _ object.tag t.tagged in
    let sized : length_at (p.spelled.size ++ object.value ++ rest) ≡ Some (record { found = length object.value; behind = object.value ++ rest }) =
    ap length_at l.whole ∙ length_read l.size _ (length object.value) l.sized in
    ap (option_and_then (λ (tag : Read ℕ). option_and_then (value_at tag.found) (length_at tag.behind))) whole
    ∙ ap (option_and_then (value_at object.tag)) sized
    ∙ value_read object.tag object.value rest

-- what isn't there isn't read
pub no_object : (bytes : List ℕ) → ((tag : ℕ) (value rest : List ℕ) → ¬ BeginsWith bytes tag value rest) → object_at bytes ≡ None
no_object bytes h = no_value (IsThere bytes) (object_at bytes) (object_there bytes) (λ r p. h r.found.tag r.found.value r.behind p)

-- the objects that fill the bytes
pub objects_there : (most : ℕ) (bytes : List ℕ) → Sound (λ objects. LeadWith bytes objects []) (objects_in most bytes)
unfolding objects_in
objects_there zero [] = some _ _ refl
objects_there (suc most) [] = some _ _ refl
objects_there zero (b ∷ bytes) = none _
objects_there (suc most) (b ∷ bytes) =
    and_then _ (IsThere (b ∷ bytes)) (λ objects. LeadWith (b ∷ bytes) objects []) (object_at (b ∷ bytes)) (object_there (b ∷ bytes))
    (λ read p. mapped (λ objects. read.found ∷ objects) (λ objects. LeadWith read.behind objects []) (λ objects. LeadWith (b ∷ bytes) objects [])
    (objects_in most read.behind) (objects_there most read.behind) (λ objects q. (read.behind, p, q)))

pub objects_read : (objects : List Object) (most : ℕ) (bytes : List ℕ) → length bytes ≤ most → LeadWith bytes objects [] → objects_in most bytes ≡ Some objects
unfolding objects_in
objects_read [] zero [] h p = refl
objects_read [] (suc most) [] h p = refl
objects_read [] most (b ∷ bytes) h p = absurd (cc)
objects_read (o ∷ os) most [] h p = let s = shorter p.1 in absurd (omega arith)
objects_read (o ∷ os) zero (b ∷ bytes) h p = absurd (omega arith)
objects_read (o ∷ os) (suc most) (b ∷ bytes) h p =
    let s = shorter p.1 in
    let e = object_read (b ∷ bytes) o p.0 p.1 in
    let i : objects_in most p.0 ≡ Some os = objects_read os most p.0 (omega arith) p.2 in
    ap (option_and_then (λ (read : Read Object). option_map (λ objects. read.found ∷ objects) (objects_in most read.behind))) e
    ∙ ap (option_map (λ objects. o ∷ objects)) i

pub objects_fill : (bytes : List ℕ) → Sound (λ objects. LeadWith bytes objects []) (objects_of bytes)
unfolding objects_of
objects_fill bytes = objects_there (length bytes) bytes

pub objects_filled : (bytes : List ℕ) (objects : List Object) → LeadWith bytes objects [] → objects_of bytes ≡ Some objects
unfolding objects_of
objects_filled bytes objects whole = objects_read objects (length bytes) bytes (omega arith) whole

-- one object and those behind it
pub objects_step : (bytes : List ℕ) (read : Read Object) → object_at bytes ≡ Some read → objects_of bytes ≡ option_map (λ objects. read.found ∷ objects) (objects_of read.behind)
unfolding objects_of objects_in
objects_step [] read e = absurd (no_bytes read (of_some (IsThere []) (object_at []) read (object_there []) e))
  where
    no_bytes : (read : Read Object) → ¬ IsThere [] read
    no_bytes read p = let s = shorter p in absurd (omega arith)
objects_step (b ∷ bytes) read e =
    let p : IsThere (b ∷ bytes) read = of_some (IsThere (b ∷ bytes)) (object_at (b ∷ bytes)) read (object_there (b ∷ bytes)) e in
    let s = shorter p in
    let short : length read.behind ≤ length bytes = omega arith in
    let i : objects_in (length bytes) read.behind ≡ objects_in (length read.behind) read.behind =
    same_values (λ objects. LeadWith read.behind objects []) _ _
    (objects_there (length bytes) read.behind) (objects_there (length read.behind) read.behind)
    (λ os q. objects_read os (length bytes) read.behind short q)
    (λ os q. objects_read os (length read.behind) read.behind (omega arith) q) in
    ap (option_and_then (λ (read : Read Object). option_map (λ objects. read.found ∷ objects) (objects_in (length bytes) read.behind))) e
    ∙ ap (option_map (λ objects. read.found ∷ objects)) i

pub no_step : (b : ℕ) (bytes : List ℕ) → object_at (b ∷ bytes) ≡ None → objects_of (b ∷ bytes) ≡ None
unfolding objects_of objects_in
no_step b bytes e = ap (option_and_then (λ (read : Read Object). option_map (λ objects. read.found ∷ objects) (objects_in (length bytes) read.behind))) e

pub no_objects : objects_of [] ≡ Some []
unfolding objects_of objects_in
no_objects = refl
