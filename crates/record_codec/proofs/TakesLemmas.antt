-- What was read is what was written.
use Rattle.std.proofs.Common.{◌≡◌, ℕ, zero, suc, ◌+◌, ◌^◌, ◌<◌, ◌≤◌, Bool, true, false, cond, ltb}
use Rattle.std.proofs.Common.{List, [], ◌∷◌, ◌++◌, length, get_or, take, drop, Option, Some, None}
use Rattle.std.proofs.Common.{refl, sym, ap, subst, ◌∙◌, append_assoc, arith, inl, inr}
use Rattle.std.specs.Prelude.{IfSome, ⊤}
use Rattle.std.specs.Int.{Width, w16, w32, w64, byte_len, from_be_bytes, to_be_bytes}
use Rattle.std.specs.List.{AllByRecursion, flat_map}
use Rattle.std.proofs.lemmas.Bool.{cases_lt, ltb-false}
use Rattle.std.proofs.lemmas.List.{take-append-drop, length-take, get_or-drop, get_or-take}
use Rattle.std.proofs.lemmas.List.{get_or_past}
use Rattle.std.proofs.lemmas.List.Concat.{flat_map-cons}
use Rattle.std.proofs.lemmas.Nat.{be_bytes_2, be_bytes_4, be_bytes_8}
use Rattle.record_codec.specs.Fields.{◌&◌, byte, list, number2, number4, number8, option, path}
use Rattle.record_codec.specs.Fields.{plain, string}
use Rattle.record_codec.specs.Reading.{◌>>=◌, Reader, both_at, byte_at, items_at, list_at, made_at}
use Rattle.record_codec.specs.Reading.{number_at, one_at, option_at, path_at, plain_at, string_at}
use Rattle.record_codec.specs.Reading.{where_few}
use Rattle.record_codec.specs.Sizes.{IsByte, IsList, IsNumber2, IsNumber4, IsNumber8, IsPath}
use Rattle.record_codec.specs.Sizes.{IsPlain, IsString}

abbrev pub IsBytes : List ℕ → Type 0
IsBytes bytes = (i : ℕ) → get_or bytes i 0 < 256

IsBytes-drop : (n : ℕ) (bytes : List ℕ) → IsBytes bytes → IsBytes (drop n bytes)
IsBytes-drop n bytes h i = rw get_or-drop (h (n + i))

IsBytes-take : (n : ℕ) (bytes : List ℕ) → IsBytes bytes → IsBytes (take n bytes)
IsBytes-take n bytes h i =
    elim (cases_lt i n) [
      | inl lt ↦ rw (get_or-take n bytes i 0 lt) (h i)
      | inr le ↦ rw (get_or_past (take n bytes) i 0 (omega (arith, length-take n bytes))) (omega arith)
    ]

pub IsBytes-rest : (b : ℕ) (bytes : List ℕ) → IsBytes (b ∷ bytes) → IsBytes bytes
IsBytes-rest b bytes h i = h (suc i)

-- the value of a step that did not fail
pub bind_some : {A B : Type 0} (r : Option A) (f : A → Option B) (y : B) → (r >>= f) ≡ Some y → (x : A) × (r ≡ Some x) × (f x ≡ Some y)
bind_some (Some x) f y e = (x, refl, e)
bind_some None f y e = absurd cc

guard_some : {A : Type 0} (b : Bool) (x y : A) → cond b None (Some x) ≡ Some y → (b ≡ false) × (x ≡ y)
guard_some true x y e = absurd cc
guard_some false x y e = (refl, cc)

few_some : {A : Type 0} (b : Bool) (r : Option A) (y : A) → cond b None r ≡ Some y → (b ≡ false) × (r ≡ Some y)
few_some true r y e = absurd cc
few_some false r y e = (refl, e)

pub same_some : {A : Type 0} (x y : A) → Some x ≡ Some y → x ≡ y
same_some x y e = cc

-- what a reader took from the front
pub record Takes (bytes text rest : List ℕ) : Type 0 where
  pub parts : bytes ≡ text ++ rest
  pub rest_fits : IsBytes rest

takes_then : {a x b y c : List ℕ} → Takes a x b → Takes b y c → Takes a (x & y) c
takes_then {a} {x} {b} {y} {c} p q = record { parts = p.parts ∙ ap (λ (t : List ℕ). x ++ t) q.parts ∙ sym (append_assoc x y c); rest_fits = q.rest_fits }

-- what is read is the coding of what it gives, which has one
pub record Taken {X : Type 0} (text : X → List ℕ) (fits : X → Type 0) (read : Reader X) : Type 0 where
  pub takes : (bytes : List ℕ) (x : X) (rest : List ℕ) → IsBytes bytes → read bytes ≡ Some (x, rest) → Takes bytes (text x) rest × fits x

byte_takes : (bytes : List ℕ) (n : ℕ) (rest : List ℕ) → IsBytes bytes → byte_at bytes ≡ Some (n, rest) → Takes bytes (byte n) rest × IsByte n
byte_takes [] n rest is e = absurd cc
byte_takes (b ∷ bytes) n rest is e =
    subst (λ (p : ℕ × List ℕ). Takes (b ∷ bytes) (byte p.0) p.1 × IsByte p.0) (same_some (b, bytes) (n, rest) e)
    (record { parts = refl; rest_fits = IsBytes-rest b bytes is }, is 0)

pub byte_taken : Taken byte IsByte byte_at
byte_taken = record { takes = byte_takes }

plain_takes : (count : ℕ) (bytes its rest : List ℕ) → IsBytes bytes → plain_at count bytes ≡ Some (its, rest)
    → Takes bytes its rest × (length its ≡ count) × IsBytes its
plain_takes count bytes its rest is e =
    let g = guard_some (ltb (length bytes) count) (take count bytes, drop count bytes) (its, rest) e in
    let long : count ≤ length bytes = ltb-false _ _ g.0 in
    subst (λ (p : List ℕ × List ℕ). Takes bytes p.0 p.1 × (length p.0 ≡ count) × IsBytes p.0) g.1
    (record { parts = sym (take-append-drop count bytes); rest_fits = IsBytes-drop count bytes is }, omega (arith, length-take count bytes), IsBytes-take count bytes is)

pub plain_taken : (count : ℕ) → Taken plain (IsPlain count) (plain_at count)
plain_taken count = record { takes = λ bytes its rest is e. let t = plain_takes count bytes its rest is e in (t.0, t.1) }

number_takes : (w : Width) (limit : ℕ)
    → ((its : List ℕ) → length its ≡ byte_len w → IsBytes its → to_be_bytes w (from_be_bytes w its) ≡ its)
    → ((its : List ℕ) → IsBytes its → from_be_bytes w its < limit)
    → (bytes : List ℕ) (n : ℕ) (rest : List ℕ) → IsBytes bytes → number_at w bytes ≡ Some (n, rest) → Takes bytes (to_be_bytes w n) rest × (n < limit)
number_takes w limit back below bytes n rest is e =
    let a = bind_some (plain_at (byte_len w) bytes) (λ x. Some (from_be_bytes w x.0, x.1)) (n, rest) e in
    let t = plain_takes (byte_len w) bytes a.0.0 a.0.1 is a.1 in
    subst (λ (p : ℕ × List ℕ). Takes bytes (to_be_bytes w p.0) p.1 × (p.0 < limit)) (same_some (from_be_bytes w a.0.0, a.0.1) (n, rest) a.2)
    (subst (λ (its : List ℕ). Takes bytes its a.0.1) (sym (back a.0.0 t.1 t.2)) t.0, below a.0.0 t.2)

pub number2_taken : Taken number2 IsNumber2 (number_at w16)
number2_taken = record { takes = number_takes w16 (2 ^ 16) (λ its len is. be_bytes_2 its _ len is refl) (λ its is. omega (arith, is 0, is 1)) }

pub number4_taken : Taken number4 IsNumber4 (number_at w32)
number4_taken = record { takes = number_takes w32 (2 ^ 32) (λ its len is. be_bytes_4 its _ len is refl) (λ its is. omega (arith, is 0, is 1, is 2, is 3)) }

pub number8_taken : Taken number8 IsNumber8 (number_at w64)
number8_taken = record {
  takes = number_takes w64 (2 ^ 64) (λ its len is. be_bytes_8 its _ len is refl) (λ its is. omega (arith, is 0, is 1, is 2, is 3, is 4, is 5, is 6, is 7));
}

module _ {X Y : Type 0} {tx : X → List ℕ} {fx : X → Type 0} {rx : Reader X} (px : Taken tx fx rx) where
  pub both_taken : {ty : Y → List ℕ} {fy : Y → Type 0} {ry : Reader Y} → Taken ty fy ry
      → Taken {X = X × Y} (λ p. tx p.0 & ty p.1) (λ p. fx p.0 × fy p.1) (both_at rx ry)
  both_taken {ty} {fy} {ry} py = record {
    takes = λ bytes x rest is e.
        let a = bind_some (rx bytes) (λ u. ry u.1 >>= λ v. Some ((u.0, v.0), v.1)) (x, rest) e in
        let b = bind_some (ry a.0.1) (λ v. Some ((a.0.0, v.0), v.1)) (x, rest) a.2 in
        let first = px.takes bytes a.0.0 a.0.1 is a.1 in
        let second = py.takes a.0.1 b.0.0 b.0.1 first.0.rest_fits b.1 in
        subst (λ (y : (X × Y) × List ℕ). Takes bytes (tx y.0.0 & ty y.0.1) y.1 × (fx y.0.0 × fy y.0.1))
        (same_some ((a.0.0, b.0.0), b.0.1) (x, rest) b.2) (takes_then first.0 second.0, (first.1, second.1));
  }

  -- another text and another fact, where those of what is made are those of what was read
  pub made_taken : (make : X → Y) (ty : Y → List ℕ) (fy : Y → Type 0) → ((x : X) → ty (make x) ≡ tx x) → ((x : X) → fx x → fy (make x))
      → Taken ty fy (made_at make rx)
  made_taken make ty fy spelled fit = record {
    takes = λ bytes y rest is e.
        let a = bind_some (rx bytes) (λ u. Some (make u.0, u.1)) (y, rest) e in
        let t = px.takes bytes a.0.0 a.0.1 is a.1 in
        subst (λ (z : Y × List ℕ). Takes bytes (ty z.0) z.1 × fy z.0) (same_some (make a.0.0, a.0.1) (y, rest) a.2)
        (subst (λ (text : List ℕ). Takes bytes text a.0.1) (sym (spelled a.0.0)) t.0, fit a.0.0 t.1);
  }

module _ {X : Type 0} {tx : X → List ℕ} {fx : X → Type 0} {rx : Reader X} (px : Taken tx fx rx) where
  option_takes : (bytes : List ℕ) (o : Option X) (rest : List ℕ) → IsBytes bytes → option_at rx bytes ≡ Some (o, rest) → Takes bytes (option tx o) rest × IfSome o fx
  unfolding option_at
  option_takes [] o rest is e = absurd cc
  option_takes (zero ∷ bytes) o rest is e =
      subst (λ (p : Option X × List ℕ). Takes (0 ∷ bytes) (option tx p.0) p.1 × IfSome p.0 fx) (same_some (None, bytes) (o, rest) e)
      (record { parts = refl; rest_fits = IsBytes-rest 0 bytes is }, tt)
  option_takes (suc zero ∷ bytes) o rest is e =
      let a = bind_some (rx bytes) (λ x. Some (Some x.0, x.1)) (o, rest) e in
      let t = px.takes bytes a.0.0 a.0.1 (IsBytes-rest 1 bytes is) a.1 in
      subst (λ (p : Option X × List ℕ). Takes (1 ∷ bytes) (option tx p.0) p.1 × IfSome p.0 fx) (same_some (Some a.0.0, a.0.1) (o, rest) a.2)
      (record { parts = ap (λ (w : List ℕ). 1 ∷ w) t.0.parts; rest_fits = t.0.rest_fits }, t.1)
  option_takes (suc (suc b) ∷ bytes) o rest is e = absurd cc

  pub option_taken : Taken (option tx) (λ o. IfSome o fx) (option_at rx)
  option_taken = record { takes = option_takes }

  items_take : (n : ℕ) (bytes : List ℕ) (items : List X) (rest : List ℕ) → IsBytes bytes → items_at rx n bytes ≡ Some (items, rest)
      → Takes bytes (flat_map tx items) rest × (length items ≡ n) × AllByRecursion fx items
  unfolding items_at
  items_take zero bytes items rest is e =
      subst (λ (p : List X × List ℕ). Takes bytes (flat_map tx p.0) p.1 × (length p.0 ≡ 0) × AllByRecursion fx p.0) (same_some ([], bytes) (items, rest) e)
      (record { parts = refl; rest_fits = is }, refl, tt)
  items_take (suc n) bytes items rest is e =
      let a = bind_some (rx bytes) (λ first. items_at rx n first.1 >>= λ others. Some (first.0 ∷ others.0, others.1)) (items, rest) e in
      let b = bind_some (items_at rx n a.0.1) (λ others. Some (a.0.0 ∷ others.0, others.1)) (items, rest) a.2 in
      let first = px.takes bytes a.0.0 a.0.1 is a.1 in
      let second = items_take n a.0.1 b.0.0 b.0.1 first.0.rest_fits b.1 in
      subst (λ (p : List X × List ℕ). Takes bytes (flat_map tx p.0) p.1 × (length p.0 ≡ suc n) × AllByRecursion fx p.0)
      (same_some (a.0.0 ∷ b.0.0, b.0.1) (items, rest) b.2)
      (subst (λ (text : List ℕ). Takes bytes text b.0.1) (sym (flat_map-cons tx a.0.0 b.0.0)) (takes_then first.0 second.0), ap suc second.1, (first.1, second.2))

  list_takes : (most : ℕ) (bytes : List ℕ) (items : List X) (rest : List ℕ) → IsBytes bytes → list_at most rx bytes ≡ Some (items, rest)
      → Takes bytes (list tx items) rest × IsList most fx items
  unfolding list_at
  list_takes most bytes items rest is e =
      let a = bind_some (number_at w16 bytes) (λ n. where_few most n.0 (items_at rx n.0 n.1)) (items, rest) e in
      let g = few_some (ltb most a.0.0) (items_at rx a.0.0 a.0.1) (items, rest) a.2 in
      let first = number2_taken.takes bytes a.0.0 a.0.1 is a.1 in
      let second = items_take a.0.0 a.0.1 items rest first.0.rest_fits g.1 in
      let le : a.0.0 ≤ most = ltb-false most a.0.0 g.0 in
      (subst (λ (n : ℕ). Takes bytes (number2 n & flat_map tx items) rest) (sym second.1) (takes_then first.0 second.0), (omega (arith, le, second.1), second.2))

  pub list_taken : (most : ℕ) → Taken (list tx) (IsList most fx) (list_at most rx)
  list_taken most = record { takes = list_takes most }

path_takes : (bytes ids rest : List ℕ) → IsBytes bytes → path_at bytes ≡ Some (ids, rest) → Takes bytes (path ids) rest × IsPath ids
unfolding path_at
path_takes bytes ids rest is e =
    let a = bind_some (byte_at bytes) (λ n. where_few 4 n.0 (items_at (number_at w16) n.0 n.1)) (ids, rest) e in
    let g = few_some (ltb 4 a.0.0) (items_at (number_at w16) a.0.0 a.0.1) (ids, rest) a.2 in
    let first = byte_takes bytes a.0.0 a.0.1 is a.1 in
    let second = items_take number2_taken a.0.0 a.0.1 ids rest first.0.rest_fits g.1 in
    let le : a.0.0 ≤ 4 = ltb-false 4 a.0.0 g.0 in
    (subst (λ (n : ℕ). Takes bytes (byte n & flat_map number2 ids) rest) (sym second.1) (takes_then first.0 second.0), (omega (arith, le, second.1), second.2))

pub path_taken : Taken path IsPath path_at
path_taken = record { takes = path_takes }

string_takes : (most : ℕ) (bytes its rest : List ℕ) → IsBytes bytes → string_at most bytes ≡ Some (its, rest) → Takes bytes (string its) rest × IsString most its
unfolding string_at
string_takes most bytes its rest is e =
    let a = bind_some (number_at w16 bytes) (λ n. where_few most n.0 (plain_at n.0 n.1)) (its, rest) e in
    let g = few_some (ltb most a.0.0) (plain_at a.0.0 a.0.1) (its, rest) a.2 in
    let first = number2_taken.takes bytes a.0.0 a.0.1 is a.1 in
    let second = plain_takes a.0.0 a.0.1 its rest first.0.rest_fits g.1 in
    let le : a.0.0 ≤ most = ltb-false most a.0.0 g.0 in
    (subst (λ (n : ℕ). Takes bytes (number2 n & its) rest) (sym second.1) (takes_then first.0 second.0), omega (arith, le, second.1))

pub string_taken : (most : ℕ) → Taken string (IsString most) (string_at most)
string_taken most = record { takes = string_takes most }

pub one_taken : {X : Type 0} (of_byte : ℕ → Option X) (code : X → ℕ) → ((n : ℕ) (x : X) → of_byte n ≡ Some x → code x ≡ n)
    → Taken (λ x. byte (code x)) (λ x. ⊤) (one_at of_byte)
one_taken {X} of_byte code forth = record {
  takes = λ bytes x rest is e.
      let a = bind_some (byte_at bytes) (λ b. of_byte b.0 >>= λ y. Some (y, b.1)) (x, rest) e in
      let b = bind_some (of_byte a.0.0) (λ y. Some (y, a.0.1)) (x, rest) a.2 in
      let t = byte_takes bytes a.0.0 a.0.1 is a.1 in
      subst (λ (p : X × List ℕ). Takes bytes (byte (code p.0)) p.1 × ⊤) (same_some (b.0, a.0.1) (x, rest) b.2)
      (subst (λ (n : ℕ). Takes bytes (byte n) a.0.1) (sym (forth a.0.0 b.0 b.1)) t.0, tt);
}
