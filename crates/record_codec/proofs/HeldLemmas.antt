-- The profiles of a card and their contents after a record.
use Rattle.std.proofs.Common.{◌≡◌, ◌≢◌, ℕ, zero, suc, ◌<◌, ◌≤◌, Bool, true, false, cond, not}
use Rattle.std.proofs.Common.{nat_eq, List, [], ◌∷◌, ◌++◌, length, map, filter, set, Option, Some}
use Rattle.std.proofs.Common.{None, refl, sym, ◌∙◌, ap, subst, ⊎_elim, arith, eqb-true, eq-eqb}
use Rattle.std.proofs.lemmas.List.{length-map}
use Rattle.std.specs.List.{Any, AllByRecursion}
use Rattle.std.specs.Prelude.{IsSomeAnd, slice_get}
use Rattle.file_rows.specs.Content.{IsValid}
use Rattle.file_rows.specs.declared.content.Content.{Content}
use Rattle.file_rows.proofs.EachLemmas.{each_of_map, each_weaker, two_of_map, two_weaker}
use Rattle.file_rows.proofs.ListLemmas.{any_cases, any_first, any_later, any_none, any_of_map}
use Rattle.file_rows.proofs.ListLemmas.{any_weaker, each_filter, length-filter-le, two_filter}
use Rattle.plain_lists.specs.EachTwo.{EachTwo}
use Rattle.record_codec.specs.Content.{contents_with}
use Rattle.record_codec.specs.Gone.{contents_without, is_among}
use Rattle.record_codec.specs.Heads.{IsHeld, content_at}
use Rattle.record_codec.specs.IsDurable.{AreProfiles, IsHead}
use Rattle.record_codec.specs.Name.{named}
use Rattle.record_codec.specs.declared.profile.ProfileHead.{ProfileHead}

abbrev stays : List ℕ → ProfileHead → Bool
stays numbers head = not (is_among numbers head.number)

abbrev HasOther : ProfileHead → ProfileHead → Type 0
HasOther one other = one.number ≢ other.number

abbrev HasOtherIccid : ProfileHead → ProfileHead → Type 0
HasOtherIccid one other = one.iccid ≢ other.iccid

-- different numbers are told apart
pub differ_is : (one other : ℕ) → one ≢ other → nat_eq one other ≡ false
differ_is one other apart =
    let step : (b : Bool) → nat_eq one other ≡ b → b ≡ false
    = λ b. elim b as (λ b. nat_eq one other ≡ b → b ≡ false) [ true ↦ λ is. absurd (apart (eqb-true one other is)) | false ↦ λ is. refl ]
    in step (nat_eq one other) refl

-- where none is so, each isn't
pub each_not : {X : Type 0} (P : X → Type 0) (xs : List X) → (Any P xs → ⊥) → AllByRecursion (λ x. P x → ⊥) xs
each_not P [] none = tt
each_not P (x ∷ xs) none = (λ p. none (any_first P x xs p), each_not P xs (λ later. none (any_later P x xs later)))

-- profiles that stay when others go
pub left_are : (numbers : List ℕ) (next : ℕ) (profiles : List ProfileHead) → AreProfiles next profiles → AreProfiles next (filter (stays numbers) profiles)
left_are numbers next profiles are = record {
  few = omega (arith, are.few, length-filter-le (stays numbers) profiles);
  each = each_filter IsHead (stays numbers) profiles are.each;
  below = each_filter (λ head. head.number < next) (stays numbers) profiles are.below;
  numbers = two_filter HasOther (stays numbers) profiles are.numbers;
  iccids = two_filter HasOtherIccid (stays numbers) profiles are.iccids;
}

pub pairs_left : (numbers : List ℕ) (profiles : List ProfileHead) (contents : List Content) → length contents ≡ length profiles
    → length (contents_without numbers profiles contents) ≡ length (filter (stays numbers) profiles)
pairs_left numbers [] contents pairs = pairs
pairs_left numbers (head ∷ heads) [] pairs = absurd (omega (arith, pairs))
pairs_left numbers (head ∷ heads) (content ∷ contents) pairs =
    let left : List ProfileHead = filter (stays numbers) heads in
    let after : List Content = contents_without numbers heads contents in
    let rest : length after ≡ length left = pairs_left numbers heads contents (omega (arith, pairs)) in
    let step : (b : Bool) → length (cond b after (content ∷ after)) ≡ length (cond (not b) (head ∷ left) left)
    = λ b. elim b as (λ b. length (cond b after (content ∷ after)) ≡ length (cond (not b) (head ∷ left) left)) [ true ↦ rest | false ↦ ap suc rest ]
    in step (is_among numbers head.number)

pub valid_left : (numbers : List ℕ) (profiles : List ProfileHead) (contents : List Content) → AllByRecursion IsValid contents
    → AllByRecursion IsValid (contents_without numbers profiles contents)
valid_left numbers [] contents valid = valid
valid_left numbers (head ∷ heads) [] valid = tt
valid_left numbers (head ∷ heads) (content ∷ contents) valid =
    let after : List Content = contents_without numbers heads contents in
    let rest : AllByRecursion IsValid after = valid_left numbers heads contents valid.1 in
    let step : (b : Bool) → AllByRecursion IsValid (cond b after (content ∷ after))
    = λ b. elim b as (λ b. AllByRecursion IsValid (cond b after (content ∷ after))) [ true ↦ rest | false ↦ (valid.0, rest) ]
    in step (is_among numbers head.number)

-- another content in the place of one
pub pairs_with : (number : ℕ) (change : Content → Content) (profiles : List ProfileHead) (contents : List Content) → length contents ≡ length profiles
    → length (contents_with number change profiles contents) ≡ length profiles
pairs_with number change [] contents pairs = pairs
pairs_with number change (head ∷ heads) [] pairs = pairs
pairs_with number change (head ∷ heads) (content ∷ contents) pairs = ap suc (pairs_with number change heads contents (omega (arith, pairs)))

-- the contents of other profiles stay
with_none : (number : ℕ) (change : Content → Content) (profiles : List ProfileHead) (contents : List Content) → length contents ≡ length profiles
    → AllByRecursion (λ head. head.number ≢ number) profiles → contents_with number change profiles contents ≡ contents
with_none number change [] contents pairs each = refl
with_none number change (head ∷ heads) [] pairs each = refl
with_none number change (head ∷ heads) (content ∷ contents) pairs each =
    let step : (b : Bool) → nat_eq head.number number ≡ b → cond b (change content) content ≡ content
    = λ b. elim b as (λ b. nat_eq head.number number ≡ b → cond b (change content) content ≡ content) [
      | true ↦ λ is. absurd (each.0 (eqb-true head.number number is))
      | false ↦ λ is. refl
    ]
    in
    ap (λ (c : Content). c ∷ contents_with number change heads contents) (step (nat_eq head.number number) refl)
    ∙ ap (λ (cs : List Content). content ∷ cs) (with_none number change heads contents (omega (arith, pairs)) each.1)

abbrev others_of : ℕ → List ProfileHead → Type 0
others_of number heads = AllByRecursion (λ head. head.number ≢ number) heads

pub others_differ : (head : ProfileHead) (number : ℕ) (heads : List ProfileHead) → head.number ≡ number → AllByRecursion (HasOther head) heads → others_of number heads
others_differ head number heads same each =
    each_weaker (HasOther head) (λ other. other.number ≢ number) (λ other differs e. differs (same ∙ sym e)) heads each

-- what the change of one content makes of all
pub valid_with : (number : ℕ) (change : Content → Content) (profiles : List ProfileHead) (contents : List Content) → length contents ≡ length profiles
    → EachTwo HasOther profiles → IsSomeAnd (content_at number profiles contents) (λ content. IsValid (change content))
    → AllByRecursion IsValid contents → AllByRecursion IsValid (contents_with number change profiles contents)
valid_with number change [] contents pairs differ there valid = valid
valid_with number change (head ∷ heads) [] pairs differ there valid = tt
valid_with number change (head ∷ heads) (content ∷ contents) pairs differ there valid =
    let pairs' : length contents ≡ length heads = omega (arith, pairs) in
    let rest : List Content = contents_with number change heads contents in
    let step : (b : Bool) → nat_eq head.number number ≡ b
    → IsSomeAnd (cond b (Some content) (content_at number heads contents)) (λ content. IsValid (change content))
    → AllByRecursion IsValid (cond b (change content) content ∷ rest)
    = λ b. elim b as (λ b. nat_eq head.number number ≡ b
    → IsSomeAnd (cond b (Some content) (content_at number heads contents)) (λ content. IsValid (change content))
    → AllByRecursion IsValid (cond b (change content) content ∷ rest)) [
      | true ↦ λ is here.
          let same : rest ≡ contents = with_none number change heads contents pairs' (others_differ head number heads (eqb-true head.number number is) differ.0) in
          (here, subst (AllByRecursion IsValid) (sym same) valid.1)
      | false ↦ λ is later. (valid.0, valid_with number change heads contents pairs' differ.1 later valid.1)
    ]
    in step (nat_eq head.number number) refl there

-- a nickname changes neither number nor ICCID
module _ (profile : ℕ) (nickname : List ℕ) where
  pub named_number : (head : ProfileHead) → (named profile nickname head).number ≡ head.number
  named_number head =
      let step : (b : Bool) → (cond b (record head { nickname = nickname }) head).number ≡ head.number
      = λ b. elim b as (λ b. (cond b (record head { nickname = nickname }) head).number ≡ head.number) [ true ↦ refl | false ↦ refl ]
      in step (nat_eq head.number profile)

  named_iccid : (head : ProfileHead) → (named profile nickname head).iccid ≡ head.iccid
  named_iccid head =
      let step : (b : Bool) → (cond b (record head { nickname = nickname }) head).iccid ≡ head.iccid
      = λ b. elim b as (λ b. (cond b (record head { nickname = nickname }) head).iccid ≡ head.iccid) [ true ↦ refl | false ↦ refl ]
      in step (nat_eq head.number profile)

  named_is : length nickname ≤ 64 → (head : ProfileHead) → IsHead head → IsHead (named profile nickname head)
  named_is few head is =
      let step : (b : Bool) → IsHead (cond b (record head { nickname = nickname }) head)
      = λ b. elim b as (λ b. IsHead (cond b (record head { nickname = nickname }) head)) [
        | true ↦ record { provider = is.provider; name = is.name; nickname = few; few = is.few; addresses = is.addresses }
        | false ↦ is
      ]
      in step (nat_eq head.number profile)

  pub named_are : (next : ℕ) (profiles : List ProfileHead) → length nickname ≤ 64 → AreProfiles next profiles → AreProfiles next (map (named profile nickname) profiles)
  named_are next profiles few are = record {
    few = omega (arith, are.few, length-map profiles (named profile nickname));
    each = (each_of_map (named profile nickname) IsHead profiles).0
        (each_weaker IsHead (λ head. IsHead (named profile nickname head)) (named_is few) profiles are.each);
    below = (each_of_map (named profile nickname) (λ head. head.number < next) profiles).0
        (each_weaker (λ head. head.number < next) (λ head. (named profile nickname head).number < next)
        (λ head lt. subst (λ (n : ℕ). n < next) (sym (named_number head)) lt) profiles are.below);
    numbers = (two_of_map (named profile nickname) HasOther profiles).0
        (two_weaker HasOther (λ one other. HasOther (named profile nickname one) (named profile nickname other))
        (λ one other differs e. differs (sym (named_number one) ∙ e ∙ named_number other)) profiles are.numbers);
    iccids = (two_of_map (named profile nickname) HasOtherIccid profiles).0
        (two_weaker HasOtherIccid (λ one other. HasOtherIccid (named profile nickname one) (named profile nickname other))
        (λ one other differs e. differs (sym (named_iccid one) ∙ e ∙ named_iccid other)) profiles are.iccids);
  }

  pub named_held : (number : ℕ) (profiles : List ProfileHead) → IsHeld number profiles → IsHeld number (map (named profile nickname) profiles)
  named_held number profiles held =
      any_of_map (named profile nickname) (λ head. head.number ≡ number) profiles
      (any_weaker (λ head. head.number ≡ number) (λ head. (named profile nickname head).number ≡ number) (λ head e. named_number head ∙ e) profiles held)

  -- the profile that has the nickname shows its length
  pub nickname_few : (profiles : List ProfileHead) → IsHeld profile profiles → AllByRecursion IsHead (map (named profile nickname) profiles) → length nickname ≤ 64
  nickname_few [] held each = absurd (any_none (λ head. head.number ≡ profile) held)
  nickname_few (head ∷ heads) held each =
      ⊎_elim
      (λ is. (subst (λ (b : Bool). IsHead (cond b (record head { nickname = nickname }) head)) (eq-eqb head.number profile is) each.0).nickname)
      (λ later. nickname_few heads later each.1)
      (any_cases (λ head. head.number ≡ profile) head heads held)

-- a profile that isn't among those that go is held after them
pub left_held : (numbers : List ℕ) (number : ℕ) (profiles : List ProfileHead) → is_among numbers number ≡ false → IsHeld number profiles → IsHeld number (filter (stays numbers) profiles)
left_held numbers number [] other held = held
left_held numbers number (head ∷ heads) other held =
    let left : List ProfileHead = filter (stays numbers) heads in
    ⊎_elim
    (λ is.
    let kept : stays numbers head ≡ true = ap (λ (n : ℕ). not (is_among numbers n)) is ∙ ap not other in
    subst (λ (b : Bool). IsHeld number (cond b (head ∷ left) left)) (sym kept) (any_first (λ head. head.number ≡ number) head left is))
    (λ later.
    let rest : IsHeld number left = left_held numbers number heads other later in
    let step : (b : Bool) → IsHeld number (cond b (head ∷ left) left)
    = λ b. elim b as (λ b. IsHeld number (cond b (head ∷ left) left)) [ true ↦ any_later (λ head. head.number ≡ number) head left rest | false ↦ rest ]
    in step (stays numbers head))
    (any_cases (λ head. head.number ≡ number) head heads held)

-- where no profile has the number, there is no content
no_content : {X : Type 0} (number : ℕ) (profiles : List ProfileHead) (contents : List X) → AllByRecursion (λ head. head.number ≢ number) profiles → content_at number profiles contents ≡ None
no_content number [] contents each = refl
no_content number (head ∷ heads) [] each = refl
no_content number (head ∷ heads) (content ∷ contents) each =
    let step : (b : Bool) → nat_eq head.number number ≡ b → cond b (Some content) (content_at number heads contents) ≡ None
    = λ b. elim b as (λ b. nat_eq head.number number ≡ b → cond b (Some content) (content_at number heads contents) ≡ None) [
      | true ↦ λ is. absurd (each.0 (eqb-true head.number number is))
      | false ↦ λ is. no_content number heads contents each.1
    ]
    in step (nat_eq head.number number) refl

pub content_none : {X : Type 0} (number : ℕ) (profiles : List ProfileHead) (contents : List X) → (IsHeld number profiles → ⊥) → content_at number profiles contents ≡ None
content_none number profiles contents none = no_content number profiles contents (each_not (λ head. head.number ≡ number) profiles none)

-- a place of a number is not that of another profile
later_other : (head : ProfileHead) (number place : ℕ) (heads : List ProfileHead) → AllByRecursion (HasOther head) heads
    → IsSomeAnd (slice_get heads place) (λ other. other.number ≡ number) → head.number ≢ number
later_other head number place [] each at e = at
later_other head number zero (other ∷ heads) each at e = each.0 (e ∙ sym at)
later_other head number (suc place) (other ∷ heads) each at e = later_other head number place heads each.1 at e

-- the content of a profile stands at its place
pub content_there : {X : Type 0} (number place : ℕ) (profiles : List ProfileHead) (contents : List X) → length contents ≡ length profiles → EachTwo HasOther profiles
    → IsSomeAnd (slice_get profiles place) (λ head. head.number ≡ number) → content_at number profiles contents ≡ slice_get contents place
content_there number place [] contents pairs differ at = absurd at
content_there number place (head ∷ heads) [] pairs differ at = absurd (omega (arith, pairs))
content_there number zero (head ∷ heads) (content ∷ contents) pairs differ at = rw (eq-eqb head.number number at) refl
content_there number (suc place) (head ∷ heads) (content ∷ contents) pairs differ at =
    rw (differ_is head.number number (later_other head number place heads differ.0 at)) (content_there number place heads contents (omega (arith, pairs)) differ.1 at)

pub place_within : (number place : ℕ) (profiles : List ProfileHead) → IsSomeAnd (slice_get profiles place) (λ head. head.number ≡ number) → place < length profiles
place_within number place [] at = absurd at
place_within number zero (head ∷ heads) at = omega arith
place_within number (suc place) (head ∷ heads) at = omega (arith, place_within number place heads at)

-- a content that is held is valid
pub content_valid : (number : ℕ) (profiles : List ProfileHead) (contents : List Content) (content : Content) → AllByRecursion IsValid contents
    → content_at number profiles contents ≡ Some content → IsValid content
content_valid number [] contents content valid e = absurd (cc)
content_valid number (head ∷ heads) [] content valid e = absurd (cc)
content_valid number (head ∷ heads) (its ∷ contents) content valid e =
    let step : (b : Bool) → cond b (Some its) (content_at number heads contents) ≡ Some content → IsValid content
    = λ b. elim b as (λ b. cond b (Some its) (content_at number heads contents) ≡ Some content → IsValid content) [
      | true ↦ λ e. let is : its ≡ content = cc in subst IsValid is valid.0
      | false ↦ λ e. content_valid number heads contents content valid.1 e
    ]
    in step (nat_eq head.number number) e

-- a change of the content of a profile changes what stands at its place
pub contents_there : (number : ℕ) (change : Content → Content) (place : ℕ) (profiles : List ProfileHead) (contents : List Content) (content : Content)
    → length contents ≡ length profiles → EachTwo HasOther profiles → IsSomeAnd (slice_get profiles place) (λ head. head.number ≡ number)
    → slice_get contents place ≡ Some content → contents_with number change profiles contents ≡ set contents place (change content)
contents_there number change place [] contents content pairs differ at is = absurd at
contents_there number change place (head ∷ heads) [] content pairs differ at is = absurd (omega (arith, pairs))
contents_there number change zero (head ∷ heads) (its ∷ contents) content pairs differ at is =
    let same : its ≡ content = cc in
    rw (eq-eqb head.number number at)
    (ap (λ (c : Content). change c ∷ contents_with number change heads contents) same
    ∙ ap (λ (rest : List Content). change content ∷ rest)
    (with_none number change heads contents (omega (arith, pairs)) (others_differ head number heads at differ.0)))
contents_there number change (suc place) (head ∷ heads) (its ∷ contents) content pairs differ at is =
    rw (differ_is head.number number (later_other head number place heads differ.0 at))
    (ap (λ (rest : List Content). its ∷ rest) (contents_there number change place heads contents content (omega (arith, pairs)) differ.1 at is))

-- the contents left of one profile more
pub without_more : {X : Type 0} (numbers : List ℕ) (heads : List ProfileHead) (contents : List X) (head : ProfileHead) (content : X) → length contents ≡ length heads
    → contents_without numbers (heads ++ head ∷ []) (contents ++ content ∷ [])
    ≡ contents_without numbers heads contents ++ cond (is_among numbers head.number) [] (content ∷ [])
without_more numbers [] [] head content pairs = refl
without_more numbers [] (its ∷ contents) head content pairs = absurd (omega (arith, pairs))
without_more numbers (one ∷ heads) [] head content pairs = absurd (omega (arith, pairs))
without_more {X} numbers (one ∷ heads) (its ∷ contents) head content pairs =
    let rest = without_more numbers heads contents head content (omega (arith, pairs)) in
    let last : List X = cond (is_among numbers head.number) [] (content ∷ []) in
    let left : List X = contents_without numbers heads contents in
    let all : List X = contents_without numbers (heads ++ head ∷ []) (contents ++ content ∷ []) in
    let step : (b : Bool) → cond b all (its ∷ all) ≡ cond b left (its ∷ left) ++ last
    = λ b. elim b as (λ b. cond b all (its ∷ all) ≡ cond b left (its ∷ left) ++ last) [
      | true ↦ rest
      | false ↦ ap (λ (cs : List X). its ∷ cs) rest
    ]
    in step (is_among numbers one.number)

-- what is said of a content in parts
pub said_of : (o : Option Content) (P Q : Content → Type 0) → ((content : Content) → o ≡ Some content → IsValid content) → IsSomeAnd o P → IsSomeAnd o Q
    → IsSomeAnd o (λ content. IsValid content × P content × Q content)
said_of None P Q valid p q = p
said_of (Some content) P Q valid p q = (valid content refl, p, q)
