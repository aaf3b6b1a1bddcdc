-- One field among data objects.
use Rattle.std.proofs.Common.{◌≡◌, ◌<◌, ℕ, Bool, true, false, cond, List, [], ◌∷◌, ◌++◌, length}
use Rattle.std.proofs.Common.{Option, Some, None, refl, sym, ◌∙◌, ap, arith}
use Rattle.std.specs.Prelude.{◌==◌, option_and_then, option_map, option_to_list}
use Rattle.ber_tlv.specs.Objects.{Read, object_at, objects_of}
use Rattle.ber_tlv.specs.Tlv.{BeginsWith}
use Rattle.ber_tlv.specs.Walk.{LeadWith, Object}
use Rattle.ber_tlv.proofs.ObjectLemmas.{eqb-is, no_objects, no_step, object_there, objects_fill}
use Rattle.ber_tlv.proofs.ObjectLemmas.{objects_step, of_some}
use Rattle.ber_tlv.proofs.Walking.{shorter}
use Rattle.isdr_codec.specs.Fields.{at_most_one, field_in, sole, values_of, with_object, with_value}

-- the field among what was found and these objects
pub sought_among : ℕ → Option (List ℕ) → Option (List Object) → Option (Option (List ℕ))
sought_among tag found objects =
    option_and_then (λ objects. at_most_one (option_to_list found ++ values_of tag objects)) objects

-- the same, the objects being those of the bytes that are left
abbrev pub sought : ℕ → Option (List ℕ) → List ℕ → Option (Option (List ℕ))
sought tag found rest = sought_among tag found (objects_of rest)

one_more : (found : Option (List ℕ)) (its : Bool) (value : List ℕ) (values : List (List ℕ))
    → at_most_one (option_to_list found ++ cond its (value ∷ values) values) ≡ option_and_then
    (λ (now : Option (List ℕ)). at_most_one (option_to_list now ++ values))
    (with_value its found value)
one_more None true value values = refl
one_more None false value values = refl
one_more (Some found) true value values = refl
one_more (Some found) false value values = refl

no_more : (found : Option (List ℕ)) (its : Bool) (value : List ℕ)
    → None ≡ option_and_then {T = Option (List ℕ)} {U = Option (List ℕ)} (λ now. None)
    (with_value its found value)
no_more None true value = refl
no_more None false value = refl
no_more (Some found) true value = refl
no_more (Some found) false value = refl

over : (tag : ℕ) (found : Option (List ℕ)) (object : Object) (objects : Option (List Object))
    → sought_among tag found (option_map (λ objects. object ∷ objects) objects) ≡ option_and_then
    (λ now. sought_among tag now objects) (with_object tag found object)
unfolding sought_among
over tag found object None = no_more found (object.tag == tag) object.value
over tag found object (Some objects) = one_more found (object.tag == tag) object.value
    (values_of tag objects)

module _ (tag : ℕ) where
  pub at_first : (value : List ℕ) → sought tag None value ≡ field_in tag value
  unfolding sought_among
  at_first value = refl

  pub at_end : (found : Option (List ℕ)) → sought tag found [] ≡ Some found
  unfolding sought_among
  at_end None = rw no_objects refl
  at_end (Some value) = rw no_objects refl

  broken_at : (found : Option (List ℕ)) (bytes : List ℕ) → (bytes ≡ [] → ⊥) → object_at bytes ≡ None
      → sought tag found bytes ≡ None
  unfolding sought_among
  broken_at found [] some none = absurd (some refl)
  broken_at found (b ∷ bytes) some none = rw (no_step b bytes none) refl

  stepped : (found : Option (List ℕ)) (bytes : List ℕ) (read : Read Object) → object_at bytes
      ≡ Some read
      → sought tag found bytes ≡ option_and_then (λ now. sought tag now read.behind)
      (with_object tag found read.found)
  stepped found bytes read is = ap (sought_among tag found) (objects_step bytes read is)
      ∙ over tag found read.found (objects_of read.behind)

  -- the loop's steps
  pub next : (found now : Option (List ℕ)) (value bytes : List ℕ) (read : Read Object)
      → object_at bytes ≡ Some read → with_object tag found read.found ≡ Some now
      → sought tag found bytes ≡ field_in tag value → sought tag now read.behind
      ≡ field_in tag value
  next found now value bytes read is more so =
      sym (stepped found bytes read is ∙ ap (option_and_then (λ now. sought tag now read.behind))
      more) ∙ so

  pub again : (found : Option (List ℕ)) (value bytes : List ℕ) (read : Read Object)
      → object_at bytes ≡ Some read → with_object tag found read.found ≡ None
      → sought tag found bytes ≡ field_in tag value → field_in tag value ≡ None
  again found value bytes read is more so =
      sym so
      ∙ (stepped found bytes read is ∙ ap (option_and_then (λ now. sought tag now read.behind))
      more)

  pub broken : (found : Option (List ℕ)) (value bytes : List ℕ) → (bytes ≡ [] → ⊥) → object_at bytes
      ≡ None
      → sought tag found bytes ≡ field_in tag value → field_in tag value ≡ None
  broken found value bytes some none so = sym so ∙ broken_at found bytes some none

  pub ended : (found : Option (List ℕ)) (value bytes : List ℕ) → bytes ≡ [] → sought tag found bytes
      ≡ field_in tag value → field_in tag value ≡ Some found
  ended found value bytes none so =
      sym so ∙ (ap (sought tag found) none ∙ at_end found)

-- bytes that are one object, or aren't
pub whole_of : (bytes : List ℕ) (object : Object) → object_at bytes ≡ Some
    (record { found = object; behind = [] }) → option_and_then sole (objects_of bytes) ≡ Some object
whole_of bytes object is =
    ap (option_and_then sole) (objects_step bytes (record { found = object; behind = [] }) is ∙ ap
    (option_map (λ (objects : List Object). object ∷ objects)) no_objects)

pub none_whole : (bytes : List ℕ) → object_at bytes ≡ None → option_and_then sole (objects_of bytes)
    ≡ None
none_whole [] none = rw no_objects refl
none_whole (b ∷ bytes) none = rw (no_step b bytes none) refl

nil_of : {X : Type 0} (xs : List X) → length xs ≡ 0 → xs ≡ []
nil_of [] none = refl
nil_of (x ∷ xs) none = absurd (omega arith)

pub is_empty : (bytes : List ℕ) (r : Bool) → r ≡ (length bytes == 0) → r ≡ true → bytes ≡ []
is_empty bytes r is met = nil_of bytes (eqb-is (length bytes) 0 (sym is ∙ met))

pub not_empty : (bytes : List ℕ) (r : Bool) → r ≡ (length bytes == 0) → r ≡ false → bytes ≡ [] → ⊥
not_empty bytes r is unmet none = let i : (length bytes == 0) ≡ true =
    ap (λ (x : List ℕ). length x == 0) none in absurd (cc)

pub behind_shorter : (bytes : List ℕ) (read : Read Object) → object_at bytes ≡ Some read
    → length read.behind < length bytes
behind_shorter bytes read e =
    shorter
    (of_some (λ (read : Read Object). BeginsWith bytes read.found.tag read.found.value read.behind)
    (object_at bytes) read (object_there bytes) e)

another : (object : Object) (behind : List ℕ) → (behind ≡ [] → ⊥) → (objects : Option (List Object))
    → objects_of behind ≡ objects
    → option_and_then sole (option_map (λ objects. object ∷ objects) objects) ≡ None
another object behind some None e = refl
another object behind some (Some []) e =
    absurd
    (some (of_some (λ objects. LeadWith behind objects []) (objects_of behind) []
    (objects_fill behind) e))
another object behind some (Some (x ∷ objects)) e = refl

-- an object with bytes behind it isn't all there is
pub not_alone : (bytes : List ℕ) (object : Object) (behind : List ℕ) → object_at bytes ≡ Some
    (record { found = object; behind = behind }) → (behind ≡ [] → ⊥)
    → option_and_then sole (objects_of bytes) ≡ None
not_alone bytes object behind is some =
    ap (option_and_then sole) (objects_step bytes (record { found = object; behind = behind }) is)
    ∙ another object behind some (objects_of behind) refl
