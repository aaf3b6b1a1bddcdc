-- The entries of metadata to whom operations are notified.
use Rattle.std.proofs.Common.{◌≡◌, ◌≤◌, ◌+◌, ℕ, Bool, true, false, cond, List, [], ◌∷◌, ◌++◌}
use Rattle.std.proofs.Common.{length, Option, Some, None, refl, sym, ◌∙◌, ap, arith, append_assoc}
use Rattle.std.proofs.Common.{length-append, zero-add}
use Rattle.std.proofs.lemmas.List.{append-nil}
use Rattle.std.proofs.lemmas.Bool.Decides.{nat_tests}
use Rattle.std.specs.Prelude.{nat_le, option_and_then, option_map}
use Rattle.ber_tlv.specs.Objects.{Read, object_at, objects_of}
use Rattle.ber_tlv.specs.Walk.{Object}
use Rattle.ber_tlv.proofs.ObjectLemmas.{no_objects, no_step, objects_step}
use Rattle.isdr_codec.specs.Metadata.{note_target_of, targets_among, targets_in}
use Rattle.record_codec.specs.declared.profile.NoteTarget.{NoteTarget}

-- these targets and then those among the objects, of which there are few enough
pub and_among : List NoteTarget → List Object → Option (List NoteTarget)
and_among targets objects =
    cond (nat_le (length targets + length objects) 8)
    (option_map (λ more. targets ++ more) (targets_among objects)) None

pub and_those : List NoteTarget → Option (List Object) → Option (List NoteTarget)
and_those targets objects = option_and_then (and_among targets) objects

-- these targets and then those in the bytes that are left
abbrev pub and_left : List NoteTarget → List ℕ → Option (List NoteTarget)
and_left targets rest = and_those targets (objects_of rest)

same : {X : Type 0} (o : Option (List X)) → option_map (λ more. [] ++ more) o ≡ o
same None = refl
same (Some xs) = refl

none_first : (objects : Option (List Object))
    → and_those [] objects ≡ option_and_then
    (λ objects. cond (nat_le (length objects) 8) (targets_among objects) None) objects
unfolding and_those and_among
none_first None = refl
none_first (Some objects) =
    ap (λ n. cond (nat_le n 8) (option_map (λ more. [] ++ more) (targets_among objects)) None)
    (zero-add (length objects))
    ∙ ap (λ o. cond (nat_le (length objects) 8) o None) (same (targets_among objects))

appended : (targets : List NoteTarget) (target : NoteTarget) (o : Option (List NoteTarget))
    → option_map (λ more. targets ++ more) (option_map (λ more. target ∷ more) o) ≡ option_map
    (λ more. (targets ++ target ∷ []) ++ more) o
appended targets target None = refl
appended targets target (Some more) = ap (λ (xs : List NoteTarget). Some xs)
    (sym (append_assoc targets (target ∷ []) more))

one_more : (targets : List NoteTarget) (target : NoteTarget) (object : Object)
    (objects : List Object)
    → length targets + length (object ∷ objects) ≡ length (targets ++ target ∷ []) + length objects
one_more targets target object objects = omega (arith, length-append targets (target ∷ []))

taken : (targets : List NoteTarget) (target : NoteTarget) (object : Object) → note_target_of object
    ≡ Some target → (objects : Option (List Object))
    → and_those targets (option_map (λ objects. object ∷ objects) objects) ≡ and_those
    (targets ++ target ∷ []) objects
unfolding and_those and_among
taken targets target object is None = refl
taken targets target object is (Some objects) =
    ap
    (λ n. cond (nat_le n 8)
    (option_map (λ more. targets ++ more) (targets_among (object ∷ objects))) None)
    (one_more targets target object objects)
    ∙ ap
    (λ (found : Option NoteTarget). cond
    (nat_le (length (targets ++ target ∷ []) + length objects) 8)
    (option_map (λ more. targets ++ more)
    (option_and_then (λ target. option_map (λ more. target ∷ more) (targets_among objects)) found))
    None) is
    ∙ ap (λ o. cond (nat_le (length (targets ++ target ∷ []) + length objects) 8) o None)
    (appended targets target (targets_among objects))

either_none : (b : Bool) → ◌≡◌ {A = Option (List NoteTarget)} (cond b None None) None
either_none true = refl
either_none false = refl

bad : (targets : List NoteTarget) (object : Object) → note_target_of object ≡ None
    → (objects : Option (List Object))
    → and_those targets (option_map (λ objects. object ∷ objects) objects) ≡ None
unfolding and_those and_among
bad targets object is None = refl
bad targets object is (Some objects) =
    ap (λ (found : Option NoteTarget). cond (nat_le (length targets + length (object ∷ objects)) 8)
    (option_map (λ more. targets ++ more)
    (option_and_then (λ target. option_map (λ more. target ∷ more) (targets_among objects)) found))
    None) is
    ∙ either_none (nat_le (length targets + length (object ∷ objects)) 8)

too_many : (m n : ℕ) → m ≡ 8 → 1 ≤ n → nat_le (m + n) 8 ≡ false
too_many m n is some = grind (arith, nat_tests)

full : (targets : List NoteTarget) (object : Object) → length targets ≡ 8
    → (objects : Option (List Object))
    → and_those targets (option_map (λ objects. object ∷ objects) objects) ≡ None
unfolding and_those and_among
full targets object is None = refl
full targets object is (Some objects) =
    ap (λ b. cond b (option_map (λ more. targets ++ more) (targets_among (object ∷ objects))) None)
    (too_many (length targets) (length (object ∷ objects)) is (omega arith))

few : (n : ℕ) → n ≤ 8 → nat_le (n + 0) 8 ≡ true
few n is = grind (arith, nat_tests)

-- the loop's steps
pub at_first : (value : List ℕ) → and_left [] value ≡ targets_in value
at_first value = none_first (objects_of value)

module _ (targets : List NoteTarget) (value rest : List ℕ) where
  pub next : (target : NoteTarget) (read : Read Object) → object_at rest ≡ Some read → Some target
      ≡ note_target_of read.found
      → and_left targets rest ≡ targets_in value → and_left (targets ++ target ∷ []) read.behind
      ≡ targets_in value
  next target read is taking so =
      sym (taken targets target read.found (sym taking) (objects_of read.behind)) ∙ sym
      (ap (and_those targets) (objects_step rest read is)) ∙ so

  pub refused : (read : Read Object) → object_at rest ≡ Some read → None ≡ note_target_of read.found
      → and_left targets rest ≡ targets_in value → None ≡ targets_in value
  refused read is none so =
      sym (bad targets read.found (sym none) (objects_of read.behind)) ∙ sym
      (ap (and_those targets) (objects_step rest read is)) ∙ so

  pub past_eight : (read : Read Object) → object_at rest ≡ Some read → length targets ≡ 8
      → and_left targets rest ≡ targets_in value → None ≡ targets_in value
  past_eight read is eight so =
      sym (full targets read.found eight (objects_of read.behind)) ∙ sym
      (ap (and_those targets) (objects_step rest read is)) ∙ so

  none_there : (bytes : List ℕ) → (bytes ≡ [] → ⊥) → object_at bytes ≡ None → and_left targets bytes
      ≡ None
  unfolding and_those
  none_there [] some none = absurd (some refl)
  none_there (b ∷ bytes) some none = ap (option_and_then (and_among targets)) (no_step b bytes none)

  pub broken : (rest ≡ [] → ⊥) → object_at rest ≡ None → and_left targets rest ≡ targets_in value
      → None ≡ targets_in value
  broken some none so = sym (none_there rest some none) ∙ so

  at_end : length targets ≤ 8 → and_left targets [] ≡ Some targets
  unfolding and_those and_among
  at_end fits =
      ap (option_and_then (and_among targets)) no_objects
      ∙ ap (λ b. cond b (Some (targets ++ [])) None) (few (length targets) fits)
      ∙ ap (λ (xs : List NoteTarget). Some xs) (append-nil targets)

  pub ended : rest ≡ [] → length targets ≤ 8 → and_left targets rest ≡ targets_in value
      → Some targets ≡ targets_in value
  ended none fits so = sym (at_end fits) ∙ sym (ap (and_left targets) none) ∙ so
