-- What a map or a set of keys has after one key more.
use Rattle.std.proofs.Common.{◌≡◌, ℕ, Bool, true, false, cond, ◌&&◌, ◌||◌, ◌==◌, List, refl, sym}
use Rattle.std.proofs.Common.{◌∙◌, ap, Option, Some, None, arith}
use Rattle.std.specs.Prelude.{is_some}
use Rattle.std.specs.BTreeMap.{BTreeMap, get_by, UpdatesBy as UpdatesMap}
use Rattle.std.specs.BTreeSet.{BTreeSet, contains_by, UpdatesBy as UpdatesSet}
use Rattle.std.specs.Cmp.Lexicographic.{slice_cmp}
use Rattle.std.specs.Option.{option_or}
use Rattle.std.specs.Ordering.{is_eq, nat_cmp, ordering_then}
use Rattle.std.specs.Str.{bytes_eq}
use Rattle.std.specs.declared.cmp.Ordering.{Ordering}
use Rattle.std.specs.declared.cmp.Ordering.TheVariants.{Less, Equal, Greater}
use Rattle.std.proofs.lemmas.Bool.{true≢false, false≢true}
use Rattle.std.proofs.lemmas.Bool.Decides.{nat_tests}
use Rattle.std.proofs.lemmas.Map.Text.{is_eq-slice_cmp}
use Rattle.std.proofs.lemmas.Slice.Eq.{bytes_eq-Decides}
use Rattle.arrayvec.specs.ArrayVec.{ArrayVec}
use Rattle.profile_install.specs.FileKeys.{to_name, to_path, to_sfi}

abbrev path_order : ArrayVec ℕ → ArrayVec ℕ → Ordering
path_order one other = slice_cmp nat_cmp one.items other.items

abbrev sfi_order : ArrayVec ℕ × ℕ → ArrayVec ℕ × ℕ → Ordering
sfi_order one other =
    ordering_then (slice_cmp nat_cmp one.0.items other.0.items) (nat_cmp one.1 other.1)

abbrev key : List ℕ → ArrayVec ℕ
key items = record { items = items }

first_or : (old : Option ℕ) (b : Bool) (place : ℕ) → is_some old ≡ true
    → old ≡ option_or old (cond b (Some place) None)
first_or None b place e = absurd (false≢true e)
first_or (Some first) b place e = refl

none_of : (old : Option ℕ) → is_some old ≡ false → old ≡ None
none_of None e = refl
none_of (Some first) e = absurd (true≢false e)

or_no_place : (old : Option ℕ) → old ≡ option_or old None
or_no_place None = refl
or_no_place (Some first) = refl

-- a path that is there keeps its place
pub place_kept : (old : BTreeMap (ArrayVec ℕ) ℕ) (path : List ℕ) (place : ℕ) (other : List ℕ)
    → is_some (get_by (to_path path) old) ≡ true
    → get_by (to_path other) old
    ≡ option_or (get_by (to_path other) old) (cond (bytes_eq path other) (Some place) None)
place_kept old path place other there = by (bytes_eq path other) refl
  where
    by : (b : Bool) → bytes_eq path other ≡ b → get_by (to_path other) old
        ≡ option_or (get_by (to_path other) old) (cond b (Some place) None)
    by true e =
        let same : path ≡ other = (bytes_eq-Decides path other).0 e in
        first_or (get_by (to_path other) old) true place
        (ap (λ (p : List ℕ). is_some (get_by (to_path p) old)) (sym same) ∙ there)
    by false e = or_no_place (get_by (to_path other) old)

-- a path that isn't there gets a place
pub place_put : (old more : BTreeMap (ArrayVec ℕ) ℕ) (path : ArrayVec ℕ) (place : ℕ)
    (other : List ℕ) → is_some (get_by (to_path path.items) old) ≡ false
    → UpdatesMap path_order (path_order path) old more (Some place)
    → get_by (to_path other) more
    ≡ option_or (get_by (to_path other) old) (cond (bytes_eq path.items other) (Some place) None)
place_put old more path place other none puts =
    puts.0 (key other)
    ∙ ap (λ (b : Bool). cond b (Some place) (get_by (to_path other) old))
    (is_eq-slice_cmp path.items other)
    ∙ by (bytes_eq path.items other) refl
  where
    by : (b : Bool) → bytes_eq path.items other ≡ b
        → cond b (Some place) (get_by (to_path other) old)
        ≡ option_or (get_by (to_path other) old) (cond b (Some place) None)
    by true e =
        let same : path.items ≡ other = (bytes_eq-Decides path.items other).0 e in
        let empty : get_by (to_path other) old ≡ None = none_of (get_by (to_path other) old)
        (ap (λ (p : List ℕ). is_some (get_by (to_path p) old)) (sym same) ∙ none) in
        ap (λ (o : Option ℕ). option_or o (Some place)) (sym empty)
    by false e = or_no_place (get_by (to_path other) old)

or_at_end : (b old : Bool) → cond b true old ≡ (old || b)
or_at_end true true = refl
or_at_end true false = refl
or_at_end false true = refl
or_at_end false false = refl

pub name_put : (old more : BTreeSet (ArrayVec ℕ)) (name : ArrayVec ℕ) (other : List ℕ)
    → UpdatesSet path_order (path_order name) old more true
    → contains_by (to_name other) more
    ≡ (contains_by (to_name other) old || bytes_eq name.items other)
name_put old more name other puts =
    puts.0 (key other)
    ∙ ap (λ (b : Bool). cond b true (contains_by (to_name other) old))
    (is_eq-slice_cmp name.items other)
    ∙ or_at_end (bytes_eq name.items other) (contains_by (to_name other) old)

then_equal : (one other : Ordering) → is_eq (ordering_then one other) ≡ (is_eq one && is_eq other)
then_equal Less other = refl
then_equal Equal other = refl
then_equal Greater other = refl

same_number : (a b : ℕ) → is_eq (nat_cmp a b) ≡ (a == b)
same_number a b = grind (arith, nat_tests)

pub sfi_put : (old more : BTreeSet (ArrayVec ℕ × ℕ)) (directory : ArrayVec ℕ) (sfi : ℕ)
    (other : List ℕ) (number : ℕ)
    → UpdatesSet sfi_order (sfi_order (directory, sfi)) old more true
    → contains_by (to_sfi other number) more ≡ (contains_by (to_sfi other number) old
    || (bytes_eq directory.items other && (sfi == number)))
sfi_put old more directory sfi other number puts =
    puts.0 (key other, number)
    ∙ ap (λ (b : Bool). cond b true (contains_by (to_sfi other number) old))
    (then_equal (slice_cmp nat_cmp directory.items other) (nat_cmp sfi number)
    ∙ ap (λ (b : Bool). b && is_eq (nat_cmp sfi number)) (is_eq-slice_cmp directory.items other)
    ∙ ap (λ (b : Bool). bytes_eq directory.items other && b) (same_number sfi number))
    ∙ or_at_end (bytes_eq directory.items other && (sfi == number))
    (contains_by (to_sfi other number) old)
