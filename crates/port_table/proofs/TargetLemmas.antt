-- The lowest free port.
use Rattle.std.proofs.Common.{◌≡◌, ◌↔◌, ◌<◌, ◌≤◌, ◌+◌, zero, suc, arith, ℕ, Bool, true, false, not}
use Rattle.std.proofs.Common.{cond, List, [], ◌∷◌, length, drop, get_or, Option, Some, None, Result}
use Rattle.std.proofs.Common.{Ok, Err, refl, sym, ◌∙◌, ap, subst}
use Rattle.std.specs.Prelude.{slice_get, option_map, position, is_some, nat_lt}
use Rattle.std.specs.List.{position_or_len}
use Rattle.std.specs.Option.{ok_or}
use Rattle.std.proofs.lemmas.List.Quantifiers.{position-Some}
use Rattle.std.proofs.lemmas.Option.{slice_get-get_or, get_or_from_slice_get}
use Rattle.std.proofs.lemmas.Bool.{true≢false}
use Rattle.port_table.specs.Target.{HasNoProfile, IsLowestFree, is_free_place, lowest_free}
use Rattle.port_table.specs.declared.ports.Ports.{Ports}
use Rattle.port_table.specs.declared.target.TargetFault.{TargetFault}
use Rattle.port_table.specs.declared.target.TargetFault.TheVariants.{NoneFree}

module _ {X : Type 0} (p : X → Bool) where
  -- the first place that passes isn't behind one that passes
  not_behind : (xs : List X) (k : ℕ) (d : X) → k < length xs → p (get_or xs k d) ≡ true → position_or_len p xs ≤ k
  not_behind [] k d within passes = absurd (omega (arith, within))
  not_behind (x ∷ xs) zero d within passes = rw passes (omega arith)
  not_behind (x ∷ xs) (suc k) d within passes =
      let rest : position_or_len p xs ≤ k = not_behind xs k d (omega (arith, within)) passes in
      elim (p x) as (λ b. cond (not b) (1 + position_or_len p xs) 0 ≤ suc k) [ true ↦ omega arith | false ↦ omega (arith, rest) ]

  -- where there is no first one, none passes
  none_passes : (xs : List X) (k : ℕ) (d : X) → position p xs ≡ None → k < length xs → p (get_or xs k d) ≡ true → ⊥
  none_passes xs k d none within passes =
      let least = not_behind xs k d within passes in
      let there : nat_lt (position_or_len p xs) (length xs) ≡ true = grind (arith, least, within) in
      let some : position p xs ≡ Some (position_or_len p xs) = ap (λ b. cond b (Some (position_or_len p xs)) None) there in
      cc

its_None : (place : Option ℕ) → is_free_place place ≡ true → place ≡ None
its_None None e = refl
its_None (Some profile) e = absurd cc

module _ (on : List (Option ℕ)) where
  at_later : (k : ℕ) → slice_get (drop 1 on) k ≡ slice_get on (suc k)
  at_later k = elim on as (λ on. slice_get (drop 1 on) k ≡ slice_get on (suc k)) [ [] ↦ refl | place ∷ places ↦ refl ]

  free_at : (k : ℕ) → k < length (drop 1 on) → is_free_place (get_or (drop 1 on) k None) ≡ true → slice_get on (suc k) ≡ Some None
  free_at k within free =
      sym (at_later k) ∙ slice_get-get_or (drop 1 on) k None within ∙ ap (λ (place : Option ℕ). Some place) (its_None (get_or (drop 1 on) k None) free)

  is_free_then : (k : ℕ) → slice_get on (suc k) ≡ Some None → is_free_place (get_or (drop 1 on) k None) ≡ true
  is_free_then k free =
      ap is_free_place (get_or_from_slice_get (drop 1 on) k None None (at_later k ∙ free))

  within_later : (k : ℕ) → slice_get on (suc k) ≡ Some None → k < length (drop 1 on)
  within_later k free = inside (drop 1 on) k (at_later k ∙ free)
    where
      inside : (xs : List (Option ℕ)) (k : ℕ) → slice_get xs k ≡ Some None → k < length xs
      inside [] k e = absurd cc
      inside (x ∷ xs) zero e = omega arith
      inside (x ∷ xs) (suc k) e = omega (arith, inside xs k e)

  none_lower : (k : ℕ) → ((j : ℕ) → j < k → is_free_place (get_or (drop 1 on) j None) ≡ false) → (other : ℕ) → 1 ≤ other → other < suc k → slice_get on other ≡ Some None → ⊥
  none_lower k taken zero from below free = absurd (omega (arith, from))
  none_lower k taken (suc j) from below free = true≢false (sym (is_free_then j free) ∙ taken j (omega (arith, below)))

lowest_from : (ports : Ports) (found : Option ℕ) → position is_free_place (drop 1 ports.on) ≡ found → (port : ℕ)
    → ok_or {E = TargetFault} (option_map suc found) NoneFree ≡ Ok port → IsLowestFree ports port
lowest_from ports None e port is = absurd cc
lowest_from ports (Some k) e port is =
    let at = position-Some is_free_place (drop 1 ports.on) k None e in
    let same : suc k ≡ port = cc in
    let lowest : IsLowestFree ports (suc k) = record {
      free = free_at ports.on k at.0 at.1;
      from_1 = omega arith;
      lowest = λ other from below free. none_lower ports.on k at.2 other from below free;
    } in
    subst (IsLowestFree ports) same lowest

pub lowest : (ports : Ports) (port : ℕ) → ok_or {E = TargetFault} (lowest_free ports.on) NoneFree ≡ Ok port → IsLowestFree ports port
lowest ports port is = lowest_from ports (position is_free_place (drop 1 ports.on)) refl port is

all_taken : (ports : Ports) (found : Option ℕ) → position is_free_place (drop 1 ports.on) ≡ found
    → ok_or {E = TargetFault} (option_map suc found) NoneFree ≡ Err NoneFree → (port : ℕ) → 1 ≤ port → HasNoProfile ports port → ⊥
all_taken ports (Some k) e is port from free = absurd cc
all_taken ports None e is zero from free = absurd (omega (arith, from))
all_taken ports None e is (suc k) from free =
    none_passes is_free_place (drop 1 ports.on) k None e (within_later ports.on k free) (is_free_then ports.on k free)

none_then : (ports : Ports) (found : Option ℕ) → position is_free_place (drop 1 ports.on) ≡ found
    → ((port : ℕ) → 1 ≤ port → HasNoProfile ports port → ⊥) → ok_or {E = TargetFault} (option_map suc found) NoneFree ≡ Err NoneFree
none_then ports None e taken = refl
none_then ports (Some k) e taken =
    let at = position-Some is_free_place (drop 1 ports.on) k None e in
    absurd (taken (suc k) (omega arith) (free_at ports.on k at.0 at.1))

pub none_free : (ports : Ports) → (ok_or {E = TargetFault} (lowest_free ports.on) NoneFree ≡ Err NoneFree) ↔ ((port : ℕ) → 1 ≤ port → HasNoProfile ports port → ⊥)
none_free ports = (
  λ is port from free. all_taken ports (position is_free_place (drop 1 ports.on)) refl is port from free,
  λ taken. none_then ports (position is_free_place (drop 1 ports.on)) refl taken,
)
