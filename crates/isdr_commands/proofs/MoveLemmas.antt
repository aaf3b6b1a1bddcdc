-- The ports before and after a record.
use Rattle.std.proofs.Common.{◌≡◌, ◌≢◌, ◌<◌, ◌≤◌, ℕ, zero, suc, Bool, true, false, not, cond}
use Rattle.std.proofs.Common.{nat_eq, set, List, [], ◌∷◌, length, Option, Some, None, refl, sym}
use Rattle.std.proofs.Common.{◌∙◌, ap, arith, eq-eqb, get_or}
use Rattle.std.specs.Prelude.{Ok, Err, ◌&&◌, nat_lt, slice_get, option_map, option_and_then}
use Rattle.std.proofs.lemmas.Bool.{false≢true, leb-true}
use Rattle.std.proofs.lemmas.Option.{slice_get-get_or, slice_get-map, slice_get_within}
use Rattle.port_table.proofs.TargetLemmas.{lowest}
use Rattle.port_table.specs.Ports.{HasProfiles, StandsOn, freed}
use Rattle.port_table.specs.Ports.{unbound}
use Rattle.port_table.specs.Target.{target_in, target_port, usable}
use Rattle.port_table.specs.declared.port_mode.PortMode.{PortMode}
use Rattle.port_table.specs.declared.port_mode.PortMode.TheVariants as modes
use Rattle.port_table.specs.declared.target.TargetFault.TheVariants.{NotUsable}
use Rattle.port_table.specs.declared.ports.Ports.{Ports}
use Rattle.record_codec.proofs.HeldLemmas.{differ_is}

-- another place of a list than the one where an element was put
pub set_others : {X : Type 0} (xs : List X) (i j : ℕ) (v : X) → i ≢ j → slice_get (set xs i v) j
    ≡ slice_get xs j
set_others [] i j v differ = refl
set_others (x ∷ xs) zero zero v differ = absurd (differ refl)
set_others (x ∷ xs) zero (suc j) v differ = refl
set_others (x ∷ xs) (suc i) zero v differ = refl
set_others (x ∷ xs) (suc i) (suc j) v differ = set_others xs i j v (λ e. differ (ap suc e))

-- a place within a list, by what is read there
pub place_there : (on : List (Option ℕ)) (port : ℕ) → port < length on → slice_get on port ≡ Some
    (option_and_then (λ place. place) (slice_get on port))
place_there on port within =
    let there : slice_get on port ≡ Some (get_or on port None) =
    slice_get-get_or on port None within in
    there ∙ ap (λ (o : Option (Option ℕ)). Some (option_and_then (λ place. place) o)) (sym there)

-- a place that doesn't hold the profile stays
pub freed_other : (profile : ℕ) (place : Option (Option ℕ)) → (place ≡ Some (Some profile) → ⊥)
    → option_map (freed profile) place ≡ place
freed_other profile None other = refl
freed_other profile (Some None) other = refl
freed_other profile (Some (Some stands)) other =
    let differs : stands ≢ profile = λ same. other (ap (λ (n : ℕ). Some (Some n)) same) in
    rw (differ_is stands profile differs) refl

module _ (ports : Ports) (profile : ℕ) where
  pub unbound_there : (port : ℕ) → StandsOn ports profile port
      → slice_get (unbound profile ports).on port ≡ Some None
  unbound_there port stands =
      slice_get-map (freed profile) ports.on port ∙ ap (option_map (freed profile)) stands
      ∙ ap (λ (b : Bool). Some (cond b None (Some profile))) (eq-eqb profile profile refl)

  pub unbound_others : (port : ℕ) → (StandsOn ports profile port → ⊥)
      → slice_get (unbound profile ports).on port ≡ slice_get ports.on port
  unbound_others port other =
      slice_get-map (freed profile) ports.on port ∙ freed_other profile (slice_get ports.on port)
      other

not_zero : (n : ℕ) → nat_eq n 0 ≡ false → n ≢ 0
not_zero n e same = false≢true (sym e ∙ eq-eqb n 0 same)

-- a port that may be named
usable_there : (count port : ℕ) (given : Option ℕ) → usable count given ≡ Ok port → (port < count)
    × (port ≢ 0)
usable_there count port None e = absurd cc
usable_there count port (Some other) e =
    let step : (zero below : Bool) → nat_eq other 0 ≡ zero → nat_lt other count ≡ below
    → cond (not zero && below) (Ok other) (Err NotUsable) ≡ Ok port
    → (port < count) × (port ≢ 0)
    =
    λ zero. elim zero as
    (λ zero. (below : Bool) → nat_eq other 0 ≡ zero → nat_lt other count ≡ below
    → cond (not zero && below) (Ok other) (Err NotUsable) ≡ Ok port
    → (port < count) × (port ≢ 0)) [
      | true ↦ λ below is within e. absurd cc
      | false ↦ λ below. elim below as (λ below. nat_eq other 0 ≡ false → nat_lt other count ≡ below
          → cond below (Ok other) (Err NotUsable) ≡ Ok port
          → (port < count) × (port ≢ 0)) [
            | true ↦ λ is within e.
                let same : other ≡ port = cc in
                let less : suc other ≤ count = leb-true (suc other) count within in
                (omega (arith, same, less), λ none. not_zero other is (same ∙ none))
            | false ↦ λ is within e. absurd cc
          ]
    ]
    in step (nat_eq other 0) (nat_lt other count) refl refl e

-- a target is a port of the card on which a profile may stand
module _ (ports : Ports) (came port : ℕ) (given : Option ℕ) where
  target_there : (mode : PortMode) → length ports.on ≡ ports.count → came < ports.count
      → target_in mode ports came given ≡ Ok port
      → (port < ports.count) × HasProfiles mode port
  target_there modes.A1 places below e = usable_there ports.count port given e
  target_there modes.A2 places below e =
      let is = lowest ports port e in
      let within : port < length ports.on = slice_get_within ports.on port None is.free in
      let from : 1 ≤ port = is.from_1 in
      (omega (arith, within, places), λ none. absurd (omega (arith, none, from)))
  target_there modes.B places below e =
      let same : came ≡ port = cc in
      (omega (arith, same, below), refl)

  pub target_is : length ports.on ≡ ports.count → came < ports.count → target_port ports came given
      ≡ Ok port
      → (port < ports.count) × HasProfiles ports.mode port
  target_is = target_there ports.mode
