-- The port of a profile.
use Rattle.std.proofs.Common.{◌≡◌, ◌≢◌, ◌↔◌, ◌<◌, zero, suc, arith, ℕ, Bool, true, false, cond}
use Rattle.std.proofs.Common.{nat_eq, List, [], ◌∷◌, length, Option, Some, None, refl, sym, ◌∙◌, ap}
use Rattle.std.proofs.Common.{eq-eqb, eqb-true}
use Rattle.std.specs.Prelude.{slice_get, slice_index_or, option_map}
use Rattle.std.proofs.lemmas.Bool.{false≢true}
use Rattle.port_table.specs.Ports.{StandsNowhere, StandsOn, holds}
use Rattle.port_table.specs.PortOf.{port_of}
use Rattle.port_table.specs.declared.ports.Ports.{Ports}

pub port_found : (on : List (Option ℕ)) (port profile : ℕ) → ((k : ℕ) → k < port → holds profile (slice_index_or on k None) ≡ false) → port < length on
    → holds profile (slice_index_or on port None) ≡ true → port_of profile on ≡ Some port
port_found [] port profile before within here = absurd (omega (arith, within))
port_found (place ∷ on) zero profile before within here = ap (λ (b : Bool). cond b (Some 0) (option_map suc (port_of profile on))) here
port_found (place ∷ on) (suc port) profile before within here =
    ap (λ (b : Bool). cond b (Some 0) (option_map suc (port_of profile on))) (before 0 (omega arith))
    ∙ ap (option_map suc) (port_found on port profile (λ k below. before (suc k) (omega (arith, below))) (omega (arith, within)) here)

pub port_none : (on : List (Option ℕ)) (profile : ℕ) → ((k : ℕ) → k < length on → holds profile (slice_index_or on k None) ≡ false) → port_of profile on ≡ None
port_none [] profile each = refl
port_none (place ∷ on) profile each =
    ap (λ (b : Bool). cond b (Some 0) (option_map suc (port_of profile on))) (each 0 (omega arith))
    ∙ ap (option_map suc) (port_none on profile (λ k below. each (suc k) (omega (arith, below))))

-- a place that holds a profile has it
its_place : (profile : ℕ) (place : Option ℕ) → holds profile place ≡ true → place ≡ Some profile
its_place profile None e = absurd (false≢true e)
its_place profile (Some other) e = ap (λ (n : ℕ). Some n) (eqb-true other profile e)

module _ (profile : ℕ) where
  later : (found : Option ℕ) (port : ℕ) → option_map suc found ≡ Some port → (k : ℕ) × (found ≡ Some k) × (port ≡ suc k)
  later None port e = absurd cc
  later (Some k) port e = (k, refl, cc)

  stands_first : (place : Option ℕ) (on : List (Option ℕ)) (rest : (port : ℕ) → port_of profile on ≡ Some port → slice_get on port ≡ Some (Some profile)) (port : ℕ)
      (b : Bool) → holds profile place ≡ b → cond b (Some 0) (option_map suc (port_of profile on)) ≡ Some port → slice_get (place ∷ on) port ≡ Some (Some profile)
  stands_first place on rest port true here e =
      let first : port ≡ 0 = cc in
      rw first (ap (λ (p : Option ℕ). Some p) (its_place profile place here))
  stands_first place on rest port false here e =
      let next = later (port_of profile on) port e in
      rw next.2 (rest next.0 next.1)

  pub stands : (on : List (Option ℕ)) (port : ℕ) → port_of profile on ≡ Some port → slice_get on port ≡ Some (Some profile)
  stands [] port e = absurd cc
  stands (place ∷ on) port e = stands_first place on (λ port e. stands on port e) port (holds profile place) refl e

  no_more : (found : Option ℕ) → option_map suc found ≡ None → found ≡ None
  no_more None e = refl
  no_more (Some k) e = absurd cc

  none_first : (place : Option ℕ) (on : List (Option ℕ)) (rest : (port : ℕ) → port_of profile on ≡ None → slice_get on port ≡ Some (Some profile) → ⊥)
      (b : Bool) → holds profile place ≡ b → cond b (Some 0) (option_map suc (port_of profile on)) ≡ None → (port : ℕ) → slice_get (place ∷ on) port ≡ Some (Some profile) → ⊥
  none_first place on rest true here e port at = absurd cc
  none_first place on rest false here e zero at =
      let same : place ≡ Some profile = cc in
      false≢true (sym here ∙ (ap (holds profile) same ∙ eq-eqb profile profile refl))
  none_first place on rest false here e (suc port) at = rest port (no_more (port_of profile on) e) at

  -- where none is found, it stands at no place
  pub none_stands : (on : List (Option ℕ)) (port : ℕ) → port_of profile on ≡ None → slice_get on port ≡ Some (Some profile) → ⊥
  none_stands [] port e at = absurd cc
  none_stands (place ∷ on) port e at = none_first place on (λ port e at. none_stands on port e at) (holds profile place) refl e port at

  nowhere_then : (ports : Ports) (o : Option ℕ) → port_of profile ports.on ≡ o → StandsNowhere ports profile → o ≡ None
  nowhere_then ports None e nowhere = refl
  nowhere_then ports (Some port) e nowhere = absurd (nowhere port (stands ports.on port e))

  pub nowhere_found : (ports : Ports) → (port_of profile ports.on ≡ None) ↔ StandsNowhere ports profile
  nowhere_found ports = (
    λ none port at. none_stands ports.on port none at,
    λ nowhere. nowhere_then ports (port_of profile ports.on) refl nowhere,
  )
