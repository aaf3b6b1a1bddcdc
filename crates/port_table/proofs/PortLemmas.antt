-- A profile taken from its port.
use Rattle.std.proofs.Common.{◌≡◌, ◌≢◌, ◌↔◌, ◌<◌, ◌+◌, suc, arith, set, get_or, ℕ, Bool, true}
use Rattle.std.proofs.Common.{false, cond, nat_eq, List, length, Option, Some, None, refl, sym, ◌∙◌}
use Rattle.std.proofs.Common.{ap, eq-eqb, eqb-true}
use Rattle.std.specs.Prelude.{slice_get, option_map}
use Rattle.std.proofs.lemmas.Bool.{false≢true}
use Rattle.std.proofs.lemmas.List.{length-map}
use Rattle.std.proofs.lemmas.Option.{slice_get-map}
use Rattle.plain_lists.proofs.MappedLemmas.{get_or-mapped_to, mapped_to, mapped_to-next}
use Rattle.port_table.specs.Ports.{KeepsPortRule, StandsNowhere, StandsOn, freed, unbound}
use Rattle.port_table.specs.declared.ports.Ports.{Ports}

-- what a place has that is still there without a profile
was_there : (profile another : ℕ) (place : Option (Option ℕ)) → option_map (freed profile) place ≡ Some (Some another)
    → (place ≡ Some (Some another)) × (another ≢ profile)
was_there profile another None e = absurd cc
was_there profile another (Some None) e = absurd cc
was_there profile another (Some (Some stands)) e =
    let step : (b : Bool) → nat_eq stands profile ≡ b → Some (cond b None (Some stands)) ≡ Some (Some another)
    → (Some (Some stands) ≡ Some (Some another)) × (another ≢ profile)
    = λ b. elim b as (λ b. nat_eq stands profile ≡ b → Some (cond b None (Some stands)) ≡ Some (Some another)
    → (Some (Some stands) ≡ Some (Some another)) × (another ≢ profile)) [
      | true ↦ λ is e. absurd cc
      | false ↦ λ is e. (e, λ same. let stood : stands ≡ another = cc in false≢true (sym is ∙ eq-eqb stands profile (stood ∙ same)))
    ]
    in step (nat_eq stands profile) refl e

stays_there : (profile another : ℕ) → another ≢ profile → option_map (freed profile) (Some (Some another)) ≡ Some (Some another)
stays_there profile another differs =
    let step : (b : Bool) → nat_eq another profile ≡ b → Some (cond b None (Some another)) ≡ Some (Some another)
    = λ b. elim b as (λ b. nat_eq another profile ≡ b → Some (cond b None (Some another)) ≡ Some (Some another)) [
      | true ↦ λ is. absurd (differs (eqb-true another profile is))
      | false ↦ λ is. refl
    ]
    in step (nat_eq another profile) refl

module _ (profile : ℕ) (ports : Ports) where
  was_on : (another port : ℕ) → StandsOn (unbound profile ports) another port → StandsOn ports another port × (another ≢ profile)
  was_on another port stands =
      was_there profile another (slice_get ports.on port) (sym (slice_get-map (freed profile) ports.on port) ∙ stands)

  stays_on : (another port : ℕ) → another ≢ profile → StandsOn ports another port → StandsOn (unbound profile ports) another port
  stays_on another port differs stands =
      slice_get-map (freed profile) ports.on port ∙ ap (option_map (freed profile)) stands ∙ stays_there profile another differs

  pub unbound_keeps : KeepsPortRule ports → KeepsPortRule (unbound profile ports)
  unbound_keeps rule = record {
    count = length-map ports.on (freed profile) ∙ rule.count;
    one_port = λ another one other first second. rule.one_port another one other (was_on another one first).0 (was_on another other second).0;
    places = λ another port stands. rule.places another port (was_on another port stands).0;
  }

  pub nowhere : StandsNowhere (unbound profile ports) profile
  nowhere port stands = (was_on profile port stands).1 refl

  pub others : (another port : ℕ) → another ≢ profile → StandsOn (unbound profile ports) another port ↔ StandsOn ports another port
  others another port differs = (λ stands. (was_on another port stands).0, λ stands. stays_on another port differs stands)

-- one place more is freed
pub free_more : (profile : ℕ) (ports now : Ports) (port : ℕ) → port < length ports.on
    → now ≡ record ports { on = mapped_to (freed profile) port ports.on }
    → record now { on = set now.on port (freed profile (get_or now.on port None)) } ≡ record ports { on = mapped_to (freed profile) (port + 1) ports.on }
free_more profile ports now port within so_far =
    let so : List (Option ℕ) = mapped_to (freed profile) port ports.on in
    let next : set so port (freed profile (get_or so port None)) ≡ mapped_to (freed profile) (suc port) ports.on =
    ap (λ place. set so port (freed profile place)) (get_or-mapped_to (freed profile) port ports.on None)
    ∙ mapped_to-next (freed profile) port ports.on None within
    in
    let one_more : suc port ≡ port + 1 = omega arith in
    ap (λ (p : Ports). record p { on = set p.on port (freed profile (get_or p.on port None)) }) so_far
    ∙ ap (λ (on : List (Option ℕ)). record ports { on = on }) (next ∙ ap (λ k. mapped_to (freed profile) k ports.on) one_more)
