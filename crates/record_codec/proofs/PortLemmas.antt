-- Profiles bound to a port and taken from theirs.
use Rattle.std.proofs.Common.{◌≡◌, ◌≢◌, ◌⊎◌, ◌↔◌, ◌<◌, ◌+◌, ℕ, zero, suc, Bool, true, false, nat_eq}
use Rattle.std.proofs.Common.{List, [], ◌∷◌, length, drop, get_or, set, replicate, Option, Some}
use Rattle.std.proofs.Common.{None, refl, sym, ◌∙◌, ap, subst, inl, inr, ⊎_elim, arith, eqb-true}
use Rattle.std.proofs.Common.{eq-eqb}
use Rattle.std.specs.Prelude.{IfSome, slice_get}
use Rattle.std.proofs.lemmas.Bool.{false≢true}
use Rattle.std.proofs.lemmas.List.{length-set}
use Rattle.std.proofs.lemmas.Option.{slice_get_within}
use Rattle.file_rows.proofs.EachLemmas.{drop_item}
use Rattle.port_table.specs.Ports.{HasProfiles, KeepsPortRule, MayBind, StandsNowhere, StandsOn}
use Rattle.port_table.specs.Ports.{bound, unbound}
use Rattle.port_table.specs.declared.ports.Ports.{Ports}
use Rattle.port_table.proofs.PortLemmas.{nowhere, others, unbound_keeps}
use Rattle.record_codec.specs.Gone.{is_among, unbound_each}
use Rattle.record_codec.specs.Heads.{IsHeld}
use Rattle.record_codec.specs.IsDurable.{AreHeads, ArePorts}
use Rattle.record_codec.specs.Takes.{IsBinding, IsNewProfile}
use Rattle.record_codec.specs.declared.durable.Heads.{Heads}
use Rattle.record_codec.specs.declared.profile.ProfileHead.{ProfileHead}

-- what a list has where another element was put
pub set_cases : {X : Type 0} (xs : List X) (i j : ℕ) (v y : X) → slice_get (set xs i v) j ≡ Some y → ((j ≡ i) × (v ≡ y)) ⊎ (slice_get xs j ≡ Some y)
set_cases [] i j v y e = absurd (cc)
set_cases (x ∷ xs) zero zero v y e = inl (refl, cc)
set_cases (x ∷ xs) zero (suc j) v y e = inr e
set_cases (x ∷ xs) (suc i) zero v y e = inr e
set_cases (x ∷ xs) (suc i) (suc j) v y e = ⊎_elim (λ same. inl (ap suc same.0, same.1)) (λ other. inr other) (set_cases xs i j v y e)

pub set_there : {X : Type 0} (xs : List X) (i : ℕ) (v y : X) → slice_get xs i ≡ Some y → slice_get (set xs i v) i ≡ Some v
set_there [] i v y e = absurd (cc)
set_there (x ∷ xs) zero v y e = refl
set_there (x ∷ xs) (suc i) v y e = set_there xs i v y e

-- a card without profiles has none on a port
pub none_stands : (count : ℕ) (profile port : ℕ) → slice_get (replicate count None) port ≡ Some (Some profile) → ⊥
none_stands zero profile port e = cc
none_stands (suc count) profile zero e = cc
none_stands (suc count) profile (suc port) e = none_stands count profile port e

-- with one more profile on a port on which one may stand
pub bound_are : (profiles after : List ProfileHead) (ports : Ports) (profile port : ℕ) → ArePorts profiles ports
    → ((number : ℕ) → IsHeld number profiles → IsHeld number after) → IsHeld profile after → StandsNowhere ports profile
    → HasProfiles ports.mode port → ArePorts after (bound profile port ports)
bound_are profiles after ports profile port are stay held nowhere place =
    let cases : (another other : ℕ) → StandsOn (bound profile port ports) another other
    → ((other ≡ port) × (Some profile ≡ Some another)) ⊎ StandsOn ports another other
    = λ another other stands. set_cases ports.on port other (Some profile) (Some another) stands in
    let same : (another : ℕ) → Some profile ≡ Some another → profile ≡ another = λ another e. cc in
    record {
      some = are.some;
      few = are.few;
      rule = record {
        count = length-set ports.on port (Some profile) ∙ are.rule.count;
        one_port = λ another one other first second. ⊎_elim
            (λ here. ⊎_elim
            (λ there. here.0 ∙ sym there.0)
            (λ stood. absurd (nowhere other (subst (λ (n : ℕ). StandsOn ports n other) (sym (same another here.1)) stood)))
            (cases another other second))
            (λ stood. ⊎_elim
            (λ there. absurd (nowhere one (subst (λ (n : ℕ). StandsOn ports n one) (sym (same another there.1)) stood)))
            (λ stood'. are.rule.one_port another one other stood stood')
            (cases another other second))
            (cases another one first);
        places = λ another other stands. ⊎_elim
            (λ here. subst (HasProfiles ports.mode) (sym here.0) place)
            (λ stood. are.rule.places another other stood)
            (cases another other stands);
      };
      held = λ another other stands. ⊎_elim
          (λ here. subst (λ (n : ℕ). IsHeld n after) (same another here.1) held)
          (λ stood. stay another (are.held another other stood))
          (cases another other stands);
    }

-- a profile that stands on a port after another was taken away stood there before
was_on : (profile : ℕ) (ports : Ports) (another port : ℕ) → StandsOn (unbound profile ports) another port → StandsOn ports another port × (another ≢ profile)
was_on profile ports another port stands =
    let step : (b : Bool) → nat_eq another profile ≡ b → StandsOn ports another port × (another ≢ profile)
    = λ b. elim b as (λ b. nat_eq another profile ≡ b → StandsOn ports another port × (another ≢ profile)) [
      | true ↦ λ is.
          absurd (nowhere profile ports port (subst (λ (n : ℕ). StandsOn (unbound profile ports) n port) (eqb-true another profile is) stands))
      | false ↦ λ is.
          let differs : another ≢ profile = λ e. false≢true (sym is ∙ eq-eqb another profile e) in
          ((others profile ports another port differs).0 stands, differs)
    ]
    in step (nat_eq another profile) refl

pub unbound_are : (profiles : List ProfileHead) (ports : Ports) (profile : ℕ) → ArePorts profiles ports → ArePorts profiles (unbound profile ports)
unbound_are profiles ports profile are = record {
  some = are.some;
  few = are.few;
  rule = unbound_keeps profile ports are.rule;
  held = λ another port stands. are.held another port (was_on profile ports another port stands).0;
}

pub each_rule : (numbers : List ℕ) (ports : Ports) → KeepsPortRule ports → KeepsPortRule (unbound_each numbers ports)
each_rule [] ports rule = rule
each_rule (number ∷ numbers) ports rule = each_rule numbers (unbound number ports) (unbound_keeps number ports rule)

pub each_count : (numbers : List ℕ) (ports : Ports) → ((unbound_each numbers ports).count ≡ ports.count) × ((unbound_each numbers ports).mode ≡ ports.mode)
each_count [] ports = (refl, refl)
each_count (number ∷ numbers) ports = each_count numbers (unbound number ports)

-- so too after several
pub were_on : (numbers : List ℕ) (ports : Ports) (another port : ℕ) → StandsOn (unbound_each numbers ports) another port
    → StandsOn ports another port × (is_among numbers another ≡ false)
were_on [] ports another port stands = (stands, refl)
were_on (number ∷ numbers) ports another port stands =
    let later = were_on numbers (unbound number ports) another port stands in
    let first = was_on number ports another port later.0 in
    let step : (b : Bool) → nat_eq number another ≡ b → is_among (number ∷ numbers) another ≡ false
    = λ b. elim b as (λ b. nat_eq number another ≡ b → is_among (number ∷ numbers) another ≡ false) [
      | true ↦ λ is. absurd (first.1 (sym (eqb-true number another is)))
      | false ↦ λ is. rw is later.1
    ]
    in (first.0, step (nat_eq number another) refl)

-- a profile that stands on no place so far stands on those that are left
pub stands_more : {G : Type 0} (profile : ℕ) (on : List (Option ℕ)) (i : ℕ) (place : Option ℕ) → i < length on → place ≡ get_or on i place
    → (((port : ℕ) × (slice_get (drop i on) port ≡ Some (Some profile))) ↔ G) → (place ≡ Some profile → ⊥)
    → ((port : ℕ) × (slice_get (drop (i + 1) on) port ≡ Some (Some profile))) ↔ G
stands_more profile on i place within at left other =
    let here = drop_item on i place within at in (
      λ later. left.0 (suc later.0, subst (λ (xs : List (Option ℕ)). slice_get xs (suc later.0) ≡ Some (Some profile)) (sym here) later.1),
      λ g.
          let all = left.1 g in
          later_place (drop (i + 1) on) all.0 (subst (λ (xs : List (Option ℕ)). slice_get xs all.0 ≡ Some (Some profile)) here all.1),
    )
  where
    later_place : (rest : List (Option ℕ)) (port : ℕ) → slice_get (place ∷ rest) port ≡ Some (Some profile)
        → (port : ℕ) × (slice_get rest port ≡ Some (Some profile))
    later_place rest zero e = absurd (other (cc))
    later_place rest (suc port) e = (port, e)

-- one more profile may be bound to its port
pub may_bind : (heads : Heads) (installation : Bool) (head : ProfileHead) (port : Option ℕ) → AreHeads heads → IsNewProfile heads installation head port
    → IfSome port (λ port. MayBind heads.ports head.number port)
may_bind heads installation head None are new = tt
may_bind heads installation head (Some port) are new = record {
  count = are.ports.rule.count;
  below = omega (arith, slice_get_within heads.ports.on port None new.free.free, are.ports.rule.count);
  place = new.free.place;
  nowhere = λ other stands. new.new (are.ports.held head.number other stands);
}

-- a profile that stands on no port may be bound to one
pub may_bind_to : (heads : Heads) (profile port : ℕ) (displaced : Option ℕ) → AreHeads heads → IsBinding heads profile port displaced → MayBind heads.ports profile port
may_bind_to heads profile port displaced are binding = record {
  count = are.ports.rule.count;
  below = omega (arith, slice_get_within heads.ports.on port displaced binding.there, are.ports.rule.count);
  place = binding.place;
  nowhere = binding.nowhere;
}
