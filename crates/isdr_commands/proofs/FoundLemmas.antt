-- The profile that a request names.
use Rattle.std.proofs.Common.{◌≡◌, ◌≢◌, Bool, true, false, cond, List, [], ◌∷◌}
use Rattle.std.proofs.Common.{Some, refl, ap, subst, eq-eqb}
use Rattle.std.specs.Prelude.{find}
use Rattle.std.specs.List.{AllByRecursion}
use Rattle.file_rows.proofs.ListLemmas.{any_first, any_later}
use Rattle.plain_lists.specs.EachTwo.{EachTwo}
use Rattle.record_codec.proofs.HeldLemmas.{differ_is}
use Rattle.record_codec.specs.Heads.{IsHeld, head_of}
use Rattle.record_codec.specs.declared.profile.ProfileHead.{ProfileHead}

abbrev pub HasOther : ProfileHead → ProfileHead → Type 0
HasOther one other = one.number ≢ other.number

module _ (test : ProfileHead → Bool) (head : ProfileHead) where
  -- what holds of each profile holds of the one that is found
  pub found_each : (Q : ProfileHead → Type 0) (profiles : List ProfileHead)
      → AllByRecursion Q profiles → find test profiles ≡ Some head → Q head
  found_each Q [] each e = absurd cc
  found_each Q (one ∷ profiles) each e =
      let step : (b : Bool) → cond b (Some one) (find test profiles) ≡ Some head → Q head
      = λ b. elim b as (λ b. cond b (Some one) (find test profiles) ≡ Some head → Q head) [
        | true ↦ λ e. let same : one ≡ head = cc in subst Q same each.0
        | false ↦ λ e. found_each Q profiles each.1 e
      ]
      in step (test one) e

  pub found_passes : (profiles : List ProfileHead) → find test profiles ≡ Some head
      → test head ≡ true
  found_passes [] e = absurd cc
  found_passes (one ∷ profiles) e =
      let step : (b : Bool) → test one ≡ b → cond b (Some one) (find test profiles) ≡ Some head
      → test head ≡ true
      = λ b. elim b as (λ b. test one ≡ b → cond b (Some one) (find test profiles) ≡ Some head
      → test head ≡ true) [
        | true ↦ λ is e. let same : one ≡ head = cc in subst (λ (h : ProfileHead). test h ≡ true)
            same is
        | false ↦ λ is e. found_passes profiles e
      ]
      in step (test one) refl e

  pub found_held : (profiles : List ProfileHead) → find test profiles ≡ Some head
      → IsHeld head.number profiles
  found_held [] e = absurd cc
  found_held (one ∷ profiles) e =
      let step : (b : Bool) → cond b (Some one) (find test profiles) ≡ Some head
      → IsHeld head.number (one ∷ profiles)
      = λ b. elim b as (λ b. cond b (Some one) (find test profiles) ≡ Some head → IsHeld head.number
      (one ∷ profiles)) [
        | true ↦ λ e. let same : one ≡ head = cc in any_first (λ other. other.number ≡ head.number)
            one profiles (ap (λ (h : ProfileHead). h.number) same)
        | false ↦ λ e. any_later (λ other. other.number ≡ head.number) one profiles
            (found_held profiles e)
      ]
      in step (test one) e

  -- its number leads to it
  pub found_head : (profiles : List ProfileHead) → EachTwo HasOther profiles → find test profiles
      ≡ Some head → head_of head.number profiles ≡ Some head
  found_head [] differ e = absurd cc
  found_head (one ∷ profiles) differ e =
      let step : (b : Bool) → cond b (Some one) (find test profiles) ≡ Some head
      → head_of head.number (one ∷ profiles) ≡ Some head
      = λ b. elim b as (λ b. cond b (Some one) (find test profiles) ≡ Some head
      → head_of head.number (one ∷ profiles) ≡ Some head) [
        | true ↦ λ e.
            let same : one ≡ head = cc in
            rw (eq-eqb one.number head.number (ap (λ (h : ProfileHead). h.number) same)) e
        | false ↦ λ e.
            let other : one.number ≢ head.number = found_each (HasOther one) profiles differ.0 e in
            rw (differ_is one.number head.number other) (found_head profiles differ.1 e)
      ]
      in step (test one) e
