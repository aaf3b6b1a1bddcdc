-- Profiles that all go, and the ports that they leave.
use Rattle.std.proofs.Common.{◌≡◌, ◌≢◌, ◌≤◌, ◌+◌, ℕ, zero, suc, Bool, true, false, cond}
use Rattle.std.proofs.Common.{nat_eq, List, [], ◌∷◌, filter, Option, Some, None, refl, sym}
use Rattle.std.proofs.Common.{◌∙◌, ap, subst, arith, eq-eqb, eqb-true}
use Rattle.std.specs.List.{AllByRecursion}
use Rattle.std.specs.Prelude.{◌||◌, nat_le, slice_get, option_map}
use Rattle.std.proofs.lemmas.Option.{slice_get-map}
use Rattle.file_rows.proofs.EachLemmas.{each_of_map, each_weaker, two_of_map}
use Rattle.file_rows.proofs.ListLemmas.{any_first, any_later, each_filter, two_filter}
use Rattle.isdr_commands.proofs.FoundLemmas.{HasOther}
use Rattle.isdr_commands.proofs.MoveLemmas.{freed_other}
use Rattle.isdr_commands.specs.Ascending.{ascending, inserted}
use Rattle.isdr_commands.specs.Laws.{IsMoved}
use Rattle.isdr_commands.specs.MemoryReset.{freed_before, freed_from, is_reset, number_leaving}
use Rattle.isdr_commands.specs.MemoryReset.{numbers_reset}
use Rattle.isdr_commands.specs.declared.moves.Move.{Move}
use Rattle.plain_lists.specs.EachTwo.{EachTwo}
use Rattle.port_table.specs.Ports.{freed, unbound}
use Rattle.port_table.specs.declared.ports.Ports.{Ports}
use Rattle.record_codec.specs.Gone.{is_among, unbound_each}
use Rattle.record_codec.specs.Heads.{IsHeld}
use Rattle.record_codec.specs.declared.profile.ProfileHead.{ProfileHead}

abbrev Differ : ℕ → ℕ → Type 0
Differ one other = one ≢ other

-- numbers in ascending order are the same numbers
module _ (Q : ℕ → Type 0) where
  each_inserted : (number : ℕ) (numbers : List ℕ) → Q number → AllByRecursion Q numbers
      → AllByRecursion Q (inserted number numbers)
  each_inserted number [] here each = (here, tt)
  each_inserted number (other ∷ numbers) here each =
      let step : (b : Bool) → AllByRecursion Q
      (cond b (number ∷ other ∷ numbers) (other ∷ inserted number numbers))
      =
      λ b. elim b as
      (λ b. AllByRecursion Q
      (cond b (number ∷ other ∷ numbers) (other ∷ inserted number numbers))) [
        | true ↦ (here, each)
        | false ↦ (each.0, each_inserted number numbers here each.1)
      ]
      in step (nat_le number other)

  pub each_ascending : (numbers : List ℕ) → AllByRecursion Q numbers → AllByRecursion Q
      (ascending numbers)
  each_ascending [] each = tt
  each_ascending (number ∷ numbers) each = each_inserted number (ascending numbers) each.0
      (each_ascending numbers each.1)

two_inserted : (number : ℕ) (numbers : List ℕ) → AllByRecursion (Differ number) numbers
    → EachTwo Differ numbers → EachTwo Differ (inserted number numbers)
two_inserted number [] unlike differ = (tt, tt)
two_inserted number (other ∷ numbers) unlike differ =
    let step : (b : Bool)
    → EachTwo Differ (cond b (number ∷ other ∷ numbers) (other ∷ inserted number numbers))
    =
    λ b. elim b as
    (λ b. EachTwo Differ (cond b (number ∷ other ∷ numbers) (other ∷ inserted number numbers))) [
      | true ↦ (unlike, differ)
      | false ↦ (
        each_inserted (Differ other) number numbers (λ same. unlike.0 (sym same)) differ.0,
        two_inserted number numbers unlike.1 differ.1,
      )
    ]
    in step (nat_le number other)

pub two_ascending : (numbers : List ℕ) → EachTwo Differ numbers → EachTwo Differ (ascending numbers)
two_ascending [] differ = tt
two_ascending (number ∷ numbers) differ =
    two_inserted number (ascending numbers) (each_ascending (Differ number) numbers differ.0)
    (two_ascending numbers differ.1)

-- each profile is held
each_held : (profiles : List ProfileHead) → AllByRecursion (λ head. IsHeld head.number profiles)
    profiles
each_held [] = tt
each_held (head ∷ profiles) = (
  any_first (λ other. other.number ≡ head.number) head profiles refl,
  each_weaker (λ one. IsHeld one.number profiles) (λ one. IsHeld one.number (head ∷ profiles))
      (λ one held. any_later (λ other. other.number ≡ one.number) head profiles held) profiles
      (each_held profiles),
)

module _ (operational test : Bool) (profiles : List ProfileHead) where
  pub reset_held : AllByRecursion (λ number. IsHeld number profiles)
      (ascending (numbers_reset operational test profiles))
  reset_held = each_ascending (λ number. IsHeld number profiles)
      (numbers_reset operational test profiles)
      ((each_of_map (λ (head : ProfileHead). head.number) (λ number. IsHeld number profiles)
      (filter (is_reset operational test) profiles)).0
      (each_filter (λ (head : ProfileHead). IsHeld head.number profiles) (is_reset operational test)
      profiles (each_held profiles)))

  pub reset_differ : EachTwo HasOther profiles
      → EachTwo Differ (ascending (numbers_reset operational test profiles))
  reset_differ differ = two_ascending (numbers_reset operational test profiles)
      ((two_of_map (λ (head : ProfileHead). head.number) Differ (filter (is_reset operational test)
      profiles)).0
      (two_filter HasOther (is_reset operational test) profiles differ))

-- a number that is none of the first and the others
among_neither : (number profile : ℕ) (rest : Bool) → (nat_eq number profile || rest) ≡ false
    → (profile ≢ number) × (rest ≡ false)
among_neither number profile rest e =
    let step : (b : Bool) → nat_eq number profile ≡ b → (b || rest) ≡ false → (profile ≢ number)
    × (rest ≡ false)
    = λ b. elim b as (λ b. nat_eq number profile ≡ b → (b || rest) ≡ false → (profile ≢ number)
    × (rest ≡ false)) [
      | true ↦ λ is e. absurd cc
      | false ↦ λ is e. (
        λ same. let there : nat_eq number profile ≡ true = eq-eqb number profile (sym same) in
            absurd cc,
        e,
      )
    ]
    in step (nat_eq number profile) refl e

-- the places of the ports after these profiles went
pub none_stays : (numbers : List ℕ) (ports : Ports) (port : ℕ) → slice_get ports.on port ≡ None
    → slice_get (unbound_each numbers ports).on port ≡ None
none_stays [] ports port e = e
none_stays (number ∷ numbers) ports port e =
    none_stays numbers (unbound number ports) port
    (slice_get-map (freed number) ports.on port ∙ ap (option_map (freed number)) e)

pub free_stays : (numbers : List ℕ) (ports : Ports) (port : ℕ) → slice_get ports.on port ≡ Some None
    → slice_get (unbound_each numbers ports).on port ≡ Some None
free_stays [] ports port e = e
free_stays (number ∷ numbers) ports port e =
    free_stays numbers (unbound number ports) port
    (slice_get-map (freed number) ports.on port ∙ ap (option_map (freed number)) e)

module _ (profile : ℕ) where
  -- where another profile goes
  passed_over : (number : ℕ) (ports : Ports) (port : ℕ) → profile ≢ number → slice_get ports.on port
      ≡ Some (Some profile)
      → slice_get (unbound number ports).on port ≡ Some (Some profile)
  passed_over number ports port differs e =
      slice_get-map (freed number) ports.on port ∙ ap (option_map (freed number)) e
      ∙ freed_other number (Some (Some profile))
      (λ same. differs (let is : profile ≡ number = cc in is))

  pub other_stays : (numbers : List ℕ) (ports : Ports) (port : ℕ) → is_among numbers profile ≡ false
      → slice_get ports.on port ≡ Some (Some profile)
      → slice_get (unbound_each numbers ports).on port ≡ Some (Some profile)
  other_stays [] ports port none e = e
  other_stays (number ∷ numbers) ports port none e =
      let neither = among_neither number profile (is_among numbers profile) none in
      other_stays numbers (unbound number ports) port neither.1
      (passed_over number ports port neither.0 e)

  pub one_leaves : (numbers : List ℕ) (ports : Ports) (port : ℕ) → is_among numbers profile ≡ true
      → slice_get ports.on port ≡ Some (Some profile)
      → slice_get (unbound_each numbers ports).on port ≡ Some None
  one_leaves [] ports port among e = absurd cc
  one_leaves (number ∷ numbers) ports port among e =
      let step : (b : Bool) → nat_eq number profile ≡ b → (b || is_among numbers profile) ≡ true
      → slice_get (unbound_each numbers (unbound number ports)).on port ≡ Some None
      = λ b. elim b as (λ b. nat_eq number profile ≡ b → (b || is_among numbers profile) ≡ true
      → slice_get (unbound_each numbers (unbound number ports)).on port ≡ Some None) [
        | true ↦ λ is among.
            free_stays numbers (unbound number ports) port
            (slice_get-map (freed number) ports.on port ∙ ap (option_map (freed number)) e
            ∙ ap (λ (b : Bool). Some (cond b None (Some profile)))
            (eq-eqb profile number (sym (eqb-true number profile is))))
        | false ↦ λ is among.
            one_leaves numbers (unbound number ports) port among
            (passed_over number ports port
            (λ same. let there : nat_eq number profile ≡ true = eq-eqb number profile (sym same) in
            absurd cc) e)
      ]
      in step (nat_eq number profile) refl among

-- a place whose profile leaves
leaving_is : (numbers : List ℕ) (place : Option ℕ) (profile : ℕ) → number_leaving numbers place
    ≡ Some profile → (place ≡ Some profile) × (is_among numbers profile ≡ true)
leaving_is numbers None profile e = absurd cc
leaving_is numbers (Some one) profile e =
    let step : (b : Bool) → is_among numbers one ≡ b → cond b (Some one) None ≡ Some profile
    → (Some one ≡ Some profile) × (is_among numbers profile ≡ true)
    = λ b. elim b as (λ b. is_among numbers one ≡ b → cond b (Some one) None ≡ Some profile
    → (Some one ≡ Some profile) × (is_among numbers profile ≡ true)) [
      | true ↦ λ is e. let same : one ≡ profile = cc in
          (e, subst (λ (n : ℕ). is_among numbers n ≡ true) same is)
      | false ↦ λ is e. absurd cc
    ]
    in step (is_among numbers one) refl e

-- a place whose profile doesn't
pub staying_is : (numbers : List ℕ) (profile : ℕ) → number_leaving numbers (Some profile) ≡ None
    → is_among numbers profile ≡ false
staying_is numbers profile e =
    let step : (b : Bool) → is_among numbers profile ≡ b → cond b (Some profile) None ≡ None
    → is_among numbers profile ≡ false
    = λ b. elim b as (λ b. is_among numbers profile ≡ b → cond b (Some profile) None ≡ None
    → is_among numbers profile ≡ false) [
      | true ↦ λ is e. absurd cc
      | false ↦ λ is e. is
    ]
    in step (is_among numbers profile) refl e

module _ (numbers : List ℕ) where
  -- the moves come from this port on
  ports_before : (port : ℕ) (left : Option ℕ) (moves : List Move)
      → AllByRecursion (λ move. port + 1 ≤ move.port) moves
      → AllByRecursion (λ move. port ≤ move.port) (freed_before port left moves)
  ports_before port None moves each = each_weaker (λ move. port + 1 ≤ move.port)
      (λ move. port ≤ move.port) (λ move later. omega (arith, later)) moves each
  ports_before port (Some profile) moves each = (
    omega arith,
    each_weaker (λ move. port + 1 ≤ move.port) (λ move. port ≤ move.port)
        (λ move later. omega (arith, later)) moves each,
  )

  ports_from : (port : ℕ) (places : List (Option ℕ)) → AllByRecursion (λ move. port ≤ move.port)
      (freed_from port numbers places)
  ports_from port [] = tt
  ports_from port (place ∷ places) = ports_before port (number_leaving numbers place)
      (freed_from (port + 1) numbers places) (ports_from (port + 1) places)

  -- each port once
  once_before : (port : ℕ) (left : Option ℕ) (moves : List Move)
      → AllByRecursion (λ move. port + 1 ≤ move.port) moves
      → EachTwo (λ one other. one.port ≢ other.port) moves
      → EachTwo (λ one other. one.port ≢ other.port) (freed_before port left moves)
  once_before port None moves each once = once
  once_before port (Some profile) moves each once = (
    each_weaker (λ move. port + 1 ≤ move.port) (λ move. port ≢ move.port)
        (λ move later same. absurd (omega (arith, later, same))) moves each,
    once,
  )

  pub moves_once : (port : ℕ) (places : List (Option ℕ))
      → EachTwo (λ one other. one.port ≢ other.port) (freed_from port numbers places)
  moves_once port [] = tt
  moves_once port (place ∷ places) =
      once_before port (number_leaving numbers place) (freed_from (port + 1) numbers places)
      (ports_from (port + 1) places) (moves_once (port + 1) places)

  module _ (before after : Ports)
      (leaves : (port profile : ℕ) → slice_get before.on port ≡ Some (Some profile)
      → is_among numbers profile ≡ true → slice_get after.on port ≡ Some None) where
    moved_before : (port : ℕ) (left : Option ℕ) (moves : List Move)
        → ((profile : ℕ) → left ≡ Some profile → (slice_get before.on port ≡ Some (Some profile))
        × (is_among numbers profile ≡ true))
        → AllByRecursion (IsMoved before after) moves → AllByRecursion (IsMoved before after)
        (freed_before port left moves)
    moved_before port None moves there each = each
    moved_before port (Some profile) moves there each =
        let at = there profile refl in
        (record { left = at.0; came = leaves port profile at.0 at.1; changes = λ same. cc }, each)

    pub moves_each : (port : ℕ) (places : List (Option ℕ))
        → ((k : ℕ) → slice_get places k ≡ slice_get before.on (port + k))
        → AllByRecursion (IsMoved before after) (freed_from port numbers places)
    moves_each port [] at = tt
    moves_each port (place ∷ places) at =
        let zero_on : port + 0 ≡ port = omega arith in
        let here : Some place ≡ slice_get before.on port =
        at 0 ∙ ap (slice_get before.on) zero_on in
        moved_before port (number_leaving numbers place) (freed_from (port + 1) numbers places)
        (λ profile left.
        let is = leaving_is numbers place profile left in
        (sym here ∙ ap (λ (o : Option ℕ). Some o) is.0, is.1))
        (moves_each (port + 1) places (λ k. let on : port + suc k ≡ (port + 1) + k = omega arith in
        at (suc k) ∙ ap (slice_get before.on) on))

  -- a port that isn't among the moves keeps its profile
  stays_before : (port k : ℕ) (left : Option ℕ) (moves : List Move)
      → AllByRecursion (λ move. move.port ≢ k) (freed_before port left moves)
      → AllByRecursion (λ move. move.port ≢ k) moves × (port ≡ k → left ≡ None)
  stays_before port k None moves each = (each, λ same. refl)
  stays_before port k (Some profile) moves each = (each.1, λ same. absurd (each.0 same))

  pub others_stay : (port k : ℕ) (places : List (Option ℕ)) (place : Option ℕ)
      → AllByRecursion (λ move. move.port ≢ port + k) (freed_from port numbers places)
      → slice_get places k ≡ Some place → number_leaving numbers place ≡ None
  others_stay port k [] place each e = absurd cc
  others_stay port zero (first ∷ places) place each e =
      let same : first ≡ place = cc in
      let none =
      (stays_before port (port + 0) (number_leaving numbers first)
      (freed_from (port + 1) numbers places) each).1 (omega arith) in
      subst (λ (o : Option ℕ). number_leaving numbers o ≡ None) same none
  others_stay port (suc k) (first ∷ places) place each e =
      let on : port + suc k ≡ (port + 1) + k = omega arith in
      let rest =
      (stays_before port (port + suc k) (number_leaving numbers first)
      (freed_from (port + 1) numbers places) each).0 in
      others_stay (port + 1) k places place
      (subst (λ (n : ℕ). AllByRecursion (λ move. move.port ≢ n)
      (freed_from (port + 1) numbers places)) on rest) e
