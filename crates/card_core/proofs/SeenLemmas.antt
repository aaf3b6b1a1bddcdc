-- The ports of a card of which one was put, or each was changed.
use Rattle.std.proofs.Common.{◌≡◌, ◌⊎◌, ◌+◌, ◌<◌, ℕ, zero, suc, List, [], ◌∷◌, length, replicate}
use Rattle.std.proofs.Common.{refl, ap}
use Rattle.std.proofs.Common.{◌∙◌, arith, inl, inr}
use Rattle.std.specs.Prelude.{slice_index_or, slice_set}
use Rattle.card_core.specs.IsdrCommand.{at_each}
use Rattle.card_core.specs.PortState.{PortState, fresh_port}

-- at the place where a port is put it stands, or there is no such place
pub put_either : (ports : List PortState) (number : ℕ) (put : PortState)
    → (slice_index_or (slice_set ports number put) number fresh_port ≡ put)
    ⊎ (slice_index_or (slice_set ports number put) number fresh_port ≡ fresh_port)
put_either [] number put = inr refl
put_either (port ∷ ports) zero put = inl refl
put_either (port ∷ ports) (suc number) put = put_either ports number put

-- what is seen alike of the port that is put and of the one that stood there is so of each port
pub seen_alike : {Y : Type 0} (see : PortState → Y) (ports : List PortState) (number other : ℕ)
    (put : PortState) → see put ≡ see (slice_index_or ports number fresh_port)
    → see (slice_index_or (slice_set ports number put) other fresh_port)
    ≡ see (slice_index_or ports other fresh_port)
seen_alike see [] number other put alike = refl
seen_alike see (port ∷ ports) zero zero put alike = alike
seen_alike see (port ∷ ports) zero (suc other) put alike = refl
seen_alike see (port ∷ ports) (suc number) zero put alike = refl
seen_alike see (port ∷ ports) (suc number) (suc other) put alike =
    seen_alike see ports number other put alike

-- a port of a card whose ports each changed
pub each_at : (change : ℕ → PortState → PortState) (first : ℕ) (ports : List PortState)
    (place : ℕ) → place < length ports
    → slice_index_or (at_each change first ports) place fresh_port
    ≡ change (first + place) (slice_index_or ports place fresh_port)
each_at change first [] place below = absurd (omega (arith, below))
each_at change first (port ∷ ports) zero below =
    ap (λ (n : ℕ). change n port) (omega arith)
each_at change first (port ∷ ports) (suc place) below =
    let next : (first + 1) + place ≡ first + suc place = omega arith in
    each_at change (first + 1) ports place (omega (arith, below))
    ∙ ap (λ (n : ℕ). change n (slice_index_or ports place fresh_port)) next

-- or there is no such place
pub each_either : (change : ℕ → PortState → PortState) (first : ℕ) (ports : List PortState)
    (place : ℕ)
    → (slice_index_or (at_each change first ports) place fresh_port
    ≡ change (first + place) (slice_index_or ports place fresh_port))
    ⊎ (slice_index_or (at_each change first ports) place fresh_port ≡ fresh_port)
each_either change first [] place = inr refl
each_either change first (port ∷ ports) zero =
    inl (ap (λ (n : ℕ). change n port) (omega arith))
each_either change first (port ∷ ports) (suc place) =
    let next : (first + 1) + place ≡ first + suc place = omega arith in
    elim (each_either change (first + 1) ports place) [
      | inl is ↦ inl (is
          ∙ ap (λ (n : ℕ). change n (slice_index_or ports place fresh_port)) next)
      | inr none ↦ inr none
    ]

pub fresh_at : (count place : ℕ)
    → slice_index_or (replicate count fresh_port) place fresh_port ≡ fresh_port
fresh_at zero place = refl
fresh_at (suc count) zero = refl
fresh_at (suc count) (suc place) = fresh_at count place
