-- What the first words of a line say of its statement.
use Rattle.std.proofs.Common.{◌≡◌, ℕ, false, List, ◌∷◌, codes, refl, subst}
use Rattle.std.specs.Str.{bytes_eq}
use Rattle.std.proofs.lemmas.Bool.{both_ways}
use Rattle.std.proofs.lemmas.Slice.Eq.{bytes_eq-Decides}
use Rattle.card_core.specs.declared.event.Event.{Event}
use Rattle.card_core.specs.declared.event.Event.TheVariants.{Apdu, Reset, Load, Power}
use Rattle.card_core.specs.declared.event.LoadStep.{LoadStep}
use Rattle.card_core.specs.declared.event.LoadStep.TheVariants.{Begin, Piece, End}
use Rattle.script_text.specs.Statement.{IsHex, IsStatement, IsStep}

-- words that begin differently
pub other_first : (one other : List ℕ) (more others : List (List ℕ)) → bytes_eq one other ≡ false
    → one ∷ more ≡ other ∷ others → ⊥
other_first one other more others differ same =
    let first : one ≡ other = cc in
    both_ways (bytes_eq one other) differ ((bytes_eq-Decides one other).1 first)

-- no statement where `port N:` is followed by no HEX
pub no_port_line : (number : List ℕ) (hex : List (List ℕ)) → ((bytes : List ℕ) → ¬ IsHex 1024 hex bytes)
    → (event : Event) → ¬ IsStatement (codes "port" ∷ number ∷ hex) event
no_port_line number hex none (Apdu port apdu) h =
    let same : h.hex ≡ hex = cc (h.words) in
    none apdu (subst (λ (its : List (List ℕ)). IsHex 1024 its apdu) same h.bytes)
no_port_line number hex none (Reset port) h = other_first (codes "port") (codes "reset") _ _ refl h.words
no_port_line number hex none (Load port step) h = other_first (codes "port") (codes "load") _ _ refl h.words
no_port_line number hex none Power h = h

-- no step where `begin` is followed by no HEX
pub no_begin : (hex : List (List ℕ)) → ((bytes : List ℕ) → ¬ IsHex 4096 hex bytes)
    → (step : LoadStep) → ¬ IsStep (codes "begin" ∷ hex) step
no_begin hex none (Begin metadata) h =
    let same : h.0 ≡ hex = cc (h.1) in
    none metadata (subst (λ (its : List (List ℕ)). IsHex 4096 its metadata) same h.2)
no_begin hex none (Piece bytes) h = other_first (codes "begin") (codes "piece") _ _ refl h.1
no_begin hex none End h = other_first (codes "begin") (codes "end") _ _ refl h

-- no step where `piece` is followed by no HEX
pub no_piece : (hex : List (List ℕ)) → ((bytes : List ℕ) → ¬ IsHex 1048576 hex bytes)
    → (step : LoadStep) → ¬ IsStep (codes "piece" ∷ hex) step
no_piece hex none (Begin metadata) h = other_first (codes "piece") (codes "begin") _ _ refl h.1
no_piece hex none (Piece bytes) h =
    let same : h.0 ≡ hex = cc (h.1) in
    none bytes (subst (λ (its : List (List ℕ)). IsHex 1048576 its bytes) same h.2)
no_piece hex none End h = other_first (codes "piece") (codes "end") _ _ refl h
