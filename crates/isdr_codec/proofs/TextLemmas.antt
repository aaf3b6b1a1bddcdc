-- UTF-8.
use Rattle.std.proofs.Common.{◌≡◌, ℕ, Bool, true, false, List, Result, Ok, Err, refl, sym}
use Rattle.std.specs.Prelude.{MatchResult, is_ok}
use Rattle.std.specs.Str.{IsUtf8, is_utf8}
use Rattle.std.proofs.lemmas.Str.{IsUtf8-from_is_utf8, is_utf8-from_IsUtf8}

module _ {S E : Type 0} (A : S → Type 0) (B : E → Type 0) (bytes : List ℕ) where
  no_text : (b : Bool) → is_utf8 bytes ≡ b → (IsUtf8 bytes → ⊥) → false ≡ b
  no_text true is none = absurd (none (IsUtf8-from_is_utf8 bytes is))
  no_text false is none = refl

  pub by_reading : (r : Result S E) → MatchResult r (λ s. A s × IsUtf8 bytes)
      (λ e. (IsUtf8 bytes → ⊥) × B e) → is_ok r ≡ is_utf8 bytes
  by_reading (Ok s) is = sym (is_utf8-from_IsUtf8 bytes is.1)
  by_reading (Err e) is = no_text (is_utf8 bytes) refl is.0
