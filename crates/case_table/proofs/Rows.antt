-- What a table has for a key, row by row.
use Rattle.std.proofs.Common.{◌≡◌, ◌≢◌, ℕ, zero, suc, ◌<◌, Bool, true, false, ◌&&◌, ◌||◌, not, cond}
use Rattle.std.proofs.Common.{eqb, List, [], ◌∷◌, length, get_or, drop, Some, refl, ◌∙◌, arith}
use Rattle.std.specs.List.{list_any}
use Rattle.std.proofs.lemmas.Bool.Decides.{nat_tests}
use Rattle.case_table.specs.CaseRows.{first_value, differ}

-- a row with another key is passed over
pub pass_row : (keys values : List ℕ) (i key : ℕ) → i < length keys → length keys ≡ length values → get_or keys i 0 ≢ key
    → first_value (drop (suc i) keys) (drop (suc i) values) key ≡ first_value (drop i keys) (drop i values) key
pass_row [] values i key l e n = absurd (omega arith)
pass_row (k ∷ ks) [] i key l e n = absurd (omega arith)
pass_row (k ∷ ks) (v ∷ vs) zero key l e n = another k key v n
  where
    another : (k key v : ℕ) → k ≢ key → first_value ks vs key ≡ cond (eqb k key) (Some v) (first_value ks vs key)
    another k key v n = grind (arith, nat_tests)
pass_row (k ∷ ks) (v ∷ vs) (suc i) key l e n = pass_row ks vs i key (omega arith) (omega arith) n

both : (a b : Bool) → (a && b) ≡ true → (a ≡ true) × (b ≡ true)
both true b h = (refl, h)
both false b h = (h, absurd (cc))

-- a key that no other is, is none of them
none_same : (ks : List ℕ) (k i : ℕ) → i < length ks → not (list_any (λ other. eqb other k) ks) ≡ true → get_or ks i 0 ≢ k
none_same [] k i l h = absurd (omega arith)
none_same (x ∷ ks) k zero l h = grind (arith, nat_tests)
none_same (x ∷ ks) k (suc i) l h = none_same ks k i (omega arith) (rest (eqb x k) (list_any (λ other. eqb other k) ks) h)
  where
    rest : (a b : Bool) → not (a || b) ≡ true → not b ≡ true
    rest true b h = absurd (cc)
    rest false b h = h

-- where no key stands twice, each row is the one that its key finds
pub own_row : (keys values : List ℕ) (i : ℕ) → i < length keys → length keys ≡ length values → differ keys ≡ true
    → first_value keys values (get_or keys i 0) ≡ Some (get_or values i 0)
own_row [] values i l e d = absurd (omega arith)
own_row (k ∷ ks) [] i l e d = absurd (omega arith)
own_row (k ∷ ks) (v ∷ vs) zero l e d = same k
  where
    same : (k : ℕ) → cond (eqb k k) (Some v) (first_value ks vs k) ≡ Some v
    same k = grind (arith, nat_tests)
own_row (k ∷ ks) (v ∷ vs) (suc i) l e d =
    let h = both (not (list_any (λ other. eqb other k) ks)) (differ ks) d in
    let n = none_same ks k i (omega arith) h.0 in
    another k (get_or ks i 0) n ∙ own_row ks vs i (omega arith) (omega arith) h.1
  where
    another : (k key : ℕ) → key ≢ k → cond (eqb k key) (Some v) (first_value ks vs key) ≡ first_value ks vs key
    another k key n = grind (arith, nat_tests)

pub none_differ : (keys : List ℕ) → length keys ≡ 0 → differ keys ≡ true
none_differ [] e = refl
none_differ (k ∷ ks) e = absurd (omega arith)
