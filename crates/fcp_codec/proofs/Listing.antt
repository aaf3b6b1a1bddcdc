-- The PIN status template, one status after another.
use Rattle.std.proofs.Common.{◌≡◌, ℕ, zero, suc, ◌+◌, ◌<◌, ◌≤◌, List, [], ◌∷◌, ◌++◌, length, get_or}
use Rattle.std.proofs.Common.{drop, map, Option, Some, None, refl, sym, ◌∙◌, ap, arith, add-one}
use Rattle.std.proofs.Common.{append_assoc, append-nil, length-append}
use Rattle.std.specs.List.{filter_map, cons_option}
use Rattle.ber_tlv.specs.Tlv.{shortest}
use Rattle.ber_tlv.specs.Walk.{spelled}
use Rattle.fcp_codec.specs.declared.pin_status.PinStatus.{PinStatus}
use Rattle.fcp_codec.specs.declared.tags.TheConstants.{PIN_STATUS, ENABLED}
use Rattle.fcp_codec.specs.PinStatus.{template_of, status_objects, key_object, status_bytes}

-- what the key at a place gives, and then what those behind it give
at_key : (f : ℕ → Option PinStatus) (keys : List ℕ) (i : ℕ) → i < length keys → filter_map f (drop i keys) ≡ cons_option (f (get_or keys i 0)) (filter_map f (drop (suc i) keys))
at_key f [] i l = absurd (omega arith)
at_key f (k ∷ keys) zero l = refl
at_key f (k ∷ keys) (suc i) l = at_key f keys i (omega arith)

with_option : (before after rest : List PinStatus) (o : Option PinStatus) (x : PinStatus) → o ≡ Some x → after ≡ before ++ x ∷ [] → after ++ rest ≡ before ++ cons_option o rest
with_option before after rest o x e a = ap (λ s. s ++ rest) a ∙ append_assoc before (x ∷ []) rest ∙ ap (λ p. before ++ cons_option p rest) (sym e)

pub one_status : (f : ℕ → Option PinStatus) (keys : List ℕ) (i : ℕ) (before after : List PinStatus) (x : PinStatus) → i < length keys → f (get_or keys i 0) ≡ Some x → after ≡ before ++ x ∷ []
    → after ++ filter_map f (drop (i + 1) keys) ≡ before ++ filter_map f (drop i keys)
one_status f keys i before after x l e a =
    rw add-one (with_option before after (filter_map f (drop (suc i) keys)) (f (get_or keys i 0)) x e a ∙ ap (λ s. before ++ s) (sym (at_key f keys i l)))

pub no_status : (f : ℕ → Option PinStatus) (keys : List ℕ) (i : ℕ) (before after : List PinStatus) → i < length keys → f (get_or keys i 0) ≡ None → after ≡ before
    → after ++ filter_map f (drop (i + 1) keys) ≡ before ++ filter_map f (drop i keys)
no_status f keys i before after l e a =
    rw add-one (ap (λ s. s ++ filter_map f (drop (suc i) keys)) a ∙ ap (λ o. before ++ cons_option o (filter_map f (drop (suc i) keys))) (sym e) ∙ ap (λ s. before ++ s) (sym (at_key f keys i l)))

-- the field of at least one status
pub some_statuses : (fields new template : List ℕ) (statuses : List PinStatus) → 0 < length statuses → template ≡ spelled (template_of statuses) → new ≡ fields ++ shortest PIN_STATUS template → new ≡ fields ++ spelled (status_objects statuses)
some_statuses fields new template [] l e n = absurd (omega arith)
some_statuses fields new template (s ∷ statuses) l e n =
    n ∙ ap (λ t. fields ++ shortest PIN_STATUS t) e ∙ ap (λ t. fields ++ t) (sym (append-nil (shortest PIN_STATUS (spelled (template_of (s ∷ statuses))))))

-- a list with one more is one longer
pub one_longer : (before after : List PinStatus) (x : PinStatus) (i : ℕ) → after ≡ before ++ x ∷ [] → length before ≤ i → length after ≤ i + 1
one_longer before after x i e l =
    let n : length after ≡ length before + 1 = ap length e ∙ length-append before (x ∷ []) in
    omega arith

-- the template is its bits and its keys
pub whole_template : (template bits : List ℕ) (statuses : List PinStatus) → template ≡ bits ++ spelled (map key_object statuses) → bits ≡ shortest ENABLED (status_bytes statuses) → template ≡ spelled (template_of statuses)
whole_template template bits statuses e b = e ∙ ap (λ s. s ++ spelled (map key_object statuses)) b
