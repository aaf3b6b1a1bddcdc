use Rattle.std.proofs.Common.{◌≡◌, ℕ, ◌<◌, ◌⊎◌, inl, inr, List, ◌++◌, length, Option, Some, None}
use Rattle.std.proofs.Common.{sym, ◌∙◌, ap, subst}
use Rattle.std.proofs.lemmas.List.{append-nil}
use Rattle.std.specs.Io.KnownBytes.{Consumes, IsAtEnd}
use Rattle.std.specs.Prelude.{IfSome}
use Rattle.script_text.specs.Script.{HasFirstFault}
use Rattle.script_text.specs.declared.fault.ScriptKind.{ScriptKind}
use Rattle.script_text.specs.declared.line_set.LineSet.TheVariants.{PortOne}
use Rattle.script_text.proofs.LongLemmas.{HasFirstFault-longer}

-- the bytes read are the whole text, or more of it than a script may have
pub IsEnoughOf : List ℕ → List ℕ → Type 0
IsEnoughOf bytes text = (text ≡ bytes) ⊎ ((8388608 < length bytes) × ((rest : List ℕ) × (text ≡ bytes ++ rest)))

pub enough : (left rest : Option (List ℕ)) (bytes : List ℕ) → Consumes left rest bytes → (8388608 < length bytes) ⊎ IsAtEnd rest → IfSome left (λ text. IsEnoughOf bytes text)
unfolding IsEnoughOf
enough None rest bytes taken how = tt
enough (Some text) None bytes taken how = absurd taken
enough (Some text) (Some rest) bytes taken (inl long) = inr (long, (rest, taken))
enough (Some text) (Some rest) bytes taken (inr over) = inl (taken ∙ (ap (λ (rest : List ℕ). bytes ++ rest) over ∙ append-nil bytes))

pub fault_of : (bytes text : List ℕ) (line : ℕ) (kind : ScriptKind) → IsEnoughOf bytes text → HasFirstFault PortOne bytes line kind → HasFirstFault PortOne text line kind
unfolding IsEnoughOf
fault_of bytes text line kind (inl same) fault = subst (λ (bytes : List ℕ). HasFirstFault PortOne bytes line kind) (sym same) fault
fault_of bytes text line kind (inr more) fault =
    subst (λ (text : List ℕ). HasFirstFault PortOne text line kind) (sym more.1.1) (HasFirstFault-longer PortOne bytes more.1.0 line kind more.0 fault)

-- what holds of a text that the source reports follows from what holds of the bytes read
pub IfSome-follows : (P Q : List ℕ → Type 0) (left : Option (List ℕ)) → ((text : List ℕ) → P text → Q text) → IfSome left P → IfSome left Q
IfSome-follows P Q None f h = tt
IfSome-follows P Q (Some text) f h = f text h

-- from what is enough of the text
pub from_enough : (Q : List ℕ → Type 0) (left rest : Option (List ℕ)) (bytes : List ℕ) → Consumes left rest bytes → (8388608 < length bytes) ⊎ IsAtEnd rest → ((text : List ℕ) → IsEnoughOf bytes text → Q text) → IfSome left Q
from_enough Q left rest bytes taken how f = IfSome-follows (IsEnoughOf bytes) Q left f (enough left rest bytes taken how)
