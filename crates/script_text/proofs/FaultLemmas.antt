-- A text is a script or has a first fault, never both, and has one of them.
use Rattle.std.proofs.Common.{◌≡◌, ℕ, ◌+◌, ◌<◌, ◌≤◌, ◌⊎◌, List, [], ◌∷◌, ◌++◌, length, Result, Ok}
use Rattle.std.proofs.Common.{Err, refl, sym, ap, ◌∙◌, subst, arith, inl, inr, append_assoc}
use Rattle.std.specs.Prelude.{IfOk}
use Rattle.std.specs.Str.Lines.{lines}
use Rattle.std.proofs.lemmas.Bool.{cases_order}
use Rattle.card_core.specs.declared.script.Script.{Script}
use Rattle.script_text.specs.Line.{IsFaulty, Says}
use Rattle.script_text.specs.Readings.{IsReadAs, IsTextReading}
use Rattle.script_text.specs.Script.{HasFewStatements, HasFirstFault, HaveItems, IsScript}
use Rattle.script_text.specs.Script.{ReadsUpTo, script_of}
use Rattle.script_text.specs.Words.{words}
use Rattle.script_text.specs.declared.fault.ScriptFault.{ScriptFault}
use Rattle.script_text.specs.declared.fault.ScriptFault.TheVariants.{Bad, NoMemory}
use Rattle.script_text.specs.declared.fault.ScriptKind.{ScriptKind}
use Rattle.script_text.specs.declared.fault.ScriptKind.TheVariants.{Grammar, TooMany, TooLong}
use Rattle.script_text.specs.Item.{Item}
use Rattle.script_text.specs.declared.line_set.LineSet.{LineSet}
use Rattle.script_text.proofs.FewLemmas.{few_prefix}
use Rattle.script_text.proofs.ItemLemmas.{Says-same, passed_or_said}
use Rattle.script_text.proofs.ReadLemmas.{HaveItems-parts, HaveItems-same}

-- a text is one script
pub IsScript-same : (set : LineSet) (text : List ℕ) (a b : Script) → IsScript set text a → IsScript set text b → a ≡ b
IsScript-same set text a b s t = s.cut ∙ ap script_of (HaveItems-same set 1 (lines text) s.items t.items s.read t.read) ∙ sym t.cut

-- the line is at fault behind these items
abbrev IsAtFault : LineSet → ℕ → List Item → List ℕ → Type 0
IsAtFault set number items line =
    IsFaulty set number (words line)
    ⊎ ((item : Item) × Says set number (words line) item × ¬ HasFewStatements (script_of (items ++ item ∷ [])))

-- no lines with a line at fault among them are free of faults
faultless : (set : LineSet) (number : ℕ) (before after : List (List ℕ)) (line : List ℕ) (items all : List Item) → HaveItems set 1 before items
    → number ≡ length before + 1 → IsAtFault set number items line
    → HaveItems set 1 (before ++ line ∷ after) all → HasFewStatements (script_of all) → ⊥
faultless set number before after line items all read counted fault whole few =
    let p = HaveItems-parts set 1 before (line ∷ after) all whole in
    let first : p.first ≡ items = HaveItems-same set 1 before p.first items p.of_first read in
    let place : 1 + length before ≡ number = omega arith in
    let second : HaveItems set number (line ∷ after) p.second =
    subst (λ (n : ℕ). HaveItems set n (line ∷ after) p.second) place p.of_second in
    elim fault [
      | inl faulty ↦
          elim second [
            | inl passed ↦ faulty.0 passed.0
            | inr said ↦ faulty.1 said.0 said.2
          ]
      | inr full ↦
          elim second [
            | inl passed ↦ passed_or_said set number (words line) full.0 passed.0 full.1
            | inr said ↦
                let item : said.0 ≡ full.0 = Says-same set number (words line) said.0 full.0 said.2 full.1 in
                let parts : all ≡ (items ++ full.0 ∷ []) ++ said.1 =
                p.whole ∙ ap (λ (is : List Item). is ++ p.second) first ∙ ap (λ (is : List Item). items ++ is) said.3
                ∙ ap (λ (i : Item). items ++ i ∷ said.1) item ∙ sym (append_assoc items (full.0 ∷ []) said.1) in
                full.2 (few_prefix (items ++ full.0 ∷ []) said.1 (subst (λ (is : List Item). HasFewStatements (script_of is)) parts few))
          ]
    ]

-- the line of a fault, and what stands before it
record Fault (set : LineSet) (text : List ℕ) (number : ℕ) : Type 0 where
  items : List Item
  line : List ℕ
  place : ReadsUpTo set text number items line
  at_fault : IsAtFault set number items line

fault_of : (set : LineSet) (text : List ℕ) (number : ℕ) (kind : ScriptKind) → length text ≤ 8388608 → HasFirstFault set text number kind → Fault set text number
fault_of set text number Grammar short h = record { items = h.0; line = h.1; place = h.2; at_fault = inl h.3 }
fault_of set text number TooMany short h = record { items = h.0; line = h.1; place = h.3; at_fault = inr (h.2, h.4, h.5) }
fault_of set text number TooLong short h = absurd (omega (arith, h.0))

-- no script has a fault
no_fault : (set : LineSet) (text : List ℕ) (script : Script) (number : ℕ) → IsScript set text script → Fault set text number → ⊥
no_fault set text script number read fault =
    let place = fault.place in
    faultless set number place.before place.after fault.line fault.items read.items place.read place.counted fault.at_fault
    (subst (λ (ls : List (List ℕ)). HaveItems set 1 ls read.items) place.parts read.read)
    (subst HasFewStatements read.cut read.few)

pub not_both-fault : (set : LineSet) (text : List ℕ) (script : Script) (number : ℕ) (kind : ScriptKind)
    → IsScript set text script → HasFirstFault set text number kind → ⊥
not_both-fault set text script number kind read fault =
    no_fault set text script number read (fault_of set text number kind read.short fault)

-- ---- a list that is cut twice at an element

longer_prefix : {A : Type 0} (xs ys more others : List A) (x y : A) → xs ++ x ∷ more ≡ ys ++ y ∷ others → length xs < length ys
    → (between : List A) × (ys ≡ xs ++ x ∷ between)
longer_prefix [] [] more others x y e lt = absurd (omega arith)
longer_prefix [] (b ∷ ys) more others x y e lt = (ys, cc e)
longer_prefix (a ∷ xs) [] more others x y e lt = absurd (omega arith)
longer_prefix (a ∷ xs) (b ∷ ys) more others x y e lt =
    let rest : xs ++ x ∷ more ≡ ys ++ y ∷ others = cc e in
    let p = longer_prefix xs ys more others x y rest (omega arith) in
    let head : a ≡ b = cc e in
    let tail : ys ≡ xs ++ x ∷ p.0 = p.1 in
    (p.0, cc)

level_prefix : {A : Type 0} (xs ys more others : List A) (x y : A) → xs ++ x ∷ more ≡ ys ++ y ∷ others → length xs ≡ length ys
    → (xs ≡ ys) × (x ≡ y)
level_prefix [] [] more others x y e same = (refl, cc e)
level_prefix [] (b ∷ ys) more others x y e same = absurd (omega arith)
level_prefix (a ∷ xs) [] more others x y e same = absurd (omega arith)
level_prefix (a ∷ xs) (b ∷ ys) more others x y e same =
    let rest : xs ++ x ∷ more ≡ ys ++ y ∷ others = cc e in
    let p = level_prefix xs ys more others x y rest (omega arith) in
    let head : a ≡ b = cc e in
    let tail : xs ≡ ys = p.0 in
    (cc, p.1)

-- no fault comes before another
not_before : (set : LineSet) (text : List ℕ) (number other : ℕ) (a : Fault set text number) (b : Fault set text other)
    → length a.place.before < length b.place.before → ⊥
not_before set text number other a b low =
    let p = a.place in
    let q = b.place in
    let between = longer_prefix p.before q.before p.after q.after a.line b.line (sym p.parts ∙ q.parts) low in
    faultless set number p.before between.0 a.line a.items b.items p.read p.counted a.at_fault
    (subst (λ (ls : List (List ℕ)). HaveItems set 1 ls b.items) between.1 q.read) q.few

-- two faults stand on the same line
same_place : (set : LineSet) (text : List ℕ) (number other : ℕ) (a : Fault set text number) (b : Fault set text other) → (number ≡ other) × (a.line ≡ b.line)
same_place set text number other a b =
    let p = a.place in
    let q = b.place in
    let here = p.counted in
    let there = q.counted in
    elim (cases_order (length p.before) (length q.before)) [
      | inl level ↦
          let same = level_prefix p.before q.before p.after q.after a.line b.line (sym p.parts ∙ q.parts) level in
          (omega arith, same.1)
      | inr apart ↦
          elim apart [
            | inl low ↦ absurd (not_before set text number other a b low)
            | inr high ↦ absurd (not_before set text other number b a high)
          ]
    ]

-- a fault of one kind is none of another on the same line
grammar_many : (set : LineSet) (number other : ℕ) (a b : List ℕ) (item : Item) → IsFaulty set number (words a) → Says set other (words b) item
    → number ≡ other → a ≡ b → ⊥
grammar_many set number other a b item faulty says place same =
    let here : Says set number (words a) item =
    subst (λ (n : ℕ). Says set n (words a) item) (sym place) (subst (λ (l : List ℕ). Says set other (words l) item) (sym same) says) in
    faulty.1 item here

-- a text has one first fault
pub HasFirstFault-same : (set : LineSet) (text : List ℕ) (number other : ℕ) (kind another : ScriptKind)
    → HasFirstFault set text number kind → HasFirstFault set text other another → (number ≡ other) × (kind ≡ another)
unfolding fault_of
HasFirstFault-same set text number other TooLong TooLong h k = (h.1 ∙ sym k.1, refl)
HasFirstFault-same set text number other TooLong Grammar h k = absurd (omega (arith, h.0, k.2.short))
HasFirstFault-same set text number other TooLong TooMany h k = absurd (omega (arith, h.0, k.3.short))
HasFirstFault-same set text number other Grammar TooLong h k = absurd (omega (arith, k.0, h.2.short))
HasFirstFault-same set text number other TooMany TooLong h k = absurd (omega (arith, k.0, h.3.short))
HasFirstFault-same set text number other Grammar Grammar h k =
    ((same_place set text number other (fault_of set text number Grammar h.2.short h) (fault_of set text other Grammar k.2.short k)).0, refl)
HasFirstFault-same set text number other TooMany TooMany h k =
    ((same_place set text number other (fault_of set text number TooMany h.3.short h) (fault_of set text other TooMany k.3.short k)).0, refl)
HasFirstFault-same set text number other Grammar TooMany h k =
    let same = same_place set text number other (fault_of set text number Grammar h.2.short h) (fault_of set text other TooMany k.3.short k) in
    absurd (grammar_many set number other h.1 k.1 k.2 h.3 k.4 same.0 same.1)
HasFirstFault-same set text number other TooMany Grammar h k =
    let same = same_place set text other number (fault_of set text other Grammar k.2.short k) (fault_of set text number TooMany h.3.short h) in
    absurd (grammar_many set other number k.1 h.1 h.2 k.3 h.4 same.0 same.1)

-- ---- what a right answer says

pub script-from_reads : (set : LineSet) (text : List ℕ) (r : Result (List Item) ScriptFault) → IsTextReading set text r → IfOk r (λ items. IsScript set text (script_of items))
script-from_reads set text (Ok items) h = h
script-from_reads set text (Err e) h = tt

pub fault-from_reads : (set : LineSet) (text : List ℕ) (r : Result (List Item) ScriptFault) → IsTextReading set text r
    → (number : ℕ) (kind : ScriptKind) → r ≡ Err (Bad number kind) → HasFirstFault set text number kind
fault-from_reads set text r h number kind is =
    let P : Result (List Item) ScriptFault → Type 0 = λ x. IsTextReading set text x in subst P is h

pub read-from_reads : (set : LineSet) (text : List ℕ) (r : Result (List Item) ScriptFault) → IsTextReading set text r
    → (script : Script) → IsScript set text script → IsReadAs script r
read-from_reads set text (Ok found) h script read = IsScript-same set text (script_of found) script h read
read-from_reads set text (Err (Bad number kind)) h script read = absurd (not_both-fault set text script number kind read h)
read-from_reads set text (Err NoMemory) h script read = tt

pub refused-from_reads : (set : LineSet) (text : List ℕ) (r : Result (List Item) ScriptFault) → IsTextReading set text r
    → (number : ℕ) (kind : ScriptKind) → HasFirstFault set text number kind → (r ≡ Err (Bad number kind)) ⊎ (r ≡ Err NoMemory)
refused-from_reads set text (Ok found) h number kind fault = absurd (not_both-fault set text (script_of found) number kind h fault)
refused-from_reads set text (Err (Bad other another)) h number kind fault =
    let same = HasFirstFault-same set text other number another kind h fault in
    inl (ap (λ (n : ℕ). Err (Bad n another)) same.0 ∙ ap (λ (k : ScriptKind). Err (Bad number k)) same.1)
refused-from_reads set text (Err NoMemory) h number kind fault = inr refl
