-- The statements of a section that goes on are counted on.
use Rattle.std.proofs.Common.{◌≡◌, ◌≢◌, ℕ, ◌+◌, ◌<◌, true, false, cond, List, [], ◌∷◌, ◌++◌, length}
use Rattle.std.proofs.Common.{Some, refl, sym, ap, ◌∙◌, arith, inl, inr, add-zero}
use Rattle.std.specs.Prelude.{slice_index, slice_index_or, slice_set, count_by}
use Rattle.std.proofs.lemmas.Bool.{cases_eq, eq-eqb, eqb-true, ne_eqb, cond-true, cond-false}
use Rattle.std.proofs.lemmas.List.{get_or-set_same, get_or-set_other}
use Rattle.std.proofs.lemmas.List.Sums.{sum_by_push}
use Rattle.card_core.specs.declared.script.Phase.{Phase}
use Rattle.card_core.specs.declared.script.Section.{Section}
use Rattle.card_core.specs.declared.script.Statement.{Statement}
use Rattle.script_text.specs.Script.{count_at, is_at, event_port}

-- a section of these phases and one more of these statements
abbrev pub section_with : List Phase → List Statement → Section
section_with phases statements = record { phases = phases ++ record { statements = statements } ∷ [] }

-- its statements are those of its phases
pub count_at-phases : (port : ℕ) (phases : List Phase) (statements : List Statement)
    → count_at port (section_with phases statements)
    ≡ count_at port (record { phases = phases }) + count_by (is_at port) statements
count_at-phases port phases statements =
    sum_by_push (λ (phase : Phase). count_by (is_at port) phase.statements) phases (record { statements = statements })

-- one statement more
pub count_at-push : (port : ℕ) (phases : List Phase) (statements : List Statement) (statement : Statement)
    → count_at port (section_with phases (statements ++ statement ∷ []))
    ≡ count_at port (section_with phases statements) + cond (is_at port statement) 1 0
count_at-push port phases statements statement =
    let before = count_at-phases port phases statements in
    let after = count_at-phases port phases (statements ++ statement ∷ []) in
    let more : count_by (is_at port) (statements ++ statement ∷ []) ≡ count_by (is_at port) statements + cond (is_at port statement) 1 0 =
    sum_by_push (λ (s : Statement). cond (is_at port s) 1 0) statements statement in
    omega (arith, before, after, more)

-- a statement is at its port
pub is_at-port : (statement : Statement) (port : ℕ) → event_port statement.event ≡ Some port → is_at port statement ≡ true
is_at-port statement port at = rw at (eq-eqb port port refl)

-- and its port is the one that it is at
pub same_port : (statement : Statement) (port other : ℕ) → event_port statement.event ≡ Some port → is_at other statement ≡ true → port ≡ other
same_port statement port other at is = eqb-true port other (rw at at is)

-- and at no other
pub is_at-other : (statement : Statement) (port other : ℕ) → event_port statement.event ≡ Some port → port ≢ other → is_at other statement ≡ false
is_at-other statement port other at apart = rw at (ne_eqb port other apart)

pub one_at : (port : ℕ) (statement : Statement) → is_at port statement ≡ true → ◌≡◌ {A = ℕ} (cond (is_at port statement) 1 0) 1
one_at port statement is = cond-true (is_at port statement) 1 0 is

pub none_at : (port : ℕ) (statement : Statement) → is_at port statement ≡ false → ◌≡◌ {A = ℕ} (cond (is_at port statement) 1 0) 0
none_at port statement fails = cond-false (is_at port statement) 1 0 fails

-- a statement is counted at its port
pub counted-push : (phases : List Phase) (statements : List Statement) (statement : Statement) (counts : List ℕ) (place : ℕ)
    → length counts ≡ 8 → place < 8 → event_port statement.event ≡ Some place
    → ((port : ℕ) → port < 8 → slice_index counts port ≡ count_at port (section_with phases statements))
    → (port : ℕ) → port < 8
    → slice_index (slice_set counts place (slice_index_or counts place 0 + 1)) port
    ≡ count_at port (section_with phases (statements ++ statement ∷ []))
counted-push phases statements statement counts place eight below at counted port low =
    let more = count_at-push port phases statements statement in
    elim (cases_eq place port) [
      | inl same ↦
          let within : place < length counts = omega arith in
          let here : slice_index (slice_set counts place (slice_index_or counts place 0 + 1)) place ≡ slice_index_or counts place 0 + 1 =
          get_or-set_same counts place (slice_index_or counts place 0 + 1) 0 within in
          let is : is_at port statement ≡ true = is_at-port statement port (at ∙ ap (λ (p : ℕ). Some p) same) in
          let one = one_at port statement is in
          let before : slice_index counts place ≡ count_at port (section_with phases statements) = ap (slice_index counts) same ∙ counted port low in
          let there : slice_index (slice_set counts place (slice_index_or counts place 0 + 1)) port ≡ slice_index_or counts place 0 + 1 =
          ap (slice_index (slice_set counts place (slice_index_or counts place 0 + 1))) (sym same) ∙ here in
          omega (arith, there, before, more, one)
      | inr apart ↦
          let other : slice_index (slice_set counts place (slice_index_or counts place 0 + 1)) port ≡ slice_index counts port =
          get_or-set_other counts place port (slice_index_or counts place 0 + 1) 0 (λ e. apart (sym e)) in
          let is : is_at port statement ≡ false = is_at-other statement place port at apart in
          let none = none_at port statement is in
          let before = counted port low in
          omega (arith, other, before, more, none)
    ]

-- the statements of a phase that ends stay counted
pub counted-phase_end : (port : ℕ) (phases : List Phase) (statements : List Statement)
    → count_at port (section_with (phases ++ record { statements = statements } ∷ []) []) ≡ count_at port (section_with phases statements)
counted-phase_end port phases statements =
    count_at-phases port (phases ++ record { statements = statements } ∷ []) [] ∙ add-zero (count_at port (section_with phases statements))
