-- A line says one thing.
use Rattle.std.proofs.Common.{◌≡◌, ℕ, ◌+◌, ◌<◌, ◌⊎◌, List, [], ◌∷◌, codes, refl, sym, ap, ◌∙◌}
use Rattle.std.proofs.Common.{subst, arith, inl, inr}
use Rattle.hex.proofs.HexLemmas.{decode_of-same}
use Rattle.card_core.specs.declared.event.Event.{Event}
use Rattle.card_core.specs.declared.event.Event.TheVariants.{Apdu, Reset, Load, Power}
use Rattle.card_core.specs.declared.event.LoadStep.{LoadStep}
use Rattle.card_core.specs.declared.event.LoadStep.TheVariants.{Begin, Piece, End}
use Rattle.card_core.specs.declared.script.Statement.{Statement}
use Rattle.script_text.specs.Draft.{NamesPortIfStated}
use Rattle.script_text.specs.Line.{IsLine, Says}
use Rattle.script_text.specs.Ports.{NamesPort}
use Rattle.script_text.specs.Script.{event_port}
use Rattle.script_text.specs.Statement.{IsHex, IsPort, IsStatement, IsStep}
use Rattle.script_text.specs.Words.{IsPassedOver, SpellsHex}
use Rattle.script_text.specs.Item.{Item}
use Rattle.script_text.specs.Item.Item.{Stated, PhaseEnd, SectionEnd}
use Rattle.script_text.specs.declared.line_set.LineSet.{LineSet}
use Rattle.script_text.proofs.StatementLemmas.{other_first}

-- ---- HEX and ports

no_digits : (digits : List ℕ) → [] ≡ digits ∷ [] → ⊥
no_digits digits e = cc

IsHex-same : (most : ℕ) (hex : List (List ℕ)) (a b : List ℕ) → IsHex most hex a → IsHex most hex b → a ≡ b
IsHex-same most hex a b (inl none) (inl other) = none.1 ∙ sym other.1
IsHex-same most hex a b (inl none) (inr word) = absurd (no_digits word.0 (sym none.0 ∙ word.1))
IsHex-same most hex a b (inr word) (inl none) = absurd (no_digits word.0 (sym none.0 ∙ word.1))
IsHex-same most hex a b (inr word) (inr other) =
    let digits : word.0 ≡ other.0 = cc (sym word.1 ∙ other.1) in
    decode_of-same other.0 a b (subst (λ (d : List ℕ). SpellsHex d a) digits word.2.1) other.2.1

IsPort-same : (word behind : List ℕ) (a b : ℕ) → IsPort word a behind → IsPort word b behind → a ≡ b
IsPort-same word behind a b one other =
    let same : 48 + a ≡ 48 + b = cc (sym one.1 ∙ other.1) in
    omega arith

-- ---- a line that is one statement is no other

IsStep-same : (its : List (List ℕ)) (a b : LoadStep) → IsStep its a → IsStep its b → a ≡ b
IsStep-same its (Begin m) (Begin n) one other =
    let hex : one.0 ≡ other.0 = cc (sym one.1 ∙ other.1) in
    ap (λ (bytes : List ℕ). Begin bytes)
    (IsHex-same 4096 other.0 m n (subst (λ (hex : List (List ℕ)). IsHex 4096 hex m) hex one.2) other.2)
IsStep-same its (Begin m) (Piece n) one other = absurd (other_first (codes "begin") (codes "piece") _ _ refl (sym one.1 ∙ other.1))
IsStep-same its (Begin m) End one other = absurd (other_first (codes "begin") (codes "end") _ _ refl (sym one.1 ∙ other))
IsStep-same its (Piece m) (Begin n) one other = absurd (other_first (codes "piece") (codes "begin") _ _ refl (sym one.1 ∙ other.1))
IsStep-same its (Piece m) (Piece n) one other =
    let hex : one.0 ≡ other.0 = cc (sym one.1 ∙ other.1) in
    ap (λ (bytes : List ℕ). Piece bytes)
    (IsHex-same 1048576 other.0 m n (subst (λ (hex : List (List ℕ)). IsHex 1048576 hex m) hex one.2) other.2)
IsStep-same its (Piece m) End one other = absurd (other_first (codes "piece") (codes "end") _ _ refl (sym one.1 ∙ other))
IsStep-same its End (Begin n) one other = absurd (other_first (codes "end") (codes "begin") _ _ refl (sym one ∙ other.1))
IsStep-same its End (Piece n) one other = absurd (other_first (codes "end") (codes "piece") _ _ refl (sym one ∙ other.1))
IsStep-same its End End one other = refl

IsStatement-same : (its : List (List ℕ)) (a b : Event) → IsStatement its a → IsStatement its b → a ≡ b
IsStatement-same its (Apdu p m) (Apdu q n) one other =
    let words = sym one.words ∙ other.words in
    let number : one.number ≡ other.number = cc words in
    let hex : one.hex ≡ other.hex = cc words in
    let port : p ≡ q = IsPort-same other.number (codes ":") p q (subst (λ (w : List ℕ). IsPort w p (codes ":")) number one.at) other.at in
    let bytes : m ≡ n = IsHex-same 1024 other.hex m n (subst (λ (h : List (List ℕ)). IsHex 1024 h m) hex one.bytes) other.bytes in
    ap (λ (r : ℕ). Apdu r m) port ∙ ap (λ (bytes : List ℕ). Apdu q bytes) bytes
IsStatement-same its (Apdu p m) (Reset q) one other = absurd (other_first (codes "port") (codes "reset") _ _ refl (sym one.words ∙ other.words))
IsStatement-same its (Apdu p m) (Load q t) one other = absurd (other_first (codes "port") (codes "load") _ _ refl (sym one.words ∙ other.words))
IsStatement-same its (Apdu p m) Power one other = absurd other
IsStatement-same its (Reset p) (Apdu q n) one other = absurd (other_first (codes "reset") (codes "port") _ _ refl (sym one.words ∙ other.words))
IsStatement-same its (Reset p) (Reset q) one other =
    let words = sym one.words ∙ other.words in
    let number : one.number ≡ other.number = cc words in
    let port : p ≡ q = IsPort-same other.number [] p q (subst (λ (w : List ℕ). IsPort w p []) number one.at) other.at in
    ap (λ (r : ℕ). Reset r) port
IsStatement-same its (Reset p) (Load q t) one other = absurd (other_first (codes "reset") (codes "load") _ _ refl (sym one.words ∙ other.words))
IsStatement-same its (Reset p) Power one other = absurd other
IsStatement-same its (Load p s) (Apdu q n) one other = absurd (other_first (codes "load") (codes "port") _ _ refl (sym one.words ∙ other.words))
IsStatement-same its (Load p s) (Reset q) one other = absurd (other_first (codes "load") (codes "reset") _ _ refl (sym one.words ∙ other.words))
IsStatement-same its (Load p s) (Load q t) one other =
    let words = sym one.words ∙ other.words in
    let number : one.number ≡ other.number = cc words in
    let more : one.more ≡ other.more = cc words in
    let port : p ≡ q = IsPort-same other.number [] p q (subst (λ (w : List ℕ). IsPort w p []) number one.at) other.at in
    let step : s ≡ t = IsStep-same other.more s t (subst (λ (its : List (List ℕ)). IsStep its s) more one.of_step) other.of_step in
    ap (λ (r : ℕ). Load r s) port ∙ ap (λ (step : LoadStep). Load q step) step
IsStatement-same its (Load p s) Power one other = absurd other
IsStatement-same its Power b one other = absurd one

-- ---- a line says one thing

-- the first word of a statement's line
first_word : (its : List (List ℕ)) (event : Event) → IsStatement its event
    → ((more : List (List ℕ)) × (its ≡ codes "port" ∷ more))
    ⊎ (((more : List (List ℕ)) × (its ≡ codes "reset" ∷ more)) ⊎ ((more : List (List ℕ)) × (its ≡ codes "load" ∷ more)))
first_word its (Apdu port apdu) h = inl (h.number ∷ h.hex, h.words)
first_word its (Reset port) h = inr (inl (h.number ∷ [], h.words))
first_word its (Load port step) h = inr (inr (h.number ∷ h.more, h.words))
first_word its Power h = absurd h

no_phase : (its : List (List ℕ)) (event : Event) → IsStatement its event → its ≡ codes "phase" ∷ [] → ⊥
no_phase its event h e = elim (first_word its event h) [
  | inl port ↦ other_first (codes "port") (codes "phase") _ _ refl (sym port.1 ∙ e)
  | inr others ↦ elim others [
    | inl reset ↦ other_first (codes "reset") (codes "phase") _ _ refl (sym reset.1 ∙ e)
    | inr load ↦ other_first (codes "load") (codes "phase") _ _ refl (sym load.1 ∙ e)
  ]
]

no_power : (its : List (List ℕ)) (event : Event) → IsStatement its event → its ≡ codes "power" ∷ [] → ⊥
no_power its event h e = elim (first_word its event h) [
  | inl port ↦ other_first (codes "port") (codes "power") _ _ refl (sym port.1 ∙ e)
  | inr others ↦ elim others [
    | inl reset ↦ other_first (codes "reset") (codes "power") _ _ refl (sym reset.1 ∙ e)
    | inr load ↦ other_first (codes "load") (codes "power") _ _ refl (sym load.1 ∙ e)
  ]
]

pub IsLine-same : (number : ℕ) (its : List (List ℕ)) (a b : Item) → IsLine number its a → IsLine number its b → a ≡ b
IsLine-same number its (Stated s) (Stated t) one other =
    let line : s.line ≡ t.line = one.0 ∙ sym other.0 in
    let event : s.event ≡ t.event = IsStatement-same its s.event t.event one.1 other.1 in
    ap (λ (l : ℕ). Stated (record { line = l; event = s.event })) line
    ∙ ap (λ (e : Event). Stated (record { line = t.line; event = e })) event
IsLine-same number its (Stated s) PhaseEnd one other = absurd (no_phase its s.event one.1 other)
IsLine-same number its (Stated s) SectionEnd one other = absurd (no_power its s.event one.1 other)
IsLine-same number its PhaseEnd (Stated t) one other = absurd (no_phase its t.event other.1 one)
IsLine-same number its PhaseEnd PhaseEnd one other = refl
IsLine-same number its PhaseEnd SectionEnd one other = absurd (other_first (codes "phase") (codes "power") _ _ refl (sym one ∙ other))
IsLine-same number its SectionEnd (Stated t) one other = absurd (no_power its t.event other.1 one)
IsLine-same number its SectionEnd PhaseEnd one other = absurd (other_first (codes "power") (codes "phase") _ _ refl (sym one ∙ other))
IsLine-same number its SectionEnd SectionEnd one other = refl

pub Says-same : (set : LineSet) (number : ℕ) (its : List (List ℕ)) (a b : Item) → Says set number its a → Says set number its b → a ≡ b
Says-same set number its a b one other = IsLine-same number its a b one.0 other.0

-- ---- no line that is passed over says anything

no_words : (first : List ℕ) (more : List (List ℕ)) → [] ≡ first ∷ more → ⊥
no_words first more e = cc

-- a first word that doesn't begin with `#`
uncommented : (its : List (List ℕ)) (b : ℕ) (bs : List ℕ) (more : List (List ℕ)) → its ≡ (b ∷ bs) ∷ more → 35 < b → ¬ IsPassedOver its
uncommented its b bs more is high (inl none) = no_words (b ∷ bs) more (sym none ∙ is)
uncommented its b bs more is high (inr comment) =
    let hash : 35 ≡ b = cc (sym comment.2 ∙ is) in
    omega arith

says_some : (number : ℕ) (its : List (List ℕ)) (item : Item) → IsLine number its item → ¬ IsPassedOver its
says_some number its (Stated s) h passed = elim (first_word its s.event h.1) [
  | inl port ↦ uncommented its _ _ port.0 port.1 (omega arith) passed
  | inr others ↦ elim others [
    | inl reset ↦ uncommented its _ _ reset.0 reset.1 (omega arith) passed
    | inr load ↦ uncommented its _ _ load.0 load.1 (omega arith) passed
  ]
]
says_some number its PhaseEnd h passed = uncommented its _ _ [] h (omega arith) passed
says_some number its SectionEnd h passed = uncommented its _ _ [] h (omega arith) passed

pub passed_or_said : (set : LineSet) (number : ℕ) (its : List (List ℕ)) (item : Item) → IsPassedOver its → Says set number its item → ⊥
passed_or_said set number its item passed says = says_some number its item says.0 passed

-- ---- a statement names one of the eight ports

names_port : (its : List (List ℕ)) (s : Statement) (event : Event) → s.event ≡ event → IsStatement its event → NamesPort s
names_port its s (Apdu port apdu) is h = (port, h.at.0, ap event_port is)
names_port its s (Reset port) is h = (port, h.at.0, ap event_port is)
names_port its s (Load port step) is h = (port, h.at.0, ap event_port is)
names_port its s Power is h = absurd h

pub Says-port : (set : LineSet) (number : ℕ) (its : List (List ℕ)) (item : Item) → Says set number its item → NamesPortIfStated item
Says-port set number its (Stated s) says = names_port its s s.event refl says.0.1
Says-port set number its PhaseEnd says = tt
Says-port set number its SectionEnd says = tt
