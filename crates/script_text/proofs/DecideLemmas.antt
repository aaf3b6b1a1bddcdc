-- Each line is passed over, says something or is faulty, and so each text is a script or has a first fault.
use Rattle.std.proofs.Common.{◌≡◌, ◌≢◌, ℕ, ◌+◌, ◌-◌, ◌<◌, ◌≤◌, ◌⊎◌, true, List, [], ◌∷◌, length}
use Rattle.std.proofs.Common.{codes, Result, Ok, Err, refl, sym, ap, ◌∙◌, subst, arith, inl, inr}
use Rattle.std.specs.Str.{bytes_eq}
use Rattle.std.specs.Str.Lines.{lines}
use Rattle.std.proofs.lemmas.Bool.{cases_Bool, cases_eq, cases_lt, both_ways}
use Rattle.std.proofs.lemmas.Slice.Eq.{bytes_eq-Decides}
use Rattle.hex.specs.Hex.{decode_of}
use Rattle.hex.specs.declared.error.FromHexError.{FromHexError}
use Rattle.card_core.specs.declared.event.Event.{Event}
use Rattle.card_core.specs.declared.event.Event.TheVariants.{Apdu, Reset, Load, Power}
use Rattle.card_core.specs.declared.event.LoadStep.{LoadStep}
use Rattle.card_core.specs.declared.event.LoadStep.TheVariants.{Begin, Piece, End}
use Rattle.card_core.specs.declared.script.Statement.{Statement}
use Rattle.script_text.specs.Draft.{HasRoomIfStated, IsFull, NamesPortIfStated, OpenScript}
use Rattle.script_text.specs.Draft.{empty_script, finished, open_section, with_item}
use Rattle.script_text.specs.Line.{IsLine, Says, is_admitted}
use Rattle.script_text.specs.Script.{IsScriptOrFaulty, count_at, line_of_byte}
use Rattle.script_text.specs.Statement.{IsHex, IsPort, IsStatement, IsStep, SpellsWithin}
use Rattle.script_text.specs.Words.{IsPassedOver, words}
use Rattle.script_text.specs.declared.fault.ScriptKind.TheVariants.{Grammar, TooMany, TooLong}
use Rattle.script_text.specs.Item.{Item}
use Rattle.script_text.specs.Item.Item.{Stated, PhaseEnd, SectionEnd}
use Rattle.script_text.specs.declared.line_set.LineSet.{LineSet}
use Rattle.script_text.proofs.DraftLemmas.{is_at-port, same_port}
use Rattle.script_text.proofs.ItemLemmas.{IsLine-same, Says-port}
use Rattle.script_text.proofs.ReadLemmas.{HasFirstFault-grammar, HasFirstFault-many, IsScript-read}
use Rattle.script_text.proofs.ReadLemmas.{ReadSoFar, ReadSoFar-passed, ReadSoFar-said}
use Rattle.script_text.proofs.ReadLemmas.{ReadSoFar-start}
use Rattle.script_text.proofs.StatementLemmas.{no_begin, no_piece, no_port_line, other_first}

-- something has the property, or nothing has
Decided : {X : Type 0} → (X → Type 0) → Type 0
Decided {X} P = ((x : X) × P x) ⊎ ((x : X) → ¬ P x)

same_or_not : (a b : List ℕ) → (a ≡ b) ⊎ (a ≢ b)
same_or_not a b =
    let decides = bytes_eq-Decides a b in
    elim (cases_Bool (bytes_eq a b)) [
      | inl equal ↦ inl (decides.0 equal)
      | inr differs ↦ inr (λ same. both_ways (bytes_eq a b) differs (decides.1 same))
    ]

nil_cons : {X : Type 0} (x : X) (xs : List X) → [] ≡ x ∷ xs → ⊥
nil_cons x xs e = cc

cons_nil : {X : Type 0} (x : X) (xs : List X) → x ∷ xs ≡ [] → ⊥
cons_nil x xs e = cc

-- ---- HEX

decide_decoded : (most : ℕ) (digits : List ℕ) (r : Result (List ℕ) FromHexError) → decode_of digits ≡ r → Decided (SpellsWithin most digits)
unfolding Decided
decide_decoded most digits (Ok bytes) is =
    elim (cases_lt most (length bytes)) [
      | inl long ↦
          inr (λ other h.
          let same : other ≡ bytes = cc (sym h.1 ∙ is) in
          omega (arith, h.0, ap (length {A = ℕ}) same, long))
      | inr short ↦ inl (bytes, (short, is))
    ]
decide_decoded most digits (Err e) is = inr (λ other h. cc (sym h.1 ∙ is))

decide_hex : (most : ℕ) (hex : List (List ℕ)) → Decided (IsHex most hex)
unfolding Decided
decide_hex most [] = inl ([], inl (refl, refl))
decide_hex most (digits ∷ []) = elim (decide_decoded most digits (decode_of digits) refl) [
  | inl found ↦ inl (found.0, inr (digits, refl, found.1))
  | inr none ↦
      inr (λ bytes h. elim h [
        | inl empty ↦ cons_nil digits [] empty.0
        | inr word ↦
            let same : word.0 ≡ digits = cc (word.1) in
            none bytes (subst (λ (d : List ℕ). SpellsWithin most d bytes) same word.2)
      ])
]
decide_hex most (digits ∷ other ∷ more) = inr (λ bytes h. elim h [
  | inl empty ↦ cons_nil digits (other ∷ more) empty.0
  | inr word ↦
      let rest : [] ≡ other ∷ more = cc (word.1) in
      nil_cons other more rest
])

-- ---- ports

decide_port : (word behind : List ℕ) → Decided (λ (port : ℕ). IsPort word port behind)
unfolding Decided
decide_port [] behind = inr (λ port h. nil_cons (48 + port) behind h.1)
decide_port (c ∷ rest) behind = elim (same_or_not rest behind) [
  | inr other ↦
      inr (λ port h.
      let same : rest ≡ behind = cc (h.1) in
      other same)
  | inl same ↦
      elim (cases_lt c 48) [
        | inl low ↦
            inr (λ port h.
            let is : c ≡ 48 + port = cc (h.1) in
            omega arith)
        | inr high ↦
            elim (cases_lt c 56) [
              | inl within ↦
                  let is : c ≡ 48 + (c - 48) = omega arith in
                  inl (c - 48, (omega arith, ap (λ (d : ℕ). d ∷ rest) is ∙ ap (λ (r : List ℕ). (48 + (c - 48)) ∷ r) same))
              | inr over ↦
                  inr (λ port h.
                  let is : c ≡ 48 + port = cc (h.1) in
                  omega (arith, h.0))
            ]
      ]
]

-- ---- steps of loads

no_end : (word : List ℕ) (more : List (List ℕ)) (step : LoadStep) → ¬ IsStep (codes "end" ∷ word ∷ more) step
no_end word more (Begin metadata) h = other_first (codes "end") (codes "begin") _ _ refl h.1
no_end word more (Piece bytes) h = other_first (codes "end") (codes "piece") _ _ refl h.1
no_end word more End h =
    let rest : word ∷ more ≡ [] = cc h in
    cons_nil word more rest

no_step : (step : LoadStep) → ¬ IsStep [] step
no_step (Begin metadata) h = nil_cons _ _ h.1
no_step (Piece bytes) h = nil_cons _ _ h.1
no_step End h = nil_cons _ _ h

other_step : (first : List ℕ) (more : List (List ℕ)) → first ≢ codes "begin" → first ≢ codes "piece" → first ≢ codes "end"
    → (step : LoadStep) → ¬ IsStep (first ∷ more) step
other_step first more b p e (Begin metadata) h =
    let same : first ≡ codes "begin" = cc (h.1) in
    b same
other_step first more b p e (Piece bytes) h =
    let same : first ≡ codes "piece" = cc (h.1) in
    p same
other_step first more b p e End h =
    let same : first ≡ codes "end" = cc h in
    e same

decide_end : (more : List (List ℕ)) → Decided (IsStep (codes "end" ∷ more))
unfolding Decided
decide_end [] = inl (End, refl)
decide_end (word ∷ more) = inr (no_end word more)

decide_begin : (more : List (List ℕ)) → Decided (IsStep (codes "begin" ∷ more))
unfolding Decided
decide_begin more = elim (decide_hex 4096 more) [
  | inl found ↦ inl (Begin found.0, (more, refl, found.1))
  | inr none ↦ inr (no_begin more none)
]

decide_piece : (more : List (List ℕ)) → Decided (IsStep (codes "piece" ∷ more))
unfolding Decided
decide_piece more = elim (decide_hex 1048576 more) [
  | inl found ↦ inl (Piece found.0, (more, refl, found.1))
  | inr none ↦ inr (no_piece more none)
]

decide_step : (its : List (List ℕ)) → Decided (IsStep its)
unfolding Decided
decide_step [] = inr no_step
decide_step (first ∷ more) = elim (same_or_not first (codes "begin")) [
  | inl same ↦ subst (λ (w : List ℕ). Decided (IsStep (w ∷ more))) (sym same) (decide_begin more)
  | inr b ↦
      elim (same_or_not first (codes "piece")) [
        | inl same ↦ subst (λ (w : List ℕ). Decided (IsStep (w ∷ more))) (sym same) (decide_piece more)
        | inr p ↦
            elim (same_or_not first (codes "end")) [
              | inl same ↦ subst (λ (w : List ℕ). Decided (IsStep (w ∷ more))) (sym same) (decide_end more)
              | inr e ↦ inr (other_step first more b p e)
            ]
      ]
]

-- ---- statements

-- the words behind the first one, by the kind of statement
port_words : (more : List (List ℕ)) (event : Event) → IsStatement (codes "port" ∷ more) event
    → (number : List ℕ) × (hex : List (List ℕ)) × (port : ℕ) × (more ≡ number ∷ hex) × IsPort number port (codes ":")
port_words more (Apdu port apdu) h = (h.number, h.hex, port, cc (h.words), h.at)
port_words more (Reset port) h = absurd (other_first (codes "port") (codes "reset") _ _ refl h.words)
port_words more (Load port step) h = absurd (other_first (codes "port") (codes "load") _ _ refl h.words)
port_words more Power h = absurd h

reset_words : (more : List (List ℕ)) (event : Event) → IsStatement (codes "reset" ∷ more) event
    → (number : List ℕ) × (port : ℕ) × (more ≡ number ∷ []) × IsPort number port []
reset_words more (Apdu port apdu) h = absurd (other_first (codes "reset") (codes "port") _ _ refl h.words)
reset_words more (Reset port) h = (h.number, port, cc (h.words), h.at)
reset_words more (Load port step) h = absurd (other_first (codes "reset") (codes "load") _ _ refl h.words)
reset_words more Power h = absurd h

load_words : (more : List (List ℕ)) (event : Event) → IsStatement (codes "load" ∷ more) event
    → (number : List ℕ) × (others : List (List ℕ)) × (port : ℕ) × (step : LoadStep) × (more ≡ number ∷ others)
    × IsPort number port [] × IsStep others step
load_words more (Apdu port apdu) h = absurd (other_first (codes "load") (codes "port") _ _ refl h.words)
load_words more (Reset port) h = absurd (other_first (codes "load") (codes "reset") _ _ refl h.words)
load_words more (Load port step) h = (h.number, h.more, port, step, cc (h.words), h.at, h.of_step)
load_words more Power h = absurd h

decide_port_line : (more : List (List ℕ)) → Decided (IsStatement (codes "port" ∷ more))
unfolding Decided
decide_port_line [] = inr (λ event h. let w = port_words [] event h in nil_cons w.0 w.1 w.3)
decide_port_line (number ∷ hex) = elim (decide_port number (codes ":")) [
  | inr none ↦
      inr (λ event h.
      let w = port_words (number ∷ hex) event h in
      let same : w.0 ≡ number = cc (w.3) in
      none w.2 (subst (λ (n : List ℕ). IsPort n w.2 (codes ":")) same w.4))
  | inl port ↦
      elim (decide_hex 1024 hex) [
        | inl bytes ↦
            inl (Apdu port.0 bytes.0, record { number = number; hex = hex; words = refl; at = port.1; bytes = bytes.1 })
        | inr none ↦ inr (no_port_line number hex none)
      ]
]

decide_reset_line : (more : List (List ℕ)) → Decided (IsStatement (codes "reset" ∷ more))
unfolding Decided
decide_reset_line [] = inr (λ event h. let w = reset_words [] event h in nil_cons w.0 [] w.2)
decide_reset_line (number ∷ []) = elim (decide_port number []) [
  | inr none ↦
      inr (λ event h.
      let w = reset_words (number ∷ []) event h in
      let same : w.0 ≡ number = cc (w.2) in
      none w.1 (subst (λ (n : List ℕ). IsPort n w.1 []) same w.3))
  | inl port ↦ inl (Reset port.0, record { number = number; words = refl; at = port.1 })
]
decide_reset_line (number ∷ other ∷ more) =
    inr (λ event h.
    let w = reset_words (number ∷ other ∷ more) event h in
    let rest : other ∷ more ≡ [] = cc (w.2) in
    cons_nil other more rest)

decide_load_line : (more : List (List ℕ)) → Decided (IsStatement (codes "load" ∷ more))
unfolding Decided
decide_load_line [] = inr (λ event h. let w = load_words [] event h in nil_cons w.0 w.1 w.4)
decide_load_line (number ∷ others) = elim (decide_port number []) [
  | inr none ↦
      inr (λ event h.
      let w = load_words (number ∷ others) event h in
      let same : w.0 ≡ number = cc (w.4) in
      none w.2 (subst (λ (n : List ℕ). IsPort n w.2 []) same w.5))
  | inl port ↦
      elim (decide_step others) [
        | inl step ↦
            inl (Load port.0 step.0, record { number = number; more = others; words = refl; at = port.1; of_step = step.1 })
        | inr none ↦
            inr (λ event h.
            let w = load_words (number ∷ others) event h in
            let same : w.1 ≡ others = cc (w.4) in
            none w.3 (subst (λ (its : List (List ℕ)). IsStep its w.3) same w.6))
      ]
]

other_line : (first : List ℕ) (more : List (List ℕ)) → first ≢ codes "port" → first ≢ codes "reset" → first ≢ codes "load"
    → (event : Event) → ¬ IsStatement (first ∷ more) event
other_line first more p r l (Apdu port apdu) h =
    let same : first ≡ codes "port" = cc (h.words) in
    p same
other_line first more p r l (Reset port) h =
    let same : first ≡ codes "reset" = cc (h.words) in
    r same
other_line first more p r l (Load port step) h =
    let same : first ≡ codes "load" = cc (h.words) in
    l same
other_line first more p r l Power h = h

no_statement : (event : Event) → ¬ IsStatement [] event
no_statement (Apdu port apdu) h = nil_cons _ _ h.words
no_statement (Reset port) h = nil_cons _ _ h.words
no_statement (Load port step) h = nil_cons _ _ h.words
no_statement Power h = h

decide_statement : (its : List (List ℕ)) → Decided (IsStatement its)
unfolding Decided
decide_statement [] = inr no_statement
decide_statement (first ∷ more) = elim (same_or_not first (codes "port")) [
  | inl same ↦ subst (λ (w : List ℕ). Decided (IsStatement (w ∷ more))) (sym same) (decide_port_line more)
  | inr p ↦
      elim (same_or_not first (codes "reset")) [
        | inl same ↦ subst (λ (w : List ℕ). Decided (IsStatement (w ∷ more))) (sym same) (decide_reset_line more)
        | inr r ↦
            elim (same_or_not first (codes "load")) [
              | inl same ↦ subst (λ (w : List ℕ). Decided (IsStatement (w ∷ more))) (sym same) (decide_load_line more)
              | inr l ↦ inr (other_line first more p r l)
            ]
      ]
]

-- ---- lines

same_words : (its : List (List ℕ)) (word : List ℕ) → (its ≡ word ∷ []) ⊎ (its ≢ word ∷ [])
same_words [] word = inr (λ e. nil_cons word [] e)
same_words (first ∷ []) word = elim (same_or_not first word) [
  | inl same ↦ inl (ap (λ (w : List ℕ). w ∷ []) same)
  | inr other ↦
      inr (λ e.
      let same : first ≡ word = cc e in
      other same)
]
same_words (first ∷ other ∷ more) word =
    inr (λ e.
    let rest : other ∷ more ≡ [] = cc e in
    cons_nil other more rest)

no_line : (number : ℕ) (its : List (List ℕ)) → ((event : Event) → ¬ IsStatement its event) → its ≢ codes "phase" ∷ []
    → its ≢ codes "power" ∷ [] → (item : Item) → ¬ IsLine number its item
no_line number its none p q (Stated statement) h = none statement.event h.1
no_line number its none p q PhaseEnd h = p h
no_line number its none p q SectionEnd h = q h

decide_line : (number : ℕ) (its : List (List ℕ)) → Decided (IsLine number its)
unfolding Decided
decide_line number its = elim (decide_statement its) [
  | inl found ↦ inl (Stated (record { line = number; event = found.0 }), (refl, found.1))
  | inr none ↦ elim (same_words its (codes "phase")) [
    | inl phase ↦ inl (PhaseEnd, phase)
    | inr p ↦ elim (same_words its (codes "power")) [
      | inl power ↦ inl (SectionEnd, power)
      | inr q ↦ inr (no_line number its none p q)
    ]
  ]
]

decide_says : (set : LineSet) (number : ℕ) (its : List (List ℕ)) → Decided (Says set number its)
unfolding Decided
decide_says set number its = elim (decide_line number its) [
  | inr none ↦ inr (λ item h. none item h.0)
  | inl found ↦ elim (cases_Bool (is_admitted set found.0)) [
    | inl admitted ↦ inl (found.0, (found.1, admitted))
    | inr refused ↦
        inr (λ item h.
        let same : item ≡ found.0 = IsLine-same number its item found.0 h.0 found.1 in
        both_ways (is_admitted set found.0) refused (subst (λ (i : Item). is_admitted set i ≡ true) same h.1))
  ]
]

passed_or_not : (its : List (List ℕ)) → IsPassedOver its ⊎ ¬ IsPassedOver its
passed_or_not [] = inl (inl refl)
passed_or_not ([] ∷ more) = inr (λ h. elim h [
  | inl none ↦ cons_nil [] more none
  | inr comment ↦
      let same : [] ≡ 35 ∷ comment.0 = cc (comment.2) in
      nil_cons 35 comment.0 same
])
passed_or_not ((b ∷ bs) ∷ more) = elim (cases_eq b 35) [
  | inl hash ↦ inl (inr (bs, more, ap (λ (c : ℕ). (c ∷ bs) ∷ more) hash))
  | inr other ↦
      inr (λ h. elim h [
        | inl none ↦ cons_nil (b ∷ bs) more none
        | inr comment ↦
            let same : b ≡ 35 = cc (comment.2) in
            other same
      ])
]

-- ---- room

-- the last section has room for a statement at its port, or none
room_or_full : (its : OpenScript) (item : Item) → NamesPortIfStated item → HasRoomIfStated its item
    ⊎ ((statement : Statement) × (item ≡ Stated statement) × IsFull its statement)
room_or_full its (Stated statement) names =
    let port = names.0 in
    elim (cases_lt (count_at port (open_section its)) 20000) [
      | inl room ↦ inl (λ other at.
          let same : port ≡ other = same_port statement port other names.2 at in
          subst (λ (p : ℕ). count_at p (open_section its) < 20000) same room)
      | inr full ↦ inr (statement, refl, (port, is_at-port statement port names.2, full))
    ]
room_or_full its PhaseEnd names = inl tt
room_or_full its SectionEnd names = inl tt

-- ---- texts

lines_read : (set : LineSet) (text : List ℕ) → length text ≤ 8388608 → (number : ℕ) (its : OpenScript) (rest : List (List ℕ))
    → ReadSoFar set text number its rest → IsScriptOrFaulty set text
unfolding Decided
lines_read set text short number its [] so_far = inl (finished its, IsScript-read set text number its short so_far)
lines_read set text short number its (line ∷ more) so_far =
    elim (passed_or_not (words line)) [
      | inl passed ↦ lines_read set text short (number + 1) its more (ReadSoFar-passed set text number its line more so_far passed)
      | inr some ↦ elim (decide_says set (number + 1) (words line)) [
        | inr none ↦ inr (number + 1, Grammar, HasFirstFault-grammar set text number its line more short so_far (some, none))
        | inl said ↦ elim (room_or_full its said.0 (Says-port set (number + 1) (words line) said.0 said.1)) [
          | inl room ↦
              lines_read set text short (number + 1) (with_item its said.0) more
              (ReadSoFar-said set text number its line said.0 more so_far said.1 room)
          | inr full ↦
              let says : Says set (number + 1) (words line) (Stated full.0) =
              subst (λ (i : Item). Says set (number + 1) (words line) i) full.1 said.1 in
              inr (number + 1, TooMany, HasFirstFault-many set text number its line full.0 more short so_far says full.2)
        ]
      ]
    ]

pub IsScriptOrFaulty-each : (set : LineSet) (text : List ℕ) → IsScriptOrFaulty set text
IsScriptOrFaulty-each set text = elim (cases_lt 8388608 (length text)) [
  | inl long ↦ inr (line_of_byte text 8388608, TooLong, (long, refl))
  | inr short ↦ lines_read set text short 0 empty_script (lines text) (ReadSoFar-start set text)
]
