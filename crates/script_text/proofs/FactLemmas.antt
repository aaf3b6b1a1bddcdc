-- What every script keeps: the ports that its statements name, and how long its pieces are together.
use Rattle.std.proofs.Common.{◌≡◌, ℕ, ◌+◌, ◌-◌, ◌<◌, ◌≤◌, ◌^◌, ◌==◌, Bool, List, [], ◌∷◌, ◌++◌}
use Rattle.std.proofs.Common.{length, take, codes, Result, Ok, Err, sym, ap, ◌∙◌, subst, arith, inl}
use Rattle.std.proofs.Common.{inr, append_assoc}
use Rattle.std.specs.Prelude.{IfOk, filter, slice_index}
use Rattle.std.specs.List.{AllByRecursion, flat_map, fold, onto_first, slice_split, sum_by}
use Rattle.std.specs.Str.Lines.{lines, lines_of_parts, strip_carriage_return}
use Rattle.std.proofs.lemmas.Bool.{cases_Bool, cond-true, cond-false}
use Rattle.std.proofs.lemmas.List.{append-nil, flat_map_more, length-take}
use Rattle.std.proofs.lemmas.List.Splits.{slice_split-cons_yes, slice_split-cons_no}
use Rattle.std.proofs.lemmas.List.Sums.{sum_by-cons}
use Rattle.hex.proofs.HexLemmas.{decode_of-ok}
use Rattle.card_core.specs.declared.event.Event.{Event}
use Rattle.card_core.specs.declared.event.Event.TheVariants.{Apdu, Reset, Load, Power}
use Rattle.card_core.specs.declared.event.LoadStep.TheVariants.{Begin, Piece, End}
use Rattle.card_core.specs.declared.script.Phase.{Phase}
use Rattle.card_core.specs.declared.script.Script.{Script}
use Rattle.card_core.specs.declared.script.Section.{Section}
use Rattle.card_core.specs.declared.script.Statement.{Statement}
use Rattle.script_text.specs.Draft.{NamesPortIfStated, OpenScript, empty_script, finished}
use Rattle.script_text.specs.Draft.{open_phase, open_section, with_item}
use Rattle.script_text.specs.Line.{Says}
use Rattle.script_text.specs.Ports.{NamesPort, script_piece_bytes, piece_of, statements_of}
use Rattle.script_text.specs.Readings.{IsTextReading}
use Rattle.script_text.specs.Script.{HaveItems, IsScript, script_of, statement_in}
use Rattle.script_text.specs.Statement.{IsHex, IsStatement}
use Rattle.script_text.specs.Words.{is_word, words}
use Rattle.script_text.specs.declared.fault.ScriptFault.{ScriptFault}
use Rattle.script_text.specs.Item.{Item}
use Rattle.script_text.specs.Item.Item.{Stated, PhaseEnd, SectionEnd}
use Rattle.script_text.specs.declared.line_set.LineSet.{LineSet}
use Rattle.script_text.proofs.CutLemmas.{script_of-fold}
use Rattle.script_text.proofs.ItemLemmas.{Says-port}

-- ---- the statements of a script are those of its lines, in order

in_phase : Phase → List Statement
in_phase phase = phase.statements

abbrev in_section : Section → List Statement
in_section section = flat_map (λ (phase : Phase). phase.statements) section.phases

flat_map_push : {X A : Type 0} (f : X → List A) (xs : List X) (x : X) → flat_map f (xs ++ x ∷ []) ≡ flat_map f xs ++ f x
flat_map_push f xs x = sym (flat_map_more f [] xs x)

-- the statements so far
abbrev stated_in : OpenScript → List Statement
stated_in its = flat_map in_section its.sections ++ (flat_map (λ (phase : Phase). phase.statements) its.phases ++ its.statements)

in_open_section : (its : OpenScript) → in_section (open_section its) ≡ flat_map (λ (phase : Phase). phase.statements) its.phases ++ its.statements
in_open_section its = flat_map_push (λ (phase : Phase). phase.statements) its.phases (open_phase its)

statements_of-finished : (its : OpenScript) → statements_of (finished its) ≡ stated_in its
statements_of-finished its =
    flat_map_push in_section its.sections (open_section its)
    ∙ ap (λ (ss : List Statement). flat_map in_section its.sections ++ ss) (in_open_section its)

stated_in-with : (its : OpenScript) (item : Item) → stated_in (with_item its item) ≡ stated_in its ++ statement_in item
stated_in-with its (Stated statement) = simp append_assoc
stated_in-with its PhaseEnd =
    ap (λ (ss : List Statement). flat_map in_section its.sections ++ ss)
    (append-nil (flat_map (λ (phase : Phase). phase.statements) (its.phases ++ open_phase its ∷ [])) ∙ in_open_section its)
    ∙ sym (append-nil (stated_in its))
stated_in-with its SectionEnd =
    append-nil (flat_map in_section (its.sections ++ open_section its ∷ []))
    ∙ flat_map_push in_section its.sections (open_section its)
    ∙ ap (λ (ss : List Statement). flat_map in_section its.sections ++ ss) (in_open_section its)
    ∙ sym (append-nil (stated_in its))

stated_in-fold : (its : OpenScript) (items : List Item) → stated_in (fold with_item its items) ≡ stated_in its ++ flat_map statement_in items
stated_in-fold its [] = sym (append-nil (stated_in its))
stated_in-fold its (item ∷ items) =
    stated_in-fold (with_item its item) items
    ∙ ap (λ (ss : List Statement). ss ++ flat_map statement_in items) (stated_in-with its item)
    ∙ append_assoc (stated_in its) (statement_in item) (flat_map statement_in items)

pub statements_of-script_of : (items : List Item) → statements_of (script_of items) ≡ flat_map statement_in items
statements_of-script_of items =
    ap statements_of (script_of-fold items)
    ∙ statements_of-finished (fold with_item empty_script items)
    ∙ stated_in-fold empty_script items

-- ---- each statement names one of the eight ports

each_names : (item : Item) (statements : List Statement) → NamesPortIfStated item → AllByRecursion NamesPort statements
    → AllByRecursion NamesPort (statement_in item ++ statements)
each_names (Stated statement) statements names each = (names, each)
each_names PhaseEnd statements names each = each
each_names SectionEnd statements names each = each

names_ports : (set : LineSet) (number : ℕ) (text : List (List ℕ)) (items : List Item) → HaveItems set number text items
    → AllByRecursion NamesPort (flat_map statement_in items)
names_ports set number [] items h = subst (λ (is : List Item). AllByRecursion NamesPort (flat_map statement_in is)) (sym h) tt
names_ports set number (line ∷ more) items (inl passed) = names_ports set (number + 1) more items passed.1
names_ports set number (line ∷ more) items (inr said) =
    let rest = names_ports set (number + 1) more said.1 said.4 in
    let each = each_names said.0 (flat_map statement_in said.1) (Says-port set number (words line) said.0 said.2) rest in
    subst (λ (is : List Item). AllByRecursion NamesPort (flat_map statement_in is)) (sym said.3) each

pub IsScript-ports : (set : LineSet) (text : List ℕ) (script : Script) → IsScript set text script
    → AllByRecursion NamesPort (statements_of script)
IsScript-ports set text script read =
    let is : statements_of script ≡ flat_map statement_in read.items = ap statements_of read.cut ∙ statements_of-script_of read.items in
    subst (AllByRecursion NamesPort) (sym is) (names_ports set 1 (lines text) read.items read.read)

-- ---- the parts of a list are no longer together than the list

abbrev total : List (List ℕ) → ℕ
total parts = sum_by (λ (part : List ℕ). length part) parts

total-cons : (part : List ℕ) (parts : List (List ℕ)) → total (part ∷ parts) ≡ length part + total parts
total-cons part parts = sum_by-cons (λ (part : List ℕ). length part) part parts

total-onto_first : (b : ℕ) (parts : List (List ℕ)) → total (onto_first b parts) ≤ total parts + 1
total-onto_first b [] = omega (arith, total-cons (b ∷ []) [])
total-onto_first b (part ∷ parts) = omega (arith, total-cons (b ∷ part) parts, total-cons part parts)

total-slice_split : (p : ℕ → Bool) (bytes : List ℕ) → total (slice_split p bytes) ≤ length bytes
total-slice_split p [] = omega (arith, total-cons [] [])
total-slice_split p (b ∷ bytes) =
    let rest = total-slice_split p bytes in
    elim (cases_Bool (p b)) [
      | inl ends ↦
          let cut = ap total (slice_split-cons_yes p b bytes ends) in
          omega (arith, cut, rest, total-cons [] (slice_split p bytes))
      | inr stays ↦
          let cut = ap total (slice_split-cons_no p b bytes stays) in
          omega (arith, cut, rest, total-onto_first b (slice_split p bytes))
    ]

total-words : (parts : List (List ℕ)) → total (filter is_word parts) ≤ total parts
total-words [] = omega arith
total-words ([] ∷ parts) = omega (arith, total-words parts, total-cons [] parts)
total-words ((b ∷ bs) ∷ parts) = omega (arith, total-words parts, total-cons (b ∷ bs) parts, total-cons (b ∷ bs) (filter is_word parts))

words_short : (line : List ℕ) → total (words line) ≤ length line
words_short line = omega (arith, total-words (slice_split (λ b. b == 32) line), total-slice_split (λ b. b == 32) line)

stripped_short : (line : List ℕ) → length (strip_carriage_return line) ≤ length line
stripped_short line = elim (cases_Bool (slice_index line (length line - 1) == 13)) [
  | inl cr ↦
      let shorter : strip_carriage_return line ≡ take (length line - 1) line = cond-true (slice_index line (length line - 1) == 13) _ _ cr in
      omega (arith, ap (length {A = ℕ}) shorter, length-take (length line - 1) line)
  | inr other ↦
      let same : strip_carriage_return line ≡ line = cond-false (slice_index line (length line - 1) == 13) _ _ other in
      omega (arith, ap (length {A = ℕ}) same)
]

total-lines : (parts : List (List ℕ)) → total (lines_of_parts parts) ≤ total parts
total-lines [] = omega arith
total-lines (part ∷ []) = elim (cases_Bool (length part == 0)) [
  | inl empty ↦
      let none : lines_of_parts (part ∷ []) ≡ [] = cond-true (length part == 0) [] (part ∷ []) empty in
      omega (arith, ap total none)
  | inr some ↦
      let same : lines_of_parts (part ∷ []) ≡ part ∷ [] = cond-false (length part == 0) [] (part ∷ []) some in
      omega (arith, ap total same)
]
total-lines (part ∷ next ∷ parts) =
    omega (arith, stripped_short part, total-lines (next ∷ parts), total-cons part (next ∷ parts), total-cons (strip_carriage_return part) (lines_of_parts (next ∷ parts)))

lines_short : (text : List ℕ) → total (lines text) ≤ length text
lines_short text = omega (arith, total-lines (slice_split (λ b. b == 10) text), total-slice_split (λ b. b == 10) text)

-- ---- a piece is shorter than its line

abbrev weight : Statement → ℕ
weight statement = length (piece_of statement.event)

hex_short : (most : ℕ) (hex : List (List ℕ)) (bytes : List ℕ) → IsHex most hex bytes → length bytes ≤ total hex
hex_short most hex bytes (inl none) = omega (arith, ap (length {A = ℕ}) none.1)
hex_short most hex bytes (inr word) =
    let long = (decode_of-ok word.0 bytes word.2.1).2 in
    omega (arith, long, ap total word.1, total-cons word.0 [])

piece_short : (its : List (List ℕ)) (event : Event) → IsStatement its event → length (piece_of event) ≤ total its
piece_short its (Apdu port apdu) h = omega arith
piece_short its (Reset port) h = omega arith
piece_short its (Load port (Begin metadata)) h = omega arith
piece_short its (Load port (Piece bytes)) h =
    let step = h.of_step in
    let load : total its ≡ total (codes "load" ∷ h.number ∷ h.more) = ap total h.words in
    let piece : total h.more ≡ total (codes "piece" ∷ step.0) = ap total step.1 in
    omega (
      arith,
      hex_short 1048576 step.0 bytes step.2,
      load,
      total-cons (codes "load") (h.number ∷ h.more),
      total-cons h.number h.more,
      piece,
      total-cons (codes "piece") step.0,
    )
piece_short its (Load port End) h = omega arith
piece_short its Power h = absurd h

-- the pieces of some items
abbrev weights : List Statement → ℕ
weights statements = sum_by (λ (statement : Statement). length (piece_of statement.event)) statements

weights-cons : (statement : Statement) (statements : List Statement) → weights (statement ∷ statements) ≡ weight statement + weights statements
weights-cons statement statements = sum_by-cons (λ (statement : Statement). length (piece_of statement.event)) statement statements

item_short : (set : LineSet) (number : ℕ) (line : List ℕ) (item : Item) (statements : List Statement) → Says set number (words line) item
    → weights (statement_in item ++ statements) ≤ length line + weights statements
item_short set number line (Stated statement) statements says =
    omega (arith, piece_short (words line) statement.event says.0.1, words_short line, weights-cons statement statements)
item_short set number line PhaseEnd statements says = omega arith
item_short set number line SectionEnd statements says = omega arith

items_short : (set : LineSet) (number : ℕ) (text : List (List ℕ)) (items : List Item) → HaveItems set number text items
    → weights (flat_map statement_in items) ≤ total text
items_short set number [] items h =
    let none : weights (flat_map statement_in items) ≡ 0 = ap (λ (is : List Item). weights (flat_map statement_in is)) h in
    omega arith
items_short set number (line ∷ more) items (inl passed) =
    omega (arith, items_short set (number + 1) more items passed.1, total-cons line more)
items_short set number (line ∷ more) items (inr said) =
    let rest = items_short set (number + 1) more said.1 said.4 in
    let one = item_short set number line said.0 (flat_map statement_in said.1) said.2 in
    let is : weights (flat_map statement_in items) ≡ weights (statement_in said.0 ++ flat_map statement_in said.1) =
    ap (λ (is : List Item). weights (flat_map statement_in is)) said.3 in
    omega (arith, rest, one, is, total-cons line more)

pub IsScript-pieces : (set : LineSet) (text : List ℕ) (script : Script) → IsScript set text script → script_piece_bytes script < 2 ^ 32
IsScript-pieces set text script read =
    let is : weights (statements_of script) ≡ weights (flat_map statement_in read.items) =
    ap weights (ap statements_of read.cut ∙ statements_of-script_of read.items) in
    omega (arith, is, items_short set 1 (lines text) read.items read.read, lines_short text, read.short)

-- ---- what a right answer says

pub ports-from_reads : (set : LineSet) (text : List ℕ) (r : Result (List Item) ScriptFault) → IsTextReading set text r
    → IfOk r (λ items. AllByRecursion NamesPort (statements_of (script_of items)))
ports-from_reads set text (Ok items) h = IsScript-ports set text (script_of items) h
ports-from_reads set text (Err e) h = tt

pub pieces-from_reads : (set : LineSet) (text : List ℕ) (r : Result (List Item) ScriptFault) → IsTextReading set text r
    → IfOk r (λ items. script_piece_bytes (script_of items) < 2 ^ 32)
pieces-from_reads set text (Ok items) h = IsScript-pieces set text (script_of items) h
pieces-from_reads set text (Err e) h = tt
