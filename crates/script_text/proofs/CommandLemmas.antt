-- A script of commands at port 1 alone isn't cut.
use Rattle.std.proofs.Common.{◌≡◌, ℕ, ◌+◌, ◌≤◌, ◌==◌, Bool, true, false, cond, List, [], ◌∷◌, map}
use Rattle.std.proofs.Common.{length, IsTrue, refl, sym, ap, ◌∙◌, subst, arith, inl, inr}
use Rattle.std.specs.Prelude.{count_by}
use Rattle.std.specs.List.{AllByRecursion, flat_map, onto_first, slice_split}
use Rattle.std.specs.Option.{option_map_or}
use Rattle.std.specs.Str.Lines.{lines}
use Rattle.std.proofs.lemmas.Bool.{false≢true}
use Rattle.std.proofs.lemmas.List.Splits.{slice_split-cons_no}
use Rattle.std.proofs.lemmas.List.Sums.{sum_by-cons}
use Rattle.card_core.specs.declared.event.Event.{Event}
use Rattle.card_core.specs.declared.event.Event.TheVariants.{Apdu, Reset, Load, Power}
use Rattle.card_core.specs.declared.script.Script.{Script}
use Rattle.card_core.specs.declared.script.Section.{Section}
use Rattle.card_core.specs.declared.script.Statement.{Statement}
use Rattle.script_text.specs.Commands.{AreCommandsAt, IsCommandScript, uncut_script}
use Rattle.script_text.specs.Line.{is_admitted, is_command_at}
use Rattle.script_text.specs.Ports.{statements_of}
use Rattle.script_text.specs.Script.{HasFewStatements, HaveItems, IsScript, event_port, is_at}
use Rattle.script_text.specs.Script.{is_phase_end, is_section_end, phase_of, script_of, section_of}
use Rattle.script_text.specs.Script.{statement_in}
use Rattle.script_text.specs.Item.{Item}
use Rattle.script_text.specs.Item.Item.{Stated, PhaseEnd, SectionEnd}
use Rattle.script_text.specs.declared.line_set.LineSet.TheVariants.{PortOne}
use Rattle.script_text.proofs.DraftLemmas.{count_at-phases, one_at}
use Rattle.script_text.proofs.FactLemmas.{statements_of-script_of}

-- each item is a command at port 1
abbrev AreCommandItems : List Item → Type 0
AreCommandItems items = AllByRecursion (λ item. IsTrue (is_admitted PortOne item)) items

said_are_commands : (number : ℕ) (text : List (List ℕ)) (items : List Item) → HaveItems PortOne number text items → AreCommandItems items
said_are_commands number [] items h = subst AreCommandItems (sym h) tt
said_are_commands number (line ∷ more) items (inl passed) = said_are_commands (number + 1) more items passed.1
said_are_commands number (line ∷ more) items (inr said) =
    let rest = said_are_commands (number + 1) more said.1 said.4 in
    subst AreCommandItems (sym said.3) (said.2.1, rest)

-- ---- nothing is cut

-- a list none of whose elements passes is one part
one_part : (p : Item → Bool) (items : List Item) → AllByRecursion (λ item. p item ≡ false) items → slice_split p items ≡ items ∷ []
one_part p [] none = refl
one_part p (item ∷ items) none =
    slice_split-cons_no p item items none.0 ∙ ap (λ (parts : List (List Item)). onto_first item parts) (one_part p items none.1)

no_section_end : (items : List Item) → AreCommandItems items → AllByRecursion (λ item. is_section_end item ≡ false) items
no_section_end [] each = tt
no_section_end (Stated statement ∷ items) each = (refl, no_section_end items each.1)
no_section_end (PhaseEnd ∷ items) each = absurd (false≢true each.0)
no_section_end (SectionEnd ∷ items) each = absurd (false≢true each.0)

no_phase_end : (items : List Item) → AreCommandItems items → AllByRecursion (λ item. is_phase_end item ≡ false) items
no_phase_end [] each = tt
no_phase_end (Stated statement ∷ items) each = (refl, no_phase_end items each.1)
no_phase_end (PhaseEnd ∷ items) each = absurd (false≢true each.0)
no_phase_end (SectionEnd ∷ items) each = absurd (false≢true each.0)

abbrev section_in : List (List Item) → Section
section_in parts = record { phases = map phase_of parts }

abbrev script_in : List (List Item) → Script
script_in parts = record { sections = map section_of parts }

abbrev one_section : List (List Item) → Script
one_section parts = record { sections = section_in parts ∷ [] }

script_of-commands : (items : List Item) → AreCommandItems items → script_of items ≡ uncut_script (flat_map statement_in items)
script_of-commands items each =
    let sections : script_of items ≡ one_section (slice_split is_phase_end items) = ap script_in (one_part is_section_end items (no_section_end items each)) in
    let phases : one_section (slice_split is_phase_end items) ≡ uncut_script (flat_map statement_in items) =
    ap one_section (one_part is_phase_end items (no_phase_end items each)) in
    sections ∙ phases

-- ---- its statements

commands_of : (items : List Item) → AreCommandItems items → AreCommandsAt 1 (flat_map statement_in items)
commands_of [] each = tt
commands_of (Stated statement ∷ items) each = (each.0, commands_of items each.1)
commands_of (PhaseEnd ∷ items) each = absurd (false≢true each.0)
commands_of (SectionEnd ∷ items) each = absurd (false≢true each.0)

at_port : (port : ℕ) (event : Event) → IsTrue (is_command_at port event) → option_map_or (λ its. its == port) (event_port event) false ≡ true
at_port port (Apdu its apdu) h = h
at_port port (Reset its) h = absurd (false≢true h)
at_port port (Load its step) h = absurd (false≢true h)
at_port port Power h = absurd (false≢true h)

-- all of them are counted at port 1
count-commands : (statements : List Statement) → AreCommandsAt 1 statements → count_by (is_at 1) statements ≡ length statements
count-commands [] each = refl
count-commands (statement ∷ statements) each =
    let here = one_at 1 statement (at_port 1 statement.event each.0) in
    let more = sum_by-cons (λ (s : Statement). cond (is_at 1 s) 1 0) statement statements in
    let rest = count-commands statements each.1 in
    omega (arith, here, more, rest)

few-commands : (statements : List Statement) → AreCommandsAt 1 statements → HasFewStatements (uncut_script statements) → length statements ≤ 20000
few-commands statements each few =
    let counted = count_at-phases 1 [] statements in
    let all = count-commands statements each in
    let most = few.0 1 in
    omega (arith, counted, all, most)

pub IsScript-commands : (text : List ℕ) (script : Script) → IsScript PortOne text script → IsCommandScript script
IsScript-commands text script read =
    let items = said_are_commands 1 (lines text) read.items read.read in
    let statements = flat_map statement_in read.items in
    let is : statements_of script ≡ statements = ap statements_of read.cut ∙ statements_of-script_of read.items in
    let whole : script ≡ uncut_script statements = read.cut ∙ script_of-commands read.items items in
    let commands = commands_of read.items items in
    let few = few-commands statements commands (subst HasFewStatements whole read.few) in
    record {
      whole = whole ∙ ap uncut_script (sym is);
      few = subst (λ (ss : List Statement). length ss ≤ 20000) (sym is) few;
      commands = subst (AreCommandsAt 1) (sym is) commands;
    }
