-- What the lines of a text say, and that they say nothing else.
use Rattle.std.proofs.Common.{◌≡◌, ℕ, ◌+◌, ◌≤◌, List, [], ◌∷◌, ◌++◌, length, Err, refl, sym, ap}
use Rattle.std.proofs.Common.{◌∙◌, subst, arith, inl, inr, add-zero, append_assoc, length-append}
use Rattle.std.specs.List.{fold}
use Rattle.std.specs.Str.Lines.{lines}
use Rattle.std.proofs.lemmas.List.{append-nil}
use Rattle.std.proofs.lemmas.List.Sums.{fold_push}
use Rattle.script_text.specs.Draft.{HasRoomIfStated, IsFull, IsNotAdded, OpenScript, empty_script}
use Rattle.script_text.specs.Draft.{finished, with_item}
use Rattle.script_text.specs.Line.{IsFaulty, Says}
use Rattle.script_text.specs.Readings.{IsLineReading, IsTextReading}
use Rattle.script_text.specs.Script.{HasFewStatements, HasFirstFault, HaveItems, IsScript}
use Rattle.script_text.specs.Script.{ReadsUpTo, script_of}
use Rattle.script_text.specs.Words.{IsPassedOver, words}
use Rattle.script_text.specs.declared.fault.ScriptFault.{ScriptFault}
use Rattle.script_text.specs.declared.fault.ScriptFault.TheVariants.{Bad, NoMemory}
use Rattle.script_text.specs.declared.fault.ScriptKind.{ScriptKind}
use Rattle.script_text.specs.declared.fault.ScriptKind.TheVariants.{Grammar, TooMany}
use Rattle.script_text.specs.Item.{Item}
use Rattle.script_text.specs.Item.Item.{Stated, PhaseEnd, SectionEnd}
use Rattle.script_text.specs.declared.line_set.LineSet.{LineSet}
use Rattle.card_core.specs.declared.script.Statement.{Statement}
use Rattle.script_text.proofs.CutLemmas.{script_of-fold}
use Rattle.script_text.proofs.FewLemmas.{few_with, many_with}
use Rattle.script_text.proofs.ItemLemmas.{Says-same, passed_or_said}

-- lines say no other items
pub HaveItems-same : (set : LineSet) (number : ℕ) (text : List (List ℕ)) (a b : List Item)
    → HaveItems set number text a → HaveItems set number text b → a ≡ b
HaveItems-same set number [] a b s t = s ∙ sym t
HaveItems-same set number (line ∷ more) a b (inl passed) (inl other) = HaveItems-same set (number + 1) more a b passed.1 other.1
HaveItems-same set number (line ∷ more) a b (inl passed) (inr said) =
    absurd (passed_or_said set number (words line) said.0 passed.0 said.2)
HaveItems-same set number (line ∷ more) a b (inr said) (inl passed) =
    absurd (passed_or_said set number (words line) said.0 passed.0 said.2)
HaveItems-same set number (line ∷ more) a b (inr said) (inr other) =
    let item : said.0 ≡ other.0 = Says-same set number (words line) said.0 other.0 said.2 other.2 in
    let rest : said.1 ≡ other.1 = HaveItems-same set (number + 1) more said.1 other.1 said.4 other.4 in
    said.3 ∙ ap (λ (i : Item). i ∷ said.1) item ∙ ap (λ (is : List Item). other.0 ∷ is) rest ∙ sym other.3

-- the items of a prefix of some lines and of the rest
pub record Parts (set : LineSet) (number : ℕ) (front back : List (List ℕ)) (items : List Item) : Type 0 where
  pub first : List Item
  pub second : List Item
  pub whole : items ≡ first ++ second
  pub of_first : HaveItems set number front first
  pub of_second : HaveItems set (number + length front) back second

pub HaveItems-parts : (set : LineSet) (number : ℕ) (front back : List (List ℕ)) (items : List Item)
    → HaveItems set number (front ++ back) items → Parts set number front back items
HaveItems-parts set number [] back items h = record {
  first = [];
  second = items;
  whole = refl;
  of_first = refl;
  of_second = subst (λ (n : ℕ). HaveItems set n back items) (sym (add-zero number)) h;
}
HaveItems-parts set number (line ∷ more) back items (inl passed) =
    let place : number + 1 + length more ≡ number + length (line ∷ more) = omega arith in
    let p = HaveItems-parts set (number + 1) more back items passed.1 in
    record {
      first = p.first;
      second = p.second;
      whole = p.whole;
      of_first = inl (passed.0, p.of_first);
      of_second = subst (λ (n : ℕ). HaveItems set n back p.second) place p.of_second;
    }
HaveItems-parts set number (line ∷ more) back items (inr said) =
    let place : number + 1 + length more ≡ number + length (line ∷ more) = omega arith in
    let p = HaveItems-parts set (number + 1) more back said.1 said.4 in
    record {
      first = said.0 ∷ p.first;
      second = p.second;
      whole = said.3 ∙ ap (λ (is : List Item). said.0 ∷ is) p.whole;
      of_first = inr (said.0, p.first, said.2, refl, p.of_first);
      of_second = subst (λ (n : ℕ). HaveItems set n back p.second) place p.of_second;
    }

-- the other way round
pub HaveItems-append : (set : LineSet) (number : ℕ) (front back : List (List ℕ)) (first second : List Item)
    → HaveItems set number front first → HaveItems set (number + length front) back second
    → HaveItems set number (front ++ back) (first ++ second)
HaveItems-append set number [] back first second h k =
    let moved : HaveItems set number back second = subst (λ (n : ℕ). HaveItems set n back second) (add-zero number) k in
    subst (λ (is : List Item). HaveItems set number back (is ++ second)) (sym h) moved
HaveItems-append set number (line ∷ more) back first second (inl passed) k =
    let place : number + length (line ∷ more) ≡ number + 1 + length more = omega arith in
    let moved : HaveItems set (number + 1 + length more) back second = subst (λ (n : ℕ). HaveItems set n back second) place k in
    inl (passed.0, HaveItems-append set (number + 1) more back first second passed.1 moved)
HaveItems-append set number (line ∷ more) back first second (inr said) k =
    let place : number + length (line ∷ more) ≡ number + 1 + length more = omega arith in
    let moved : HaveItems set (number + 1 + length more) back second = subst (λ (n : ℕ). HaveItems set n back second) place k in
    inr (
      said.0,
      said.1 ++ second,
      said.2,
      ap (λ (is : List Item). is ++ second) said.3,
      HaveItems-append set (number + 1) more back said.1 second said.4 moved,
    )

-- ---- a reader that has come so far

-- the lines up to `rest`, of which there are so many, come to this script so far
pub record ReadSoFar (set : LineSet) (text : List ℕ) (number : ℕ) (its : OpenScript) (rest : List (List ℕ)) : Type 0 where
  pub before : List (List ℕ)
  pub items : List Item
  pub parts : lines text ≡ before ++ rest
  pub counted : number ≡ length before
  pub read : HaveItems set 1 before items
  pub come_to : its ≡ fold with_item empty_script items
  pub few : HasFewStatements (finished its)

-- nothing is read yet
pub ReadSoFar-start : (set : LineSet) (text : List ℕ) → ReadSoFar set text 0 empty_script (lines text)
ReadSoFar-start set text =
    record { before = []; items = []; parts = refl; counted = refl; read = refl; come_to = refl; few = ((λ port. omega arith), tt) }

-- the lines and one more
longer : (text line : List ℕ) (before more : List (List ℕ)) → lines text ≡ before ++ line ∷ more → lines text ≡ (before ++ line ∷ []) ++ more
longer text line before more parts = parts ∙ sym (append_assoc before (line ∷ []) more)

-- a line is passed over
pub ReadSoFar-passed : (set : LineSet) (text : List ℕ) (number : ℕ) (its : OpenScript) (line : List ℕ) (more : List (List ℕ))
    → ReadSoFar set text number its (line ∷ more) → IsPassedOver (words line) → ReadSoFar set text (number + 1) its more
ReadSoFar-passed set text number its line more so_far passed =
    let before = so_far.before in
    let long = length-append before (line ∷ []) in
    let counted = so_far.counted in
    let read = HaveItems-append set 1 before (line ∷ []) so_far.items [] so_far.read (inl (passed, refl)) in
    record {
      before = before ++ line ∷ [];
      items = so_far.items;
      parts = longer text line before more so_far.parts;
      counted = omega arith;
      read = subst (λ (is : List Item). HaveItems set 1 (before ++ line ∷ []) is) (append-nil so_far.items) read;
      come_to = so_far.come_to;
      few = so_far.few;
    }

-- a line says something, for which there is room
pub ReadSoFar-said : (set : LineSet) (text : List ℕ) (number : ℕ) (its : OpenScript) (line : List ℕ) (item : Item) (more : List (List ℕ))
    → ReadSoFar set text number its (line ∷ more) → Says set (number + 1) (words line) item → HasRoomIfStated its item
    → ReadSoFar set text (number + 1) (with_item its item) more
ReadSoFar-said set text number its line item more so_far says room =
    let before = so_far.before in
    let items = so_far.items in
    let long = length-append before (line ∷ []) in
    let counted = so_far.counted in
    let place : number + 1 ≡ 1 + length before = omega arith in
    let here : Says set (1 + length before) (words line) item = subst (λ (n : ℕ). Says set n (words line) item) place says in
    record {
      before = before ++ line ∷ [];
      items = items ++ item ∷ [];
      parts = longer text line before more so_far.parts;
      counted = omega arith;
      read = HaveItems-append set 1 before (line ∷ []) items (item ∷ []) so_far.read (inr (item, [], here, refl, refl));
      come_to = ap (λ (o : OpenScript). with_item o item) so_far.come_to ∙ sym (fold_push with_item empty_script items item);
      few = few_with its item so_far.few room;
    }

-- what is read so far as a script
so_far_is : (set : LineSet) (text : List ℕ) (number : ℕ) (its : OpenScript) (rest : List (List ℕ)) (so_far : ReadSoFar set text number its rest)
    → finished its ≡ script_of so_far.items
so_far_is set text number its rest so_far = ap finished so_far.come_to ∙ sym (script_of-fold so_far.items)

-- all lines are read
pub IsScript-read : (set : LineSet) (text : List ℕ) (number : ℕ) (its : OpenScript) → length text ≤ 8388608
    → ReadSoFar set text number its [] → IsScript set text (finished its)
IsScript-read set text number its short so_far =
    let all : so_far.before ≡ lines text = sym (so_far.parts ∙ append-nil so_far.before) in
    record {
      items = so_far.items;
      short = short;
      read = subst (λ (ls : List (List ℕ)). HaveItems set 1 ls so_far.items) all so_far.read;
      cut = so_far_is set text number its [] so_far;
      few = so_far.few;
    }

-- the next line is the first at fault
next_line : (set : LineSet) (text : List ℕ) (number : ℕ) (its : OpenScript) (line : List ℕ) (more : List (List ℕ)) → length text ≤ 8388608
    → (so_far : ReadSoFar set text number its (line ∷ more)) → ReadsUpTo set text (number + 1) so_far.items line
next_line set text number its line more short so_far = record {
  before = so_far.before;
  after = more;
  short = short;
  parts = so_far.parts;
  counted = ap (λ (n : ℕ). n + 1) so_far.counted;
  read = so_far.read;
  few = subst HasFewStatements (so_far_is set text number its (line ∷ more) so_far) so_far.few;
}

pub HasFirstFault-grammar : (set : LineSet) (text : List ℕ) (number : ℕ) (its : OpenScript) (line : List ℕ) (more : List (List ℕ))
    → length text ≤ 8388608 → ReadSoFar set text number its (line ∷ more) → IsFaulty set (number + 1) (words line)
    → HasFirstFault set text (number + 1) Grammar
HasFirstFault-grammar set text number its line more short so_far faulty =
    (so_far.items, line, next_line set text number its line more short so_far, faulty)

pub HasFirstFault-many : (set : LineSet) (text : List ℕ) (number : ℕ) (its : OpenScript) (line : List ℕ) (statement : Statement) (more : List (List ℕ))
    → length text ≤ 8388608 → ReadSoFar set text number its (line ∷ more) → Says set (number + 1) (words line) (Stated statement)
    → IsFull its statement → HasFirstFault set text (number + 1) TooMany
HasFirstFault-many set text number its line statement more short so_far says full =
    let items = so_far.items in
    let is : script_of (items ++ Stated statement ∷ []) ≡ finished (with_item its (Stated statement)) =
    script_of-fold (items ++ Stated statement ∷ [])
    ∙ ap finished (fold_push with_item empty_script items (Stated statement) ∙ ap (λ (o : OpenScript). with_item o (Stated statement)) (sym so_far.come_to)) in
    (items, line, Stated statement, next_line set text number its line more short so_far, says, λ few. many_with its statement full (subst HasFewStatements is few))

-- ---- what the reader returns at a fault

-- the fault of a line is the first one of the text
pub line_fault : (set : LineSet) (text : List ℕ) (number : ℕ) (its : OpenScript) (line : List ℕ) (more : List (List ℕ))
    → length text ≤ 8388608 → ReadSoFar set text number its (line ∷ more) → (fault : ScriptFault)
    → IsLineReading set (number + 1) (words line) (Err fault) → IsTextReading set text (Err fault)
line_fault set text number its line more short so_far (Bad place kind) h =
    let first = HasFirstFault-grammar set text number its line more short so_far h.2 in
    subst (λ (k : ScriptKind). HasFirstFault set text place k) (sym h.1)
    (subst (λ (n : ℕ). HasFirstFault set text n Grammar) (sym h.0) first)
line_fault set text number its line more short so_far NoMemory h = tt

-- so is that of an item for which there is no room
pub room_fault : (set : LineSet) (text : List ℕ) (number : ℕ) (its : OpenScript) (line : List ℕ) (more : List (List ℕ))
    → length text ≤ 8388608 → ReadSoFar set text number its (line ∷ more) → (item : Item) → Says set (number + 1) (words line) item
    → (fault : ScriptFault) → IsNotAdded its item fault → IsTextReading set text (Err fault)
room_fault set text number its line more short so_far (Stated statement) says (Bad place kind) h =
    let first = HasFirstFault-many set text number its line statement more short so_far says h.2 in
    subst (λ (k : ScriptKind). HasFirstFault set text place k) (sym h.1)
    (subst (λ (n : ℕ). HasFirstFault set text n TooMany) (sym (h.0 ∙ says.0.0)) first)
room_fault set text number its line more short so_far (Stated statement) says NoMemory h = tt
room_fault set text number its line more short so_far PhaseEnd says (Bad place kind) h = absurd h
room_fault set text number its line more short so_far PhaseEnd says NoMemory h = tt
room_fault set text number its line more short so_far SectionEnd says (Bad place kind) h = absurd h
room_fault set text number its line more short so_far SectionEnd says NoMemory h = tt
