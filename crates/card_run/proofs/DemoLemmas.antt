use Rattle.std.proofs.Common.{◌≡◌, ℕ, zero, suc, ◌+◌, ◌<◌, ◌≤◌, List, [], ◌∷◌, ◌++◌, map, length}
use Rattle.std.proofs.Common.{take, drop, get_or, Option, Some, refl, sym, ◌∙◌, ap, subst, arith}
use Rattle.std.proofs.Common.{append_assoc, add-zero, length-append}
use Rattle.std.proofs.KnownBytes.{Appends-nil, Appends-trans}
use Rattle.std.proofs.lemmas.List.{append-nil, length-map, map-append, take-append-drop}
use Rattle.std.proofs.lemmas.List.{take-append-le, take_all, take_more}
use Rattle.std.proofs.lemmas.List.Concat.{flat_map-append}
use Rattle.std.proofs.lemmas.Option.{get_or_from_slice_get}
use Rattle.std.specs.Io.KnownBytes.{Appends}
use Rattle.std.specs.List.{flat_map, slice_get}
use Rattle.apdu_codec.specs.declared.answers.Answer.{Answer}
use Rattle.card_core.specs.Text.{entry_text, log_text}
use Rattle.card_core.specs.declared.entry.Entry.{Entry}
use Rattle.card_core.specs.declared.script.Statement.{Statement}
use Rattle.profile_card.specs.Card.{Card}
use Rattle.profile_card.specs.CardState.{CardState, card_of}
use Rattle.profile_card.specs.Sample.{sample_card}
use Rattle.profile_card.specs.Step.{AnswersWith, Runs, RunsTo}
use Rattle.profile_card.proofs.RunLemmas.{RunsTo-prefix, RunsTo-more}
use Rattle.script_text.specs.Item.{Item}
use Rattle.script_text.specs.Item.Item.{Stated}
use Rattle.script_text.specs.Ports.{statements_of}
use Rattle.script_text.specs.Script.{script_of, statement_in}
use Rattle.script_text.proofs.FactLemmas.{statements_of-script_of}
use Rattle.card_run.specs.Demo.{IsRun, WritesPrefix, answer_entry, answer_log, command_of}
use Rattle.card_run.specs.Demo.{demo_text}

-- the commands of statements
abbrev pub commands_of : List Statement → List (List ℕ)
commands_of statements = map (λ statement. command_of statement.event) statements

-- the text of answers, the first of which has this number
abbrev pub text_from : ℕ → List Answer → List ℕ
text_from number answers = log_text (answer_log number answers)

-- the card has answered these statements, and the text of its answers is written but for what is gathered
pub record RunSoFar (statements : List Statement) (card : CardState) (before now : Option (List ℕ)) (gathered : List ℕ) : Type 0 where
  pub answers : List Answer
  pub run : RunsTo sample_card (commands_of statements) answers (card_of card)
  pub written : List ℕ
  pub appended : Appends before now written
  pub text : demo_text answers ≡ written ++ gathered

-- ---- lists

-- a prefix that ends within the second of three parts
prefix_of : (xs ys zs : List ℕ) (m n : ℕ) → m ≡ length xs + n → n ≤ length ys → xs ++ take n ys ≡ take m ((xs ++ ys) ++ zs)
prefix_of [] ys zs m n e within = let same : m ≡ n = omega arith in rw same (sym (take-append-le n ys zs within))
prefix_of (x ∷ xs) ys zs zero n e within = absurd (omega arith)
prefix_of (x ∷ xs) ys zs (suc m) n e within = ap (λ (zs : List ℕ). x ∷ zs) (prefix_of xs ys zs m n (omega arith) within)

-- ---- the text

answer_log-append : (xs ys : List Answer) (number : ℕ) → answer_log number (xs ++ ys) ≡ answer_log number xs ++ answer_log (number + length xs) ys
answer_log-append [] ys number = ap (λ (n : ℕ). answer_log n ys) (sym (add-zero number))
answer_log-append (x ∷ xs) ys number =
    let rest = answer_log-append xs ys (number + 1) in
    let numbers : number + 1 + length xs ≡ number + length (x ∷ xs) = omega arith in
    ap (λ (log : List Entry). answer_entry number x ∷ log) (rest ∙ ap (λ (n : ℕ). answer_log (number + 1) xs ++ answer_log n ys) numbers)

-- the text of more answers is that of the first, and then the rest
text_from-append : (xs ys : List Answer) (number : ℕ) → text_from number (xs ++ ys) ≡ text_from number xs ++ text_from (number + length xs) ys
text_from-append xs ys number =
    ap log_text (answer_log-append xs ys number)
    ∙ flat_map-append entry_text (answer_log number xs) (answer_log (number + length xs) ys)

one_line : (number : ℕ) (answer : Answer) → text_from number (answer ∷ []) ≡ entry_text (answer_entry number answer)
one_line number answer = append-nil (entry_text (answer_entry number answer))

-- as many answers as commands
length-answers : (commands : List (List ℕ)) (card after : Card) (answers : List Answer) → RunsTo card commands answers after → length answers ≡ length commands
length-answers [] card after [] run = refl
length-answers [] card after (x ∷ answers) run = absurd run
length-answers (c ∷ commands) card after [] run = absurd run
length-answers (c ∷ commands) card after (x ∷ answers) run = ap suc (length-answers commands run.0 after answers run.2)

-- ---- the run so far

pub start : (before : Option (List ℕ)) (card : CardState) → card_of card ≡ sample_card → RunSoFar [] card before before []
start before card e = record { answers = []; run = e; written = []; appended = Appends-nil before; text = refl }

-- one more statement is answered, and its line gathered
answered_one : (before : List Statement) (number : ℕ) (statement : Statement) (bytes : List ℕ) (card next : CardState) (begun now : Option (List ℕ)) (block longer : List ℕ) (answer : Answer)
    → RunSoFar before card begun now block → number ≡ length before → bytes ≡ command_of statement.event
    → AnswersWith (card_of card) bytes answer (card_of next) → longer ≡ block ++ entry_text (answer_entry (number + 1) answer)
    → RunSoFar (before ++ statement ∷ []) next begun now longer
answered_one before number statement bytes card next begun now block longer answer so_far counted sent reply added =
    let given : AnswersWith (card_of card) (command_of statement.event) answer (card_of next) =
    subst (λ (bs : List ℕ). AnswersWith (card_of card) bs answer (card_of next)) sent reply in
    let line : longer ≡ block ++ entry_text (answer_entry (length before + 1) answer) =
    added ∙ ap (λ (n : ℕ). block ++ entry_text (answer_entry (n + 1) answer)) counted in
    let command = command_of statement.event in
    let commands : commands_of (before ++ statement ∷ []) ≡ commands_of before ++ command ∷ [] =
    map-append (λ (s : Statement). command_of s.event) before (statement ∷ []) in
    let count : length so_far.answers ≡ length before =
    length-answers _ _ _ _ so_far.run ∙ length-map before (λ (s : Statement). command_of s.event) in
    let place : 1 + length so_far.answers ≡ length before + 1 = omega arith in
    record {
      answers = so_far.answers ++ answer ∷ [];
      run = subst (λ (commands : List (List ℕ)). RunsTo sample_card commands (so_far.answers ++ answer ∷ []) (card_of next)) (sym commands) (RunsTo-more _ _ (card_of card) (card_of next) so_far.answers command answer so_far.run given);
      written = so_far.written;
      appended = so_far.appended;
      text =
          text_from-append so_far.answers (answer ∷ []) 1
          ∙ (ap (λ (n : ℕ). demo_text so_far.answers ++ text_from n (answer ∷ [])) place
          ∙ (ap (λ (text : List ℕ). demo_text so_far.answers ++ text) (one_line (length before + 1) answer)
          ∙ (ap (λ (text : List ℕ). text ++ entry_text (answer_entry (length before + 1) answer)) so_far.text
          ∙ (append_assoc so_far.written block (entry_text (answer_entry (length before + 1) answer)) ∙ ap (λ (text : List ℕ). so_far.written ++ text) (sym line)))));
    }

-- ---- the items so far

-- the statements of the first items
abbrev pub statements_before : ℕ → List Item → List Statement
statements_before index items = flat_map statement_in (take index items)

-- those of one item more
statements_more : (items : List Item) (index : ℕ) (item : Item) → index < length items → slice_get items index ≡ Some item
    → statements_before (index + 1) items ≡ statements_before index items ++ statement_in item
statements_more items index item within is =
    let here : item ≡ get_or items index item = sym (get_or_from_slice_get items index item item is) in
    let more : take (index + 1) items ≡ take index items ++ item ∷ [] =
    take_more items index item within ∙ ap (λ (i : Item). take index items ++ i ∷ []) (sym here) in
    ap (flat_map statement_in) more
    ∙ (flat_map-append statement_in (take index items) (item ∷ [])
    ∙ ap (λ (ss : List Statement). statements_before index items ++ ss) (append-nil (statement_in item)))

-- the first statements, and those that are left
pub statements_left : List Item → ℕ → List Statement
statements_left items index = flat_map statement_in (drop index items)

statements_parted : (items : List Item) (index : ℕ) → statements_before index items ++ statements_left items index ≡ statements_of (script_of items)
unfolding statements_left
statements_parted items index =
    sym (flat_map-append statement_in (take index items) (drop index items))
    ∙ (ap (flat_map statement_in) (take-append-drop index items) ∙ sym (statements_of-script_of items))

-- so there are at most as many as in the script
pub statements_few : (items : List Item) (index : ℕ) → length (statements_of (script_of items)) ≤ 20000 → length (statements_before index items) ≤ 20000
statements_few items index few =
    let parts = ap length (statements_parted items index) in
    let long = length-append (statements_before index items) (statements_left items index) in
    omega arith

-- all of them, at the end
pub statements_all : (items : List Item) (index : ℕ) → length items ≤ index → statements_before index items ≡ statements_of (script_of items)
statements_all items index over = ap (flat_map statement_in) (take_all index items over) ∙ sym (statements_of-script_of items)

-- an item that is no statement is passed
pub passed : (items : List Item) (index : ℕ) (item : Item) (card : CardState) (before now : Option (List ℕ)) (block : List ℕ)
    → index < length items → slice_get items index ≡ Some item → statement_in item ≡ []
    → RunSoFar (statements_before index items) card before now block → RunSoFar (statements_before (index + 1) items) card before now block
passed items index item card before now block within is none so_far =
    let same : statements_before (index + 1) items ≡ statements_before index items =
    statements_more items index item within is
    ∙ (ap (λ (ss : List Statement). statements_before index items ++ ss) none ∙ append-nil (statements_before index items)) in
    subst (λ (ss : List Statement). RunSoFar ss card before now block) (sym same) so_far

-- a statement is answered, and its line gathered
pub answered : (items : List Item) (index number : ℕ) (statement : Statement) (bytes : List ℕ) (card next : CardState) (before now : Option (List ℕ)) (block longer : List ℕ) (answer : Answer)
    → RunSoFar (statements_before index items) card before now block → number ≡ length (statements_before index items)
    → slice_get items index ≡ Some (Stated statement) → bytes ≡ command_of statement.event → index < length items
    → AnswersWith (card_of card) bytes answer (card_of next) → longer ≡ block ++ entry_text (answer_entry (number + 1) answer)
    → RunSoFar (statements_before (index + 1) items) next before now longer
answered items index number statement bytes card next before now block longer answer so_far counted is sent within reply added =
    subst (λ (ss : List Statement). RunSoFar ss next before now longer) (sym (statements_more items index (Stated statement) within is))
    (answered_one (statements_before index items) number statement bytes card next before now block longer answer so_far counted sent reply added)

-- and counted
pub counted_more : (items : List Item) (index number : ℕ) (statement : Statement) → index < length items → slice_get items index ≡ Some (Stated statement)
    → number ≡ length (statements_before index items) → number + 1 ≡ length (statements_before (index + 1) items)
counted_more items index number statement within is counted =
    let more = ap length (statements_more items index (Stated statement) within is) in
    let long = length-append (statements_before index items) (statement ∷ []) in
    omega arith

pub counted_same : (items : List Item) (index number : ℕ) (item : Item) → index < length items → slice_get items index ≡ Some item → statement_in item ≡ []
    → number ≡ length (statements_before index items) → number ≡ length (statements_before (index + 1) items)
counted_same items index number item within is none counted =
    let more = ap length (statements_more items index item within is) in
    let long = length-append (statements_before index items) (statement_in item) in
    let empty = ap length none in
    omega arith

-- a prefix of what was gathered is written, and the rest stays gathered
pub moved : (statements : List Statement) (card : CardState) (before now new : Option (List ℕ)) (block piece rest : List ℕ) → RunSoFar statements card before now block → Appends now new piece → block ≡ piece ++ rest → RunSoFar statements card before new rest
moved statements card before now new block piece rest so_far more parts =
    record {
      answers = so_far.answers;
      run = so_far.run;
      written = so_far.written ++ piece;
      appended = Appends-trans before now new so_far.written piece so_far.appended more;
      text = so_far.text ∙ (ap (λ (block : List ℕ). so_far.written ++ block) parts ∙ sym (append_assoc so_far.written piece rest));
    }

-- all is answered and written
pub finished : (script : List Statement) (card : CardState) (before now new : Option (List ℕ)) (block : List ℕ) → RunSoFar script card before now block → Appends now new block
    → (answers : List Answer) × IsRun script answers × Appends before new (demo_text answers)
finished script card before now new block so_far more =
    (so_far.answers, (card_of card, so_far.run), subst (Appends before new) (sym so_far.text) (Appends-trans before now new so_far.written block so_far.appended more))

-- a prefix of what was gathered is written, which is a prefix of the text
stopped_before : (before rest : List Statement) (card : CardState) (begun now new : Option (List ℕ)) (block : List ℕ) (n : ℕ) (answers : List Answer)
    → RunSoFar before card begun now block → Appends now new (take n block) → n ≤ length block → IsRun (before ++ rest) answers → WritesPrefix begun new (demo_text answers)
stopped_before before rest card begun now new block n answers so_far more within run =
    let commands : commands_of (before ++ rest) ≡ commands_of before ++ commands_of rest = map-append (λ (s : Statement). command_of s.event) before rest in
    let later = RunsTo-prefix (commands_of before) (commands_of rest) sample_card (card_of card) so_far.answers answers so_far.run (subst (λ (commands : List (List ℕ)). Runs sample_card commands answers) commands run) in
    let text : demo_text answers ≡ (so_far.written ++ block) ++ text_from (1 + length so_far.answers) later.0 =
    ap demo_text later.1 ∙ (text_from-append so_far.answers later.0 1 ∙ ap (λ (text : List ℕ). text ++ text_from (1 + length so_far.answers) later.0) so_far.text) in
    let written : so_far.written ++ take n block ≡ take (length so_far.written + n) (demo_text answers) = rw text (prefix_of so_far.written block (text_from (1 + length so_far.answers) later.0) (length so_far.written + n) n refl within) in
    (length so_far.written + n, subst (Appends begun new) written (Appends-trans begun now new so_far.written (take n block) so_far.appended more))

pub stopped : (items : List Item) (index : ℕ) (card : CardState) (before now new : Option (List ℕ)) (block : List ℕ) (n : ℕ) (answers : List Answer)
    → RunSoFar (statements_before index items) card before now block → Appends now new (take n block) → n ≤ length block
    → IsRun (statements_of (script_of items)) answers → WritesPrefix before new (demo_text answers)
stopped items index card before now new block n answers so_far more within run =
    let parted : IsRun (statements_before index items ++ statements_left items index) answers =
    subst (λ (ss : List Statement). IsRun ss answers) (sym (statements_parted items index)) run in
    stopped_before (statements_before index items) (statements_left items index) card before now new block n answers so_far more within parted
