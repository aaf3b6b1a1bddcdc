use Rattle.std.proofs.Common.{◌≡◌, ◌≤◌, ◌+◌, ◌-◌, ◌*◌, ◌/◌, ℕ, Bool, true, false, cond, ◌||◌, List}
use Rattle.std.proofs.Common.{[], ◌∷◌, length, map, Contains, refl, sym, ◌∙◌, ap, subst, ⊎_elim}
use Rattle.std.proofs.Common.{Option, Some, None, IfSome, arith}
use Rattle.std.proofs.Math.Nat.{mul-div_cancel}
use Rattle.std.proofs.lemmas.Bool.Decides.{nat_tests}
use Rattle.std.proofs.lemmas.Nat.{le-div}
use Rattle.std.specs.List.{AllByRecursion}
use Rattle.std.specs.Prelude.{◌==◌, nat_lt}
use Rattle.file_rows.proofs.FilesLemmas.{formed_of}
use Rattle.file_rows.proofs.ListLemmas.{contains_cases}
use Rattle.file_rows.specs.FileHead.{HasForm, HasRecord, HoldsRecords, IsFile, has_records}
use Rattle.file_rows.specs.FileHead.{is_cyclic}
use Rattle.file_rows.specs.declared.head.FileHead.{FileHead}
use Rattle.file_rows.specs.declared.head.Kind.{Kind}
use Rattle.file_rows.specs.declared.head.Kind.TheVariants.{Master, Directory, Application}
use Rattle.file_rows.specs.declared.head.Kind.TheVariants.{Transparent, Linear, Cyclic}
use Rattle.file_rows.specs.declared.row.FileRow.{FileRow}
use Rattle.uicc_tree.proofs.GivesLemmas.{nothing_there}
use Rattle.uicc_tree.specs.Change.{AreRows, IsRow}
use Rattle.uicc_tree.specs.Files.{Files, IsLive, file_of, rows_of}
use Rattle.uicc_data.specs.RecordWalk.{HoldsWholeRecords, IsPointerIn, next_record, previous_record}
use Rattle.uicc_data.specs.RecordWalk.{record_count, record_in, number_named, record_numbered}
use Rattle.uicc_data.specs.declared.walk.RecordName.{RecordName}
use Rattle.uicc_data.specs.declared.walk.RecordName.TheVariants.{Next, Previous, Absolute, Current}

-- what holds of each file holds of that of a node
at_node : (P : FileRow → Type 0) (f : ℕ → FileRow) (nodes : List ℕ) (node : ℕ) → AllByRecursion P (map f nodes) → Contains nodes node → P (f node)
at_node P f [] node each there = absurd (omega (arith, there.1))
at_node P f (n ∷ nodes) node each there =
    ⊎_elim (λ e. subst (λ (k : ℕ). P (f k)) e each.0) (λ later. at_node P f nodes node each.1 later) (contains_cases n nodes node there)

-- the file of a node has the form of one
pub live_is_row : (tree : Files) (node : ℕ) → AreRows (rows_of tree) → IsLive tree node → IsRow (file_of tree node)
live_is_row tree node either live =
    ⊎_elim
    (λ files.
    let is : IsFile (file_of tree node).head × (length (file_of tree node).body ≡ (file_of tree node).head.size) =
    at_node (λ row. IsFile row.head × (length row.body ≡ row.head.size)) (file_of tree) tree.nodes node (formed_of (rows_of tree) files) live in
    record { file = is.0; body = is.1 })
    (λ none. absurd (nothing_there (file_of tree) tree.nodes node none live))
    either

-- a file of a kind that has records holds them
record_form : (kind : Kind) (head : FileHead) → has_records kind ≡ true → HasForm kind head → HoldsRecords head
record_form Master head has form = absurd (cc)
record_form Directory head has form = absurd (cc)
record_form Application head has form = absurd (cc)
record_form Transparent head has form = absurd (cc)
record_form Linear head has form = form
record_form Cyclic head has form = form

-- and they are its body
pub whole_records : (row : FileRow) → IsRow row → has_records row.head.kind ≡ true → HoldsWholeRecords row
whole_records row is has =
    let form : HoldsRecords row.head = record_form row.head.kind row.head has is.file.form in
    let count : record_count row.head ≡ form.records.0 =
    ap (λ (size : ℕ). size / row.head.record_len) form.records.3 ∙ mul-div_cancel form.records.0 {n = row.head.record_len} (omega (arith, form.shortest)) in
    record {
      some = form.shortest;
      first = rw count form.records.1;
      last = rw count form.records.2;
      size = rw count (sym form.records.3);
      body = is.body;
    }

-- a number up to the count is that of a record, and the number of a record is up to the count
pub has_record : (row : FileRow) (number : ℕ) → HoldsWholeRecords row → 1 ≤ number → number ≤ record_count row.head → HasRecord row.head number
has_record row number whole first last = record {
  first = first;
  record_len = whole.some;
  last =
      let wide : number * row.head.record_len ≤ record_count row.head * row.head.record_len = grind arith in
      omega (arith, wide, whole.size);
}

pub up_to_count : (row : FileRow) (number : ℕ) → HasRecord row.head number → number ≤ record_count row.head
up_to_count row number has = le-div number row.head.size row.head.record_len (omega (arith, has.record_len)) has.last

pointer_up_to : (row : FileRow) (pointer : ℕ) → IsPointerIn row.head pointer → pointer ≤ record_count row.head
pointer_up_to row pointer is = ⊎_elim (λ none. omega (arith, none)) (λ has. up_to_count row pointer has) is

abbrev pub IsUpTo : ℕ → ℕ → Type 0
IsUpTo count number = (1 ≤ number) × (number ≤ count)

next_up_to : (goes_round : Bool) (count pointer : ℕ) → 1 ≤ count → IfSome (next_record goes_round count pointer) (IsUpTo count)
next_up_to goes_round count pointer some = either (nat_lt pointer count) goes_round refl
  where
    either : (before goes : Bool) → nat_lt pointer count ≡ before → IfSome (cond before (Some (pointer + 1)) (cond goes (Some 1) None)) (IsUpTo count)
    either true goes is = (omega arith, grind (arith, nat_tests))
    either false true is = (omega arith, some)
    either false false is = tt

previous_up_to : (goes_round : Bool) (count pointer : ℕ) → 1 ≤ count → pointer ≤ count → IfSome (previous_record goes_round count pointer) (IsUpTo count)
previous_up_to goes_round count pointer some within = either (nat_lt 1 pointer) (goes_round || (pointer == 0)) refl
  where
    either : (after goes : Bool) → nat_lt 1 pointer ≡ after → IfSome (cond after (Some (pointer - 1)) (cond goes (Some count) None)) (IsUpTo count)
    either true goes is = (grind (arith, nat_tests), omega arith)
    either false true is = (some, omega arith)
    either false false is = tt

numbered_up_to : (count number : ℕ) → IfSome (record_numbered count number) (IsUpTo count)
numbered_up_to count number = either (number == 0) (nat_lt count number) refl refl
  where
    either : (none past : Bool) → (number == 0) ≡ none → nat_lt count number ≡ past → IfSome (cond (none || past) None (Some number)) (IsUpTo count)
    either true past is goes = tt
    either false true is goes = tt
    either false false is goes = (grind (arith, nat_tests), grind (arith, nat_tests))

named_up_to : (goes_round : Bool) (count pointer : ℕ) (name : RecordName) → 1 ≤ count → pointer ≤ count → IfSome (number_named goes_round count pointer name) (IsUpTo count)
named_up_to goes_round count pointer Next some within = next_up_to goes_round count pointer some
named_up_to goes_round count pointer Previous some within = previous_up_to goes_round count pointer some within
named_up_to goes_round count pointer (Absolute number) some within = numbered_up_to count number
named_up_to goes_round count pointer Current some within = numbered_up_to count pointer

-- the record that a command names is one of the file
pub record_there : (row : FileRow) (pointer : ℕ) (name : RecordName) → HoldsWholeRecords row → IsPointerIn row.head pointer → IfSome (record_in row.head pointer name) (HasRecord row.head)
record_there row pointer name whole is =
    each (record_in row.head pointer name) (named_up_to (is_cyclic row.head.kind) (record_count row.head) pointer name whole.first (pointer_up_to row pointer is))
  where
    each : (o : Option ℕ) → IfSome o (IsUpTo (record_count row.head)) → IfSome o (HasRecord row.head)
    each None up = tt
    each (Some number) up = has_record row number whole up.0 up.1

-- a cyclic file has a first record
pub cyclic_has : (kind : Kind) → is_cyclic kind ≡ true → has_records kind ≡ true
cyclic_has Master e = absurd (cc)
cyclic_has Directory e = absurd (cc)
cyclic_has Application e = absurd (cc)
cyclic_has Transparent e = absurd (cc)
cyclic_has Linear e = refl
cyclic_has Cyclic e = refl

pub first_record : (row : FileRow) → IsRow row → is_cyclic row.head.kind ≡ true → HoldsWholeRecords row × HasRecord row.head 1
first_record row is goes =
    let whole : HoldsWholeRecords row = whole_records row is (cyclic_has row.head.kind goes) in
    (whole, has_record row 1 whole (omega arith) whole.first)
