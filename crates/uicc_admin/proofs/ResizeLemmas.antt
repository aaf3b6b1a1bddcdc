-- RESIZE FILE: the file may have its new size, and the channels stand among the files afterwards.
use Rattle.std.proofs.Common.{◌≡◌, ◌≢◌, ℕ, ◌+◌, ◌*◌, ◌/◌, ◌%◌, ◌<◌, ◌≤◌, Bool, true, false, cond}
use Rattle.std.proofs.Common.{◌&&◌, List, refl, sym, ◌∙◌, ap, subst, inl, inr, ⊎_elim, Option, Some}
use Rattle.std.proofs.Common.{None, IfSome, IsSome, IsSomeAnd, option_map, arith, zero, suc}
use Rattle.std.proofs.Math.ListN.{get_or-map}
use Rattle.std.proofs.Math.Nat.{div-mul-le_self, div-zero, lt-div-mul-add, mul-le-mul_right}
use Rattle.std.proofs.lemmas.Bool.{eqb-true, leb-true, ltb-false, true≢false}
use Rattle.std.proofs.lemmas.List.{length-map}
use Rattle.std.proofs.lemmas.Slice.Eq.{bytes_eq-Decides}
use Rattle.std.specs.Option.{option_and_then}
use Rattle.std.specs.Prelude.{◌==◌, nat_le, nat_lt}
use Rattle.apdu_codec.specs.Class.{is_within}
use Rattle.file_rows.proofs.ChangeLemmas.{file_at-with_file}
use Rattle.file_rows.proofs.EditLemmas.{is_some_and, some_is}
use Rattle.file_rows.proofs.FormLemmas.{records_of}
use Rattle.file_rows.proofs.PathLemmas.{both_hold}
use Rattle.file_rows.specs.Change.{with_file, with_size}
use Rattle.file_rows.specs.Content.{file_at}
use Rattle.file_rows.specs.FileHead.{HasForm, HasRecord, HoldsRecords, IsFile, IsTransparent}
use Rattle.file_rows.specs.FileHead.{holds_files, is_cyclic, is_linear, is_transparent}
use Rattle.file_rows.specs.Path.{same_path}
use Rattle.file_rows.specs.declared.head.FileHead.{FileHead}
use Rattle.file_rows.specs.declared.head.Kind.{Kind}
use Rattle.file_rows.specs.declared.head.Kind.TheVariants.{Master, Directory, Application}
use Rattle.file_rows.specs.declared.head.Kind.TheVariants.{Transparent, Linear, Cyclic}
use Rattle.file_rows.specs.declared.row.FileRow.{FileRow}
use Rattle.uicc_channels.specs.Chan.{StandsAmong}
use Rattle.uicc_channels.specs.Session.{Suits, channel_at}
use Rattle.uicc_channels.specs.SessionChange.{is_current, with_end, within_end}
use Rattle.uicc_channels.specs.declared.chan.Chan.{Chan}
use Rattle.uicc_channels.specs.declared.session.Session.{Session}
use Rattle.uicc_channels.specs.declared.session_change.NewEnd.{NewEnd}
use Rattle.uicc_admin.proofs.SuitsLemmas.{StandsAmong-edited, edited_at}
use Rattle.uicc_admin.specs.Resize.{may_have_size, new_end}

-- a number of records that isn't too small or large
pub record AreRecords (size record_len : ℕ) : Type 0 where
  pub whole : size % record_len ≡ 0
  pub first : 1 ≤ size / record_len
  pub last : size / record_len ≤ 254

pub within_is : (first last n : ℕ) → is_within first last n ≡ true → (first ≤ n) × (n ≤ last)
within_is first last n e =
    let both = both_hold (nat_le first n) (nat_le n last) e in
    (leb-true first n both.0, leb-true n last both.1)

pub are_records : (size record_len : ℕ) → ((size % record_len == 0) && is_within 1 254 (size / record_len)) ≡ true → AreRecords size record_len
are_records size record_len e =
    let both = both_hold (size % record_len == 0) (is_within 1 254 (size / record_len)) e in
    let within = within_is 1 254 (size / record_len) both.1 in
    record { whole = eqb-true (size % record_len) 0 both.0; first = within.0; last = within.1 }

-- records of no length are none
pub has_length : (size record_len : ℕ) → AreRecords size record_len → 1 ≤ record_len
has_length size record_len are = either record_len refl
  where
    either : (n : ℕ) → record_len ≡ n → 1 ≤ n
    either zero e =
        let none : size / record_len ≡ 0 = rw e (div-zero size) in
        absurd (omega (arith, are.first, none))
    either (suc n) e = omega arith

-- and few records of a byte's length are few bytes
pub few_bytes : (size record_len : ℕ) → record_len < 256 → AreRecords size record_len → size < 65536
few_bytes size record_len short are =
    let most : size / record_len * record_len ≤ 254 * record_len = mul-le-mul_right record_len are.last in
    let below : size < size / record_len * record_len + record_len = lt-div-mul-add (has_length size record_len are) in
    omega (arith, most, below, short)

-- a file of records in whole records has the form of its kind
records_form : (head : FileHead) (size : ℕ) → HoldsRecords head → AreRecords size head.record_len → HoldsRecords (record head { size = size })
records_form head size form are = record {
  path = form.path;
  name = form.name;
  sfi = form.sfi;
  shortest = form.shortest;
  longest = form.longest;
  records = records_of size head.record_len form.shortest are.whole are.first are.last;
}

transparent_form : (head : FileHead) (size : ℕ) → IsTransparent head → (1 ≤ size) × (size ≤ 65504) → IsTransparent (record head { size = size })
transparent_form head size form fits = record {
  path = form.path;
  name = form.name;
  sfi = form.sfi;
  record_len = form.record_len;
  smallest = fits.0;
  largest = fits.1;
}

form_of_size : (head : FileHead) (size : ℕ) (kind : Kind) → holds_files kind ≡ false → HasForm kind head
    → cond (is_transparent kind) (is_within 1 65504 size) ((size % head.record_len == 0) && is_within 1 254 (size / head.record_len)) ≡ true → HasForm kind (record head { size = size })
form_of_size head size Master bare form may = absurd (true≢false bare)
form_of_size head size Directory bare form may = absurd (true≢false bare)
form_of_size head size Application bare form may = absurd (true≢false bare)
form_of_size head size Transparent bare form may = transparent_form head size form (within_is 1 65504 size may)
form_of_size head size Linear bare form may = records_form head size form (are_records size head.record_len may)
form_of_size head size Cyclic bare form may = records_form head size form (are_records size head.record_len may)

-- an EF is a file with a size that it may have
pub file_of_size : (head : FileHead) (size : ℕ) → IsFile head → holds_files head.kind ≡ false → may_have_size head size ≡ true → IsFile (record head { size = size })
file_of_size head size file bare may = record { depth = file.depth; form = form_of_size head size head.kind bare file.form may }

-- each channel is so after a new end
pub channel_at-with_end : (session : Session) (end : NewEnd) (number : ℕ) → channel_at (with_end session (Some end)) number ≡ option_map (within_end end) (channel_at session number)
channel_at-with_end session end number = get_or-map (option_map (within_end end)) session.channels number None

-- the file is a channel's current one
pub current_is : (file : Option (List ℕ)) (path : List ℕ) → file ≡ Some path → is_current file path ≡ true
current_is None path e = absurd (cc)
current_is (Some file) path e = let is : file ≡ path = cc in (bytes_eq-Decides file path).1 is

-- a pointer that isn't past the end is at most the last record
pub up_to_end : (chan : Chan) (end : NewEnd) → chan.file ≡ Some end.path → (is_current chan.file end.path && nat_lt end.records chan.pointer) ≡ false → chan.pointer ≤ end.records
up_to_end chan end is left =
    let not_past : nat_lt end.records chan.pointer ≡ false = rw (← left, current_is chan.file end.path is) refl in
    ltb-false end.records chan.pointer not_past

module _ (path : List ℕ) (size : ℕ) (rows : List FileRow) (row : FileRow) (at : file_at path rows ≡ Some row) where
  abbrev pub sized_rows : List FileRow
  sized_rows = with_file path (with_size size) rows

  -- a record that is left of the file is one of it
  abbrev KeepsRecord : ℕ → Type 0
  KeepsRecord pointer = HasRecord row.head pointer → HasRecord (with_size size row).head pointer

  pointer_at : (file : List ℕ) (pointer : ℕ) → (file ≡ path → KeepsRecord pointer) → (b : Bool) → same_path file path ≡ b → IsSomeAnd (file_at file rows) (λ row. HasRecord row.head pointer)
      → IsSomeAnd (file_at file sized_rows) (λ row. HasRecord row.head pointer)
  pointer_at file pointer keeps true same there =
      let is : file ≡ path = (bytes_eq-Decides file path).0 same in
      let found = some_is (file_at file rows) (λ row. HasRecord row.head pointer) there in
      let here : file_at file rows ≡ Some row = ap (λ (p : List ℕ). file_at p rows) is ∙ at in
      let is_row : found.0 ≡ row = cc (found.1, here) in
      is_some_and (file_at file sized_rows) (λ row. HasRecord row.head pointer) (with_size size row)
      (ap (λ (p : List ℕ). file_at p sized_rows) is ∙ edited_at path (with_size size) (λ row. refl) (λ row. refl) rows row at)
      (keeps is (subst (λ (x : FileRow). HasRecord x.head pointer) is_row found.2))
  pointer_at file pointer keeps false same there =
      let apart : path ≢ file = λ e. true≢false (sym ((bytes_eq-Decides file path).1 (sym e)) ∙ same) in
      rw (file_at-with_file path file (with_size size) (λ row. refl) apart rows) there

  pointer_kept : (file : Option (List ℕ)) (pointer : ℕ) → (file ≡ Some path → KeepsRecord pointer) → IsSomeAnd (option_and_then (λ path. file_at path rows) file) (λ row. HasRecord row.head pointer)
      → IsSomeAnd (option_and_then (λ path. file_at path sized_rows) file) (λ row. HasRecord row.head pointer)
  pointer_kept None pointer keeps there = there
  pointer_kept (Some file) pointer keeps there =
      pointer_at file pointer (λ is. keeps (ap (λ (p : List ℕ). Some p) is)) (same_path file path) refl there

  -- a channel whose record is left stands among the files
  StandsAmong-sized : (chan : Chan) → StandsAmong rows chan → (chan.file ≡ Some path → KeepsRecord chan.pointer) → StandsAmong sized_rows chan
  StandsAmong-sized chan stands keeps =
      StandsAmong-edited path (with_size size) (λ row. refl) (λ row. refl) rows chan stands
      (⊎_elim (λ none. inl none) (λ there. inr (pointer_kept chan.file chan.pointer keeps there)) stands.pointer)

  no_pointer : (chan : Chan) → StandsAmong rows chan → StandsAmong rows (record chan { pointer = 0 })
  no_pointer chan stands = record { app = stands.app; dir = stands.dir; file = stands.file; pointer = inl refl }

  -- a record up to the last is left
  up_to_last : (pointer : ℕ) → pointer ≤ size / row.head.record_len → KeepsRecord pointer
  up_to_last pointer most has = record {
    first = has.first;
    record_len = has.record_len;
    last = grind (arith, div-mul-le_self size row.head.record_len, most);
  }

  abbrev records_end : NewEnd
  records_end = record { path = path; records = size / row.head.record_len }

  within : (chan : Chan) → StandsAmong rows chan → (b : Bool) → (is_current chan.file path && nat_lt (size / row.head.record_len) chan.pointer) ≡ b
      → StandsAmong sized_rows (cond b (record chan { pointer = 0 }) chan)
  within chan stands true past = StandsAmong-sized (record chan { pointer = 0 }) (no_pointer chan stands) (λ is has. absurd (omega (arith, has.first)))
  within chan stands false left =
      StandsAmong-sized chan stands
      (λ is. up_to_last chan.pointer (up_to_end chan records_end is left))

  place_within : (place : Option Chan) → IfSome place (StandsAmong rows) → IfSome (option_map (within_end records_end) place) (StandsAmong sized_rows)
  place_within None stands = tt
  place_within (Some chan) stands = within chan stands (is_current chan.file path && nat_lt (size / row.head.record_len) chan.pointer) refl

  opened : (place : Option Chan) → IsSome place → IsSome (option_map (within_end records_end) place)
  opened None is_open = is_open
  opened (Some chan) is_open = refl

  Suits-records : (session : Session) → Suits session rows → Suits (with_end session (Some records_end)) sized_rows
  Suits-records session suits = record {
    places = length-map session.channels (option_map (within_end records_end)) ∙ suits.places;
    basic = rw (channel_at-with_end session records_end 0) (opened (channel_at session 0) suits.basic);
    each = λ number. rw (channel_at-with_end session records_end number) (place_within (channel_at session number) (suits.each number));
  }

  place_bytes : row.head.record_len ≡ 0 → (place : Option Chan) → IfSome place (StandsAmong rows) → IfSome place (StandsAmong sized_rows)
  place_bytes none None stands = tt
  place_bytes none (Some chan) stands = StandsAmong-sized chan stands (λ is has. absurd (omega (arith, none, has.record_len)))

  Suits-bytes : (session : Session) → row.head.record_len ≡ 0 → Suits session rows → Suits session sized_rows
  Suits-bytes session none suits = record {
    places = suits.places;
    basic = suits.basic;
    each = λ number. place_bytes none (channel_at session number) (suits.each number);
  }

  by_kind : (session : Session) → Suits session rows → (kind : Kind) → HasForm kind row.head → holds_files kind ≡ false → is_cyclic kind ≡ false
      → Suits (with_end session (cond (is_linear kind) (Some records_end) None)) sized_rows
  by_kind session suits Master form bare linear = absurd (true≢false bare)
  by_kind session suits Directory form bare linear = absurd (true≢false bare)
  by_kind session suits Application form bare linear = absurd (true≢false bare)
  by_kind session suits Transparent form bare linear = Suits-bytes session form.record_len suits
  by_kind session suits Linear form bare linear = Suits-records session suits
  by_kind session suits Cyclic form bare linear = absurd (true≢false linear)

-- the session goes on to suit the files with another size of one
pub Suits-sized : (rows : List FileRow) (row : FileRow) (size : ℕ) (session : Session) → file_at row.head.path rows ≡ Some row → IsFile row.head → holds_files row.head.kind ≡ false
    → is_cyclic row.head.kind ≡ false → Suits session rows → Suits (with_end session (new_end row.head size)) (with_file row.head.path (with_size size) rows)
Suits-sized rows row size session at file bare linear suits = by_kind row.head.path size rows row at session suits row.head.kind file.form bare linear
