-- What RESIZE FILE comes to.
use Rattle.std.proofs.Common.{◌≡◌, ◌≢◌, inl, inr, ℕ, ◌+◌, ◌/◌, ◌≤◌, ◌&&◌, option_map, arith, Bool}
use Rattle.std.proofs.Common.{true, false, cond, not, List, refl, sym, ◌∙◌, ap, subst, Option, Some}
use Rattle.std.proofs.Common.{None}
use Rattle.std.proofs.lemmas.Bool.{leb-true}
use Rattle.std.specs.Prelude.{◌==◌, nat_lt}
use Rattle.std.proofs.Common.{length}
use Rattle.apdu_codec.specs.Command.{Apdu}
use Rattle.apdu_codec.specs.declared.status.Sw.{Sw}
use Rattle.apdu_codec.specs.declared.status.TheConstants.Sw.{FILE_NOT_FOUND, NOT_ENOUGH_SPACE, OK}
use Rattle.apdu_codec.specs.declared.status.TheConstants.Sw.{WRONG_DATA}
use Rattle.file_rows.proofs.ChangeLemmas.{others}
use Rattle.file_rows.proofs.ConditionLemmas.{fits_where}
use Rattle.file_rows.proofs.EditLemmas.{is_some_and, system_of}
use Rattle.file_rows.specs.Content.{IsFileSystem, IsValid, file_at, use_of}
use Rattle.file_rows.specs.FileHead.{IsFile, is_cyclic, is_linear}
use Rattle.file_rows.specs.Path.{same_path}
use Rattle.file_rows.specs.declared.change.Change.TheVariants.{FileSize}
use Rattle.file_rows.specs.declared.content.Content.{Content}
use Rattle.file_rows.specs.declared.content.TheConstants.{QUOTA}
use Rattle.file_rows.specs.declared.mode.Mode.{Mode}
use Rattle.file_rows.specs.declared.row.FileRow.{FileRow}
use Rattle.uicc_channels.proofs.AmongLemmas.{IsAmong, found_head}
use Rattle.uicc_channels.proofs.RowLemmas.{decided-has}
use Rattle.uicc_channels.specs.CarriesOut.{CanCarryOut, content_after}
use Rattle.uicc_channels.specs.CommandOutcome.{CommandOutcome, refused}
use Rattle.uicc_channels.specs.CommandRow.{CommandRow, decided, refusal_of}
use Rattle.uicc_channels.specs.Needs.{Needs, needs_of}
use Rattle.uicc_channels.specs.Session.{Suits, channel_at, open_channel}
use Rattle.uicc_channels.specs.SessionChange.{is_current, with_end, within_end}
use Rattle.uicc_channels.specs.declared.chan.Chan.{Chan}
use Rattle.uicc_channels.specs.declared.session.Session.{Session}
use Rattle.uicc_channels.specs.declared.session_change.NewEnd.{NewEnd}
use Rattle.uicc_admin.proofs.NamedLemmas.{ef_in_found}
use Rattle.uicc_admin.proofs.ResizeLemmas.{Suits-sized, channel_at-with_end, file_of_size}
use Rattle.uicc_admin.proofs.ResizeLemmas.{up_to_end}
use Rattle.uicc_admin.proofs.RowLemmas.{at_file-has, done_there}
use Rattle.uicc_admin.proofs.StateLemmas.{CanCarryOut-refused}
use Rattle.uicc_admin.specs.FileWork.{FileWork, at_file}
use Rattle.uicc_admin.specs.NamedFile.{ef_in, has_no_parameters}
use Rattle.uicc_admin.specs.Resize.{is_within_quota, may_have_size, new_end, resize_asked}
use Rattle.uicc_admin.specs.Resize.{resize_row, resizing, size_asked}
use Rattle.uicc_admin.specs.Pointers.{KeepsAllButPointer}
use Rattle.uicc_admin.specs.declared.resize.NewSize.{NewSize}

-- a row needs at first what these needs say
pub record BeginsAs (row : CommandRow) (needs : Needs) : Type 0 where
  pub channel : row.needs.channel ≡ needs.channel
  pub instruction : row.needs.instruction ≡ needs.instruction
  pub class : row.needs.class ≡ needs.class
  pub parameters : row.needs.parameters ≡ needs.parameters

at_file_begins : (needs : Needs) (session : Session) (allowed : List ℕ → Mode → Bool) (not_there : Sw) (work : FileRow → FileWork) (file : Option FileRow)
    → BeginsAs (at_file needs session allowed not_there work file) needs
at_file_begins needs session allowed not_there work None = record { channel = refl; instruction = refl; class = refl; parameters = refl }
at_file_begins needs session allowed not_there work (Some row) = record { channel = refl; instruction = refl; class = refl; parameters = refl }

abbrev pub needs_of_resize : Session → Apdu → Needs
needs_of_resize session c = record (needs_of session c) { parameters = has_no_parameters c; lengths = not (length c.body == 0) }

module _ (rows : List FileRow) (allowed : List ℕ → Mode → Bool) (session : Session) (c : Apdu) where
  asked_begins : (asked : Option NewSize) → BeginsAs (resize_asked rows allowed session c (needs_of_resize session c) asked) (needs_of_resize session c)
  asked_begins None = record { channel = refl; instruction = refl; class = refl; parameters = refl }
  asked_begins (Some asked) =
      at_file_begins (needs_of_resize session c) session allowed FILE_NOT_FOUND (resizing rows session asked.size) (ef_in rows (open_channel session c.channel).dir asked.id)

  pub resize_begins : BeginsAs (resize_row rows allowed session c) (needs_of_resize session c)
  resize_begins = asked_begins (size_asked c.body)

module _ (P : CommandOutcome → Type 0) (rows : List FileRow) (allowed : List ℕ → Mode → Bool) (session : Session) (c : Apdu) (where_refused : (sw : Sw) → P (refused session sw)) where
  asked-has : (asked : Option NewSize)
      → ((size : NewSize) → asked ≡ Some size → (row : FileRow) → ef_in rows (open_channel session c.channel).dir size.id ≡ Some row → is_cyclic row.head.kind ≡ false
      → (resizing rows session size.size row).own ≡ None → P (resizing rows session size.size row).done)
      → P (decided session (resize_asked rows allowed session c (needs_of_resize session c) asked))
  asked-has None holds = decided-has P session (resize_asked rows allowed session c (needs_of_resize session c) None) (λ sw said. where_refused sw) (λ none. where_refused OK)
  asked-has (Some size) holds =
      at_file-has P session where_refused (needs_of_resize session c) allowed FILE_NOT_FOUND (resizing rows session size.size) (ef_in rows (open_channel session c.channel).dir size.id)
      (λ row is channel kind own. holds size refl row is (not_cyclic (is_cyclic row.head.kind) kind) own)
    where
      not_cyclic : (b : Bool) → not b ≡ true → b ≡ false
      not_cyclic true e = sym e
      not_cyclic false e = refl

  -- a RESIZE FILE refuses, or gives an EF of the card another size
  pub resize-has : ((size : NewSize) → size_asked c.body ≡ Some size → (row : FileRow) → ef_in rows (open_channel session c.channel).dir size.id ≡ Some row → is_cyclic row.head.kind ≡ false
      → (resizing rows session size.size row).own ≡ None → P (resizing rows session size.size row).done) → P (decided session (resize_row rows allowed session c))
  resize-has holds = asked-has (size_asked c.body) holds

-- what holds of a size that isn't refused
size_taken : (may room : Bool) → cond (not may) (Some WRONG_DATA) (cond (not room) (Some NOT_ENOUGH_SPACE) None) ≡ None → (may ≡ true) × (room ≡ true)
size_taken true true e = (refl, refl)
size_taken true false e = absurd (cc)
size_taken false room e = absurd (cc)

module _ (content : Content) (valid : IsValid content) (session : Session) (suits : Suits session content.rows) (allowed : List ℕ → Mode → Bool) (c : Apdu) where
  file_there : (row : FileRow) → IsAmong content.rows row → IsFile row.head
  file_there row among =
      let system : IsFileSystem content = system_of content valid row.head.path row among in
      found_head IsFile (λ (x : FileRow). same_path x.head.path row.head.path) content.rows row system.files.each among

  pub CanCarryOut-resize : CanCarryOut content (decided session (resize_row content.rows allowed session c))
  CanCarryOut-resize =
      resize-has (CanCarryOut content) content.rows allowed session c (CanCarryOut-refused content valid session suits allowed c)
      (λ size asked row is linear own.
      let found = ef_in_found content.rows (open_channel session c.channel).dir size.id row is in
      let taken = size_taken (may_have_size row.head size.size) (is_within_quota content.rows row.head size.size) own in
      let room : use_of content.rows + size.size ≤ 65536 + row.head.size = leb-true (use_of content.rows + size.size) (65536 + row.head.size) taken.1 in
      record {
        change = (fits_where content (FileSize row.head.path size.size) valid).1
            (is_some_and (file_at row.head.path content.rows) (λ row. IsFile (record row.head { size = size.size }) × (use_of content.rows + size.size ≤ QUOTA + row.head.size)) row found.0
            (file_of_size row.head size.size (file_there row found.0) found.1 taken.0, room));
        session = Suits-sized content.rows row size.size session found.0 (file_there row found.0) found.1 linear suits;
      })

-- another file than the one that is named is as it was
pub other_files-resize : (content : Content) (allowed : List ℕ → Mode → Bool) (session : Session) (c : Apdu) (asked : NewSize) (row : FileRow) (path : List ℕ) → size_asked c.body ≡ Some asked
    → ef_in content.rows (open_channel session c.channel).dir asked.id ≡ Some row → path ≢ row.head.path
    → file_at path (content_after content (decided session (resize_row content.rows allowed session c)).change).rows ≡ file_at path content.rows
other_files-resize content allowed session c asked row path said is apart =
    resize-has (λ (outcome : CommandOutcome). file_at path (content_after content outcome.change).rows ≡ file_at path content.rows) content.rows allowed session c (λ sw. refl)
    (λ size also found at linear own.
    let same : size ≡ asked = cc in
    let there : ef_in content.rows (open_channel session c.channel).dir asked.id ≡ Some found = ap (λ (x : NewSize). ef_in content.rows (open_channel session c.channel).dir x.id) (sym same) ∙ at in
    let one : found ≡ row = cc in
    others content (FileSize found.head.path size.size) path (λ e. apart (sym e ∙ ap (λ (x : FileRow). x.head.path) one)))

-- a channel after a new end, where there is one
stays_but_pointer : (session : Session) (end : Option NewEnd) (number : ℕ) (chan : Chan) → channel_at session number ≡ Some chan → KeepsAllButPointer chan (channel_at (with_end session end) number)
stays_but_pointer session None number chan is = (chan.pointer, is, inl refl)
stays_but_pointer session (Some end) number chan is =
    subst (KeepsAllButPointer chan) (sym (channel_at-with_end session end number ∙ ap (option_map (within_end end)) is)) (either (is_current chan.file end.path && nat_lt end.records chan.pointer))
  where
    either : (b : Bool) → KeepsAllButPointer chan (Some (cond b (record chan { pointer = 0 }) chan))
    either true = (0, refl, inr refl)
    either false = (chan.pointer, refl, inl refl)

pub channels-resize : (rows : List FileRow) (allowed : List ℕ → Mode → Bool) (session : Session) (c : Apdu) (number : ℕ) (chan : Chan) → channel_at session number ≡ Some chan
    → KeepsAllButPointer chan (channel_at (decided session (resize_row rows allowed session c)).session number)
channels-resize rows allowed session c number chan is =
    resize-has (λ (outcome : CommandOutcome). KeepsAllButPointer chan (channel_at outcome.session number)) rows allowed session c (λ sw. (chan.pointer, is, inl refl))
    (λ size asked row named linear own. stays_but_pointer session (new_end row.head size.size) number chan is)

asked_done : (rows : List FileRow) (allowed : List ℕ → Mode → Bool) (session : Session) (c : Apdu) (asked : NewSize) (row : FileRow) (o : Option NewSize) → o ≡ Some asked
    → ef_in rows (open_channel session c.channel).dir asked.id ≡ Some row → refusal_of (resize_asked rows allowed session c (needs_of_resize session c) o) ≡ None
    → decided session (resize_asked rows allowed session c (needs_of_resize session c) o) ≡ (resizing rows session asked.size row).done
asked_done rows allowed session c asked row None e is accepted = absurd (cc)
asked_done rows allowed session c asked row (Some x) e is accepted =
    let same : x ≡ asked = cc in
    done_there session (needs_of_resize session c) allowed FILE_NOT_FOUND (resizing rows session x.size) (ef_in rows (open_channel session c.channel).dir x.id) row
    (ap (λ (y : NewSize). ef_in rows (open_channel session c.channel).dir y.id) same ∙ is) accepted
    ∙ ap (λ (y : NewSize). (resizing rows session y.size row).done) same

within_place : (end : NewEnd) (place : Option Chan) (chan : Chan) → option_map (within_end end) place ≡ Some chan → chan.file ≡ Some end.path → chan.pointer ≤ end.records
within_place end None chan e is = absurd (cc)
within_place end (Some before) chan e is = either (is_current before.file end.path && nat_lt end.records before.pointer) refl e
  where
    either : (b : Bool) → (is_current before.file end.path && nat_lt end.records before.pointer) ≡ b → Some (cond b (record before { pointer = 0 }) before) ≡ Some chan → chan.pointer ≤ end.records
    either true past f =
        let same : record before { pointer = 0 } ≡ chan = cc in
        let none : 0 ≡ chan.pointer = ap (λ (x : Chan). x.pointer) same in
        omega (arith, none)
    either false left f =
        let same : before ≡ chan = cc in
        subst (λ (x : Chan). x.pointer ≤ end.records) same (up_to_end before end (ap (λ (x : Chan). x.file) same ∙ is) left)

-- no channel has a record pointer past the new end
pub pointers-resize : (rows : List FileRow) (allowed : List ℕ → Mode → Bool) (session : Session) (c : Apdu) (asked : NewSize) (row : FileRow) (number : ℕ) (chan : Chan) → size_asked c.body ≡ Some asked
    → ef_in rows (open_channel session c.channel).dir asked.id ≡ Some row → is_linear row.head.kind ≡ true → refusal_of (resize_row rows allowed session c) ≡ None
    → channel_at (decided session (resize_row rows allowed session c)).session number ≡ Some chan → chan.file ≡ Some row.head.path → chan.pointer ≤ asked.size / row.head.record_len
pointers-resize rows allowed session c asked row number chan said named linear accepted at is =
    let end : NewEnd = record { path = row.head.path; records = asked.size / row.head.record_len } in
    let done = asked_done rows allowed session c asked row (size_asked c.body) said named accepted in
    let ended : new_end row.head asked.size ≡ Some end = rw linear refl in
    let after : option_map (within_end end) (channel_at session number) ≡ Some chan =
    sym (channel_at-with_end session end number) ∙ (ap (λ (o : Option NewEnd). channel_at (with_end session o) number) (sym ended)
    ∙ (ap (λ (outcome : CommandOutcome). channel_at outcome.session number) (sym done) ∙ at)) in
    within_place end (channel_at session number) chan after is
