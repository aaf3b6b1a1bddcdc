-- What is written is read back.
use Rattle.std.proofs.Common.{◌≡◌, ◌≤◌, ◌+◌, ℕ, Bool, true, false, cond, ◌&&◌, List, [], ◌∷◌, ◌++◌}
use Rattle.std.proofs.Common.{length, append_assoc, length-take-le, take, drop, find, refl, sym}
use Rattle.std.proofs.Common.{◌∙◌, ap, subst, Option, Some, None, arith}
use Rattle.std.proofs.Math.Seq.{drop-append_seam, take-append_seam}
use Rattle.std.specs.Option.{unwrap_or}
use Rattle.std.specs.Prelude.{◌==◌}
use Rattle.apdu_codec.specs.Command.{Apdu}
use Rattle.apdu_codec.specs.declared.status.Sw.{Sw}
use Rattle.file_rows.proofs.ChangeLemmas.{same_path-refl}
use Rattle.file_rows.specs.Change.{changed, with_body, written}
use Rattle.file_rows.specs.Content.{IsValid}
use Rattle.file_rows.specs.Find.{child_with_sfi}
use Rattle.file_rows.specs.Path.{is_in, same_path}
use Rattle.file_rows.specs.declared.change.Change.{Change}
use Rattle.file_rows.specs.declared.change.Change.TheVariants.{WriteRange}
use Rattle.file_rows.specs.declared.content.Content.{Content}
use Rattle.file_rows.specs.declared.head.FileHead.{FileHead}
use Rattle.file_rows.specs.declared.mode.Mode.{Mode}
use Rattle.file_rows.specs.declared.row.FileRow.{FileRow}
use Rattle.uicc_channels.proofs.AmongLemmas.{IsAmong}
use Rattle.uicc_channels.proofs.SessionLemmas.{channel_at-with_channel_same}
use Rattle.uicc_channels.specs.CommandOutcome.{CommandOutcome, refused}
use Rattle.uicc_channels.specs.CommandRow.{CommandRow, decided, refusal_of, refused_or}
use Rattle.uicc_channels.specs.Session.{IsOpen, open_channel}
use Rattle.uicc_channels.specs.declared.chan.Chan.{Chan}
use Rattle.uicc_channels.specs.declared.session.Session.{Session}
use Rattle.uicc_data.proofs.BinaryLemmas.{inside_body}
use Rattle.uicc_data.proofs.CarryLemmas.{apart_rows}
use Rattle.uicc_data.proofs.RowLemmas.{named-has, on_file-has}
use Rattle.uicc_data.proofs.SearchLemmas.{within}
use Rattle.uicc_data.proofs.SuitsLemmas.{named_among, same_head, written_rows}
use Rattle.uicc_data.specs.Binary.{binary_place, read_binary_row, reading, update_binary_row}
use Rattle.uicc_data.specs.Binary.{write_refusal, writing}
use Rattle.uicc_data.specs.FileReference.{file_named, not_there, pointer_at, standing_on, using}
use Rattle.uicc_data.specs.FileUse.{needs_of_reading, needs_of_writing, on_file, on_named}
use Rattle.uicc_data.specs.FileUse.{where_named}
use Rattle.uicc_data.specs.ReadBack.{ReadsBack, read_outcome, update_outcome}
use Rattle.uicc_data.specs.declared.binary.BinaryPlace.{BinaryPlace}
use Rattle.uicc_data.specs.declared.reference.FileReference.{FileReference}
use Rattle.uicc_data.specs.declared.reference.FileReference.TheVariants.{CurrentEf, Sfi}

-- the bytes stand at their offset
pub bytes_back : (body : List ℕ) (offset : ℕ) (bytes : List ℕ) → offset + length bytes ≤ length body → take (length bytes) (drop offset (written offset bytes body)) ≡ bytes
bytes_back body offset bytes inside =
    let front : length (take offset body) ≡ offset = length-take-le offset body (omega (arith, inside)) in
    let rest : drop offset (written offset bytes body) ≡ bytes ++ drop (offset + length bytes) body =
    ap (λ (xs : List ℕ). drop offset xs) (append_assoc (take offset body) bytes (drop (offset + length bytes) body))
    ∙ subst (λ (n : ℕ). drop n (take offset body ++ (bytes ++ drop (offset + length bytes) body)) ≡ bytes ++ drop (offset + length bytes) body) front
    (drop-append_seam (take offset body) (bytes ++ drop (offset + length bytes) body)) in
    rw rest (take-append_seam bytes (drop (offset + length bytes) body))

module _ (write : List ℕ → List ℕ) where
  -- a search by heads finds the same file, with its other body
  found_written : (test : FileHead → Bool) (rows : List FileRow) (row : FileRow) → find (λ r. test r.head) rows ≡ Some row
      → find (λ r. test r.head) (written_rows row.head.path write rows) ≡ Some (with_body write row)
  found_written test [] row e = absurd (cc)
  found_written test (r ∷ rows) row e =
      let x : FileRow = cond (same_path r.head.path row.head.path) (with_body write r) r in
      let head : x.head ≡ r.head = same_head row.head.path write (same_path r.head.path row.head.path) r in
      let step : (b : Bool) → test r.head ≡ b → cond b (Some r) (find (λ r. test r.head) rows) ≡ Some row
      → cond (test x.head) (Some x) (find (λ r. test r.head) (written_rows row.head.path write rows)) ≡ Some (with_body write row)
      = λ b. elim b as (λ b. test r.head ≡ b → cond b (Some r) (find (λ r. test r.head) rows) ≡ Some row
      → cond (test x.head) (Some x) (find (λ r. test r.head) (written_rows row.head.path write rows)) ≡ Some (with_body write row)) [
        | true ↦ λ passes f.
            let same : r ≡ row = cc in
            let path : same_path r.head.path row.head.path ≡ true = rw same (same_path-refl row.head.path) in
            let test_x : test x.head ≡ true = ap test head ∙ passes in
            ap (λ (b : Bool). cond b (Some x) (find (λ r. test r.head) (written_rows row.head.path write rows))) test_x
            ∙ ap (λ (b : Bool). Some (cond b (with_body write r) r)) path ∙ ap (λ (r : FileRow). Some (with_body write r)) same
        | false ↦ λ fails f.
            ap (λ (b : Bool). cond b (Some x) (find (λ r. test r.head) (written_rows row.head.path write rows))) (ap test head ∙ fails)
            ∙ found_written test rows row f
      ] in step (test r.head) refl e

  child_written : (rows : List FileRow) (directory : List ℕ) (sfi : ℕ) (row : FileRow) → child_with_sfi rows directory sfi ≡ Some row
      → child_with_sfi (written_rows row.head.path write rows) directory sfi ≡ Some (with_body write row)
  child_written rows directory sfi row e = either (sfi == 0) e
    where
      either : (none : Bool) → cond none None (find (λ (row : FileRow). is_in directory row.head.path && (row.head.sfi == sfi)) rows) ≡ Some row
          → cond none None (find (λ (row : FileRow). is_in directory row.head.path && (row.head.sfi == sfi)) (written_rows row.head.path write rows)) ≡ Some (with_body write row)
      either true f = absurd (cc)
      either false f = found_written (λ head. is_in directory head.path && (head.sfi == sfi)) rows row f

  -- a command by the same reference works on that file
  pub named_written : (rows : List FileRow) (chan : Chan) (pointer : ℕ) (file : FileReference) (row : FileRow) → IsAmong rows row → file_named rows chan file ≡ Some row
      → file_named (written_rows row.head.path write rows) (standing_on row.head.path pointer chan) file ≡ Some (with_body write row)
  named_written rows chan pointer CurrentEf row among named = found_written (λ head. same_path head.path row.head.path) rows row among
  named_written rows chan pointer (Sfi sfi) row among named = child_written rows chan.dir sfi row named

-- what an UPDATE BINARY that changes something did
record WroteAt (rows : List FileRow) (session : Session) (c : Apdu) (place : BinaryPlace) (change : Change) (after : Session) : Type 0 where
  row : FileRow
  named : file_named rows (open_channel session c.channel) place.file ≡ Some row
  is_open : IsOpen session c.channel
  own : write_refusal row.body place.offset c.body ≡ None
  made : WriteRange row.head.path place.offset c.body ≡ change
  left : after ≡ using session c.channel row.head.path (pointer_at (open_channel session c.channel) place.file)

module _ (rows : List FileRow) (allowed : List ℕ → Mode → Bool) (session : Session) (c : Apdu) (change : Change) where
  abbrev IsWrite : CommandOutcome → Type 0
  IsWrite outcome = outcome.change ≡ Some change
      → (place : BinaryPlace) × (binary_place c.p1 c.p2 ≡ Some place) × WroteAt rows session c place change outcome.session

  no_write : (sw : Sw) → IsWrite (refused session sw)
  no_write sw e = absurd (cc)

  wrote : IsWrite (decided session (update_binary_row rows allowed session c))
  wrote =
      named-has IsWrite session no_write (needs_of_writing session c)
      (λ place. on_named rows allowed session c (needs_of_writing session c) place.file (writing session c place)) (binary_place c.p1 c.p2)
      (λ place at. on_file-has IsWrite session no_write (needs_of_writing session c) allowed (not_there place.file) (writing session c place)
      (file_named rows (open_channel session c.channel) place.file)
      (λ row named channel lengths kind own same. (place, at, record { row = row; named = named; is_open = channel; own = own; made = cc; left = refl })))

pub done_where_taken : (session : Session) (row : CommandRow) → refusal_of row ≡ None → decided session row ≡ row.done
done_where_taken session row taken = ap (λ (refusal : Option Sw). refused_or refusal session row.done) taken

-- what a READ BINARY that isn't refused gives, by its place and its file
read_body : (rows : List FileRow) (allowed : List ℕ → Mode → Bool) (session : Session) (c : Apdu) (place : BinaryPlace) (row : FileRow) (le : ℕ) → binary_place c.p1 c.p2 ≡ Some place
    → file_named rows (open_channel session c.channel) place.file ≡ Some row → c.le ≡ Some le → refusal_of (read_binary_row rows allowed session c) ≡ None
    → (decided session (read_binary_row rows allowed session c)).answer.body ≡ take le (drop place.offset row.body)
read_body rows allowed session c place row le at named wanted taken =
    ap (λ (outcome : CommandOutcome). outcome.answer.body) (done_where_taken session (read_binary_row rows allowed session c) taken)
    ∙ ap (λ (o : Option BinaryPlace). (where_named (needs_of_reading session c) session
    (λ place. on_named rows allowed session c (needs_of_reading session c) place.file (reading session c place)) o).done.answer.body) at
    ∙ ap (λ (o : Option FileRow). (on_file (needs_of_reading session c) session allowed (not_there place.file) (reading session c place) o).done.answer.body) named
    ∙ ap (λ (o : Option ℕ). take (unwrap_or o 0) (drop place.offset row.body)) wanted

pub stands_there : (session : Session) (number : ℕ) (path : List ℕ) (pointer : ℕ) → IsOpen session number
    → open_channel (using session number path pointer) number ≡ standing_on path pointer (open_channel session number)
stands_there session number path pointer is_open =
    rw (channel_at-with_channel_same session number (Some (standing_on path pointer (open_channel session number))) (within session number is_open)) refl

module _ (content : Content) (valid : IsValid content) (allowed : List ℕ → Mode → Bool) (session : Session) (write : Apdu) (change : Change) (read : Apdu)
    (back : ReadsBack content allowed session write change read) where
  -- the bytes that were written last at a place are those that are read there
  pub read_back : (read_outcome content allowed session write change read).answer.body ≡ write.body
  read_back =
      let w = wrote content.rows allowed session write change back.made in
      let among : IsAmong content.rows w.2.row = named_among content.rows (open_channel session write.channel) w.0.file w.2.row (apart_rows content valid) w.2.named in
      let chan : open_channel (update_outcome content allowed session write).session read.channel
      ≡ standing_on w.2.row.head.path (pointer_at (open_channel session write.channel) w.0.file) (open_channel session write.channel) =
      rw (back.channel, w.2.left) (stands_there session write.channel w.2.row.head.path (pointer_at (open_channel session write.channel) w.0.file) w.2.is_open) in
      let rows : (changed content change).rows ≡ written_rows w.2.row.head.path (written w.0.offset write.body) content.rows =
      ap (λ (change : Change). (changed content change).rows) (sym w.2.made) in
      let named : file_named (changed content change).rows (open_channel (update_outcome content allowed session write).session read.channel) w.0.file
      ≡ Some (with_body (written w.0.offset write.body) w.2.row) =
      rw (chan, rows) (named_written (written w.0.offset write.body) content.rows (open_channel session write.channel) (pointer_at (open_channel session write.channel) w.0.file) w.0.file w.2.row among w.2.named) in
      let same_place : binary_place read.p1 read.p2 ≡ Some w.0 = rw (back.p1, back.p2) w.1 in
      read_body (changed content change).rows allowed (update_outcome content allowed session write).session read w.0 (with_body (written w.0.offset write.body) w.2.row) (length write.body)
      same_place named back.le back.taken
      ∙ bytes_back w.2.row.body w.0.offset write.body (inside_body w.2.row.body w.0.offset write.body w.2.own)
