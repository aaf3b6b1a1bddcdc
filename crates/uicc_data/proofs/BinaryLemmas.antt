use Rattle.std.proofs.Common.{◌≡◌, ◌≤◌, ◌+◌, ℕ, Bool, true, false, cond, List, length, refl, Some}
use Rattle.std.proofs.Common.{None, arith}
use Rattle.std.proofs.lemmas.Bool.Decides.{nat_tests}
use Rattle.std.specs.Prelude.{nat_le, nat_lt}
use Rattle.apdu_codec.specs.Command.{Apdu}
use Rattle.apdu_codec.specs.declared.status.TheConstants.Sw.{WRONG_LENGTH, WRONG_OFFSET}
use Rattle.file_rows.proofs.ConditionLemmas.{fits_where}
use Rattle.file_rows.specs.Change.{written}
use Rattle.file_rows.specs.Content.{IsValid}
use Rattle.file_rows.specs.FileHead.{holds_files, is_transparent}
use Rattle.file_rows.specs.declared.change.Change.TheVariants.{WriteRange}
use Rattle.file_rows.specs.declared.content.Content.{Content}
use Rattle.file_rows.specs.declared.head.Kind.{Kind}
use Rattle.file_rows.specs.declared.head.Kind.TheVariants.{Master, Directory, Application}
use Rattle.file_rows.specs.declared.head.Kind.TheVariants.{Transparent, Linear, Cyclic}
use Rattle.file_rows.specs.declared.mode.Mode.{Mode}
use Rattle.file_rows.specs.declared.row.FileRow.{FileRow}
use Rattle.uicc_channels.specs.CommandRow.{decided}
use Rattle.uicc_channels.specs.Session.{IsOpen, Suits, open_channel}
use Rattle.uicc_channels.specs.declared.session.Session.{Session}
use Rattle.uicc_channels.proofs.AmongLemmas.{IsAmong}
use Rattle.uicc_channels.proofs.CarryLemmas.{stands_open}
use Rattle.uicc_data.proofs.CarryLemmas.{CanCarryOut-refused, apart_rows, at_its_path}
use Rattle.uicc_data.proofs.RowLemmas.{on_file-has, where_named-has}
use Rattle.uicc_data.proofs.SuitsLemmas.{Suits-using, Suits-written, named_among, pointer_stands}
use Rattle.uicc_data.specs.Binary.{binary_place, read_binary_row, reading, update_binary_row}
use Rattle.uicc_data.specs.Binary.{write_refusal, writing}
use Rattle.uicc_channels.specs.CarriesOut.{CanCarryOut}
use Rattle.uicc_data.specs.FileReference.{file_named, not_there, pointer_at, using}
use Rattle.uicc_data.specs.FileUse.{needs_of_reading, needs_of_writing}
use Rattle.uicc_data.specs.declared.binary.BinaryPlace.{BinaryPlace}

-- a transparent file holds no files
bare_transparent : (kind : Kind) → is_transparent kind ≡ true → holds_files kind ≡ false
bare_transparent Master e = absurd (cc)
bare_transparent Directory e = absurd (cc)
bare_transparent Application e = absurd (cc)
bare_transparent Transparent e = refl
bare_transparent Linear e = refl
bare_transparent Cyclic e = refl

-- bytes that may be written lie inside the body
pub inside_body : (body : List ℕ) (offset : ℕ) (bytes : List ℕ) → write_refusal body offset bytes ≡ None → offset + length bytes ≤ length body
inside_body body offset bytes e = either (nat_le (length body) offset) (nat_lt (length body) (offset + length bytes)) refl e
  where
    either : (past long : Bool) → nat_lt (length body) (offset + length bytes) ≡ long → cond past (Some WRONG_OFFSET) (cond long (Some WRONG_LENGTH) None) ≡ None
        → offset + length bytes ≤ length body
    either true long is f = absurd (cc)
    either false true is f = absurd (cc)
    either false false is f = grind (arith, nat_tests)

module _ (content : Content) (valid : IsValid content) (session : Session) (suits : Suits session content.rows) (allowed : List ℕ → Mode → Bool) (c : Apdu) where
  -- the session after a command on a place in a transparent file
  suits_there : (place : BinaryPlace) (row : FileRow) → file_named content.rows (open_channel session c.channel) place.file ≡ Some row → IsOpen session c.channel
      → is_transparent row.head.kind ≡ true
      → Suits (using session c.channel row.head.path (pointer_at (open_channel session c.channel) place.file)) content.rows
  suits_there place row named is_open kind =
      Suits-using session content.rows c.channel row (pointer_at (open_channel session c.channel) place.file) suits is_open
      (named_among content.rows (open_channel session c.channel) place.file row (apart_rows content valid) named)
      (bare_transparent row.head.kind kind)
      (pointer_stands content.rows (open_channel session c.channel) place.file row (stands_open session content.rows c.channel suits is_open) named)

  pub CanCarryOut-read_binary : CanCarryOut content (decided session (read_binary_row content.rows allowed session c))
  CanCarryOut-read_binary =
      where_named-has (CanCarryOut content) session (CanCarryOut-refused content session suits) (needs_of_reading session c) _ (binary_place c.p1 c.p2)
      (λ place. on_file-has (CanCarryOut content) session (CanCarryOut-refused content session suits) (needs_of_reading session c) allowed (not_there place.file) (reading session c place)
      (file_named content.rows (open_channel session c.channel) place.file)
      (λ row named channel lengths kind own. record { change = tt; session = suits_there place row named channel kind }))

  pub CanCarryOut-update_binary : CanCarryOut content (decided session (update_binary_row content.rows allowed session c))
  CanCarryOut-update_binary =
      where_named-has (CanCarryOut content) session (CanCarryOut-refused content session suits) (needs_of_writing session c) _ (binary_place c.p1 c.p2)
      (λ place. on_file-has (CanCarryOut content) session (CanCarryOut-refused content session suits) (needs_of_writing session c) allowed (not_there place.file) (writing session c place)
      (file_named content.rows (open_channel session c.channel) place.file)
      (λ row named channel lengths kind own.
      let among : IsAmong content.rows row = named_among content.rows (open_channel session c.channel) place.file row (apart_rows content valid) named in
      record {
        change = (fits_where content (WriteRange row.head.path place.offset c.body) valid).1
            (at_its_path (λ row. place.offset + length c.body ≤ length row.body) content.rows row among (inside_body row.body place.offset c.body own));
        session = Suits-written row.head.path (written place.offset c.body) _ content.rows (suits_there place row named channel kind);
      }))
