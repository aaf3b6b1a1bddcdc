use Rattle.std.specs.Prelude.{ℕ, zero, suc, ◌≡◌, ◌≤◌, ◌+◌, ◌-◌, ◌*◌, ◌⊎◌, List, [], ◌∷◌, ◌++◌}
use Rattle.std.specs.Prelude.{length, map, filter, take, drop, replicate, not, ◌==◌, if◌then◌else◌}
use Rattle.std.specs.Prelude.{Any, IsSome, IsNone, IsSomeAnd, IsTrue, ⊤}
use Rattle.file_rows.specs.Content.{IsValid, file_at}
use Rattle.file_rows.specs.FileHead.{HasRecord, Holds}
use Rattle.file_rows.specs.Path.{same_path, stands_below}
use Rattle.file_rows.specs.declared.change.Change.{Change}
use Rattle.file_rows.specs.declared.change.Change.TheVariants.{WriteRange, WriteRecord, PinSet}
use Rattle.file_rows.specs.declared.change.Change.TheVariants.{FileAdd, FileGone, FileState}
use Rattle.file_rows.specs.declared.change.Change.TheVariants.{FileSize}
use Rattle.file_rows.specs.declared.content.Content.{Content}
use Rattle.file_rows.specs.declared.head.FileHead.{FileHead}
use Rattle.file_rows.specs.declared.head.Kind.TheVariants.{Cyclic}
use Rattle.file_rows.specs.declared.head.Life.{Life}
use Rattle.file_rows.specs.declared.pin.PinRow.{PinRow}
use Rattle.file_rows.specs.declared.row.FileRow.{FileRow}

-- a body with these bytes from an offset on
abbrev pub written : ℕ → List ℕ → List ℕ → List ℕ
written offset bytes body = take offset body ++ bytes ++ drop (offset + length bytes) body

-- a body with this record: in its place, or as number 0 before the others, of which the last goes
abbrev pub with_record : ℕ → List ℕ → List ℕ → List ℕ
with_record zero bytes body = bytes ++ take (length body - length bytes) body
with_record (suc before) bytes body = written (before * length bytes) bytes body

-- a body cut to the size, or with bytes of FF behind it
abbrev pub resized : ℕ → List ℕ → List ℕ
resized size body = take size body ++ replicate (size - length body) 255

-- a new file, whose body is FF
abbrev pub new_file : FileHead → FileRow
new_file head = record { head = head; body = replicate head.size 255 }

-- the files, with the one of that path changed
abbrev pub with_file : List ℕ → (FileRow → FileRow) → List FileRow → List FileRow
with_file path change rows = map
    (λ row. if same_path row.head.path path then change row else row) rows

abbrev pub with_body : (List ℕ → List ℕ) → FileRow → FileRow
with_body change row = record { head = row.head; body = change row.body }

abbrev pub with_life : Life → FileRow → FileRow
with_life life row = record { head = record row.head { life = life }; body = row.body }

abbrev pub with_size : ℕ → FileRow → FileRow
with_size size row = record { head = record row.head { size = size }; body = resized size row.body }

-- the named file after a change that it outlasts
abbrev pub file_after : Change → FileRow → FileRow
file_after (WriteRange path offset bytes) row = with_body (written offset bytes) row
file_after (WriteRecord path number bytes) row = with_body (with_record number bytes) row
file_after (PinSet set) row = row
file_after (FileAdd head) row = row
file_after (FileGone path) row = row
file_after (FileState path life) row = with_life life row
file_after (FileSize path size) row = with_size size row

-- the PINs, with the one of that number set
abbrev pub with_pin : PinRow → List PinRow → List PinRow
with_pin set pins = map (λ pin. if pin.number == set.number then set else pin) pins

-- the content after a change
abbrev pub changed : Content → Change → Content
changed content (WriteRange path offset bytes) =
    record content { rows = with_file path (with_body (written offset bytes)) content.rows }
changed content (WriteRecord path number bytes) =
    record content { rows = with_file path (with_body (with_record number bytes)) content.rows }
changed content (PinSet set) = record content { pins = with_pin set content.pins }
changed content (FileAdd head) = record content { rows = content.rows ++ new_file head ∷ [] }
changed content (FileGone path) =
    record {
      rows = filter (λ row. not (stands_below path row.head.path)) content.rows;
      pins = filter (λ pin. not (stands_below path pin.home)) content.pins;
    }
changed content (FileState path life) = record content
    { rows = with_file path (with_life life) content.rows }
changed content (FileSize path size) = record content
    { rows = with_file path (with_size size) content.rows }

-- the bytes are a record, and take the place of one or, as number 0, come into a cyclic file
pub record IsRecordFor (row : FileRow) (number : ℕ) (bytes : List ℕ) : Type 0 where
  pub exact : length bytes ≡ row.head.record_len
  pub place : HasRecord row.head number ⊎ ((number ≡ 0) × (row.head.kind ≡ Cyclic))

-- the PIN stays the one that it is
pub record KeepsPin (pin set : PinRow) : Type 0 where
  pub number : pin.number ≡ set.number
  pub home : pin.home ≡ set.home
  pub key : pin.key ≡ set.key

-- the content has what the change names
abbrev pub NamesWhatIsThere : Content → Change → Type 0
NamesWhatIsThere content (WriteRange path offset bytes) =
    IsSomeAnd (file_at path content.rows) (λ row. offset + length bytes ≤ length row.body)
NamesWhatIsThere content (WriteRecord path number bytes) =
    IsSomeAnd (file_at path content.rows) (λ row. IsRecordFor row number bytes)
NamesWhatIsThere content (PinSet set) = Any (λ pin. KeepsPin pin set) content.pins
NamesWhatIsThere content (FileAdd head) =
    IsNone (file_at head.path content.rows) × Any (λ row. Holds row.head head) content.rows
NamesWhatIsThere content (FileGone path) = IsSome (file_at path content.rows)
NamesWhatIsThere content (FileState path life) = IsSome (file_at path content.rows)
NamesWhatIsThere content (FileSize path size) = IsSome (file_at path content.rows)

-- what a command may do to a content: it names what is there and leaves a valid content
pub record Fits (content : Content) (change : Change) : Type 0 where
  pub place : NamesWhatIsThere content change
  pub after : IsValid (changed content change)

-- the file is the one that the change names, or one that goes with it
abbrev pub TouchesFile : Change → List ℕ → Type 0
TouchesFile (WriteRange path offset bytes) file = path ≡ file
TouchesFile (WriteRecord path number bytes) file = path ≡ file
TouchesFile (PinSet set) file = ⊥
TouchesFile (FileAdd head) file = head.path ≡ file
TouchesFile (FileGone path) file = IsTrue (stands_below path file)
TouchesFile (FileState path life) file = path ≡ file
TouchesFile (FileSize path size) file = path ≡ file

-- the PIN is the one that the change sets, or one that goes with its home
abbrev pub TouchesPin : Change → PinRow → Type 0
TouchesPin (WriteRange path offset bytes) pin = ⊥
TouchesPin (WriteRecord path number bytes) pin = ⊥
TouchesPin (PinSet set) pin = pin.number ≡ set.number
TouchesPin (FileAdd head) pin = ⊥
TouchesPin (FileGone path) pin = IsTrue (stands_below path pin.home)
TouchesPin (FileState path life) pin = ⊥
TouchesPin (FileSize path size) pin = ⊥

-- the change leaves the sizes of files as they are, and no file comes or goes
abbrev pub KeepsSizes : Change → Type 0
KeepsSizes (WriteRange path offset bytes) = ⊤
KeepsSizes (WriteRecord path number bytes) = ⊤
KeepsSizes (PinSet set) = ⊤
KeepsSizes (FileAdd head) = ⊥
KeepsSizes (FileGone path) = ⊥
KeepsSizes (FileState path life) = ⊤
KeepsSizes (FileSize path size) = ⊥
