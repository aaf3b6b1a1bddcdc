-- A profile's content in a pool: the files as their heads and one list of bytes.
use Rattle.std.specs.Prelude.{ℕ, ◌≡◌, ◌≤◌, ◌+◌, List, Option, length, take, find, IsSomeAnd}
use Rattle.std.specs.Prelude.{slice_get, ⊤}
use Rattle.file_rows.specs.Change.{with_record, written}
use Rattle.file_rows.specs.declared.change.Change.{Change}
use Rattle.file_rows.specs.declared.change.Change.TheVariants.{WriteRange, WriteRecord, PinSet}
use Rattle.file_rows.specs.declared.change.Change.TheVariants.{FileAdd, FileGone, FileState}
use Rattle.file_rows.specs.declared.change.Change.TheVariants.{FileSize}
use Rattle.file_rows.specs.declared.head.FileHead.{FileHead}
use Rattle.file_rows.specs.Path.{same_path}
use Rattle.record_codec.specs.InPlace.{HasPlaceFor}
use Rattle.record_codec.specs.Pooled.{pooled_size}

-- room for what a quota allows: 2,048 files, which count 32 bytes each, 65,536 bytes in their
-- bodies, and 32 PINs
pub record HasQuotaRoom (files bytes pins : ℕ) : Type 0 where
  pub for_files : 2048 ≤ files
  pub for_bytes : 65536 ≤ bytes
  pub for_pins : 32 ≤ pins

-- the head of the file of that path, where there is one
abbrev pub head_at : List ℕ → List FileHead → Option FileHead
head_at path heads = find (λ head. same_path head.path path) heads

-- the place of the file of a path among others, counted from 0, and where its body begins
pub record IsPlaceOf (path : List ℕ) (heads : List FileHead) (index start : ℕ) : Type 0 where
  pub there : IsSomeAnd (slice_get heads index) (λ head. head.path ≡ path)
  pub begin : start ≡ pooled_size (take index heads)

-- the bytes that the change writes have a place in the body
abbrev pub CanWrite : Change → List ℕ → Type 0
CanWrite (WriteRange path offset bytes) body = offset + length bytes ≤ length body
CanWrite (WriteRecord path number bytes) body = HasPlaceFor number bytes body
CanWrite (PinSet set) body = ⊤
CanWrite (FileAdd head) body = ⊤
CanWrite (FileGone path) body = ⊤
CanWrite (FileState path life) body = ⊤
CanWrite (FileSize path size) body = ⊤

-- a body after the bytes are written
abbrev pub body_after : Change → List ℕ → List ℕ
body_after (WriteRange path offset bytes) body = written offset bytes body
body_after (WriteRecord path number bytes) body = with_record number bytes body
body_after (PinSet set) body = body
body_after (FileAdd head) body = body
body_after (FileGone path) body = body
body_after (FileState path life) body = body
body_after (FileSize path size) body = body

-- among bodies of so many bytes, for which there is so much room, there is room for the file's new
-- size
abbrev pub HasSizeRoom : Change → ℕ → ℕ → FileHead → Type 0
HasSizeRoom (WriteRange path offset bytes) all room head = ⊤
HasSizeRoom (WriteRecord path number bytes) all room head = ⊤
HasSizeRoom (PinSet set) all room head = ⊤
HasSizeRoom (FileAdd added) all room head = ⊤
HasSizeRoom (FileGone path) all room head = ⊤
HasSizeRoom (FileState path life) all room head = ⊤
HasSizeRoom (FileSize path size) all room head = all + size ≤ room + head.size
