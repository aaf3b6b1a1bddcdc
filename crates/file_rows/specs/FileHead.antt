use Rattle.std.specs.Prelude.{ℕ, Bool, true, false, ◌||◌, ◌≡◌, ◌≢◌, ◌≤◌, ◌*◌, List, [], length}
use Rattle.std.specs.Prelude.{IsTrue}
use Rattle.file_rows.specs.Path.{IsIn, master}
use Rattle.file_rows.specs.declared.head.FileHead.{FileHead}
use Rattle.file_rows.specs.declared.head.Kind.{Kind}
use Rattle.file_rows.specs.declared.head.Kind.TheVariants.{Master, Directory, Application}
use Rattle.file_rows.specs.declared.head.Kind.TheVariants.{Transparent, Linear, Cyclic}

-- whether files of this kind hold files: the MF and the dedicated files of ETSI TS 102 221
abbrev pub holds_files : Kind → Bool
holds_files Master = true
holds_files Directory = true
holds_files Application = true
holds_files Transparent = false
holds_files Linear = false
holds_files Cyclic = false

abbrev pub is_application : Kind → Bool
is_application Master = false
is_application Directory = false
is_application Application = true
is_application Transparent = false
is_application Linear = false
is_application Cyclic = false

abbrev pub is_transparent : Kind → Bool
is_transparent Master = false
is_transparent Directory = false
is_transparent Application = false
is_transparent Transparent = true
is_transparent Linear = false
is_transparent Cyclic = false

abbrev pub is_linear : Kind → Bool
is_linear Master = false
is_linear Directory = false
is_linear Application = false
is_linear Transparent = false
is_linear Linear = true
is_linear Cyclic = false

abbrev pub is_cyclic : Kind → Bool
is_cyclic Master = false
is_cyclic Directory = false
is_cyclic Application = false
is_cyclic Transparent = false
is_cyclic Linear = false
is_cyclic Cyclic = true

-- whether files of this kind have records
abbrev pub has_records : Kind → Bool
has_records kind = is_linear kind || is_cyclic kind

-- a file that holds files has no size, no records and no SFI
pub record IsBare (head : FileHead) : Type 0 where
  pub size : head.size ≡ 0
  pub record_len : head.record_len ≡ 0
  pub sfi : head.sfi ≡ 0

-- the root
pub record IsMaster (head : FileHead) : Type 0 where
  pub path : head.path ≡ master
  pub name : head.name ≡ []
  pub bare : IsBare head

-- a dedicated file without a name
pub record IsDirectory (head : FileHead) : Type 0 where
  pub path : head.path ≢ master
  pub name : head.name ≡ []
  pub bare : IsBare head

-- a dedicated file with a name of 5 to 16 bytes, directly under the MF
pub record IsApplication (head : FileHead) : Type 0 where
  pub path : IsIn master head.path
  pub shortest : 5 ≤ length head.name
  pub longest : length head.name ≤ 16
  pub bare : IsBare head

-- 1 to 65,504 bytes
pub record IsTransparent (head : FileHead) : Type 0 where
  pub path : head.path ≢ master
  pub name : head.name ≡ []
  pub sfi : head.sfi ≤ 30
  pub record_len : head.record_len ≡ 0
  pub smallest : 1 ≤ head.size
  pub largest : head.size ≤ 65504

-- 1 to 254 records of 1 to 255 bytes
pub record HoldsRecords (head : FileHead) : Type 0 where
  pub path : head.path ≢ master
  pub name : head.name ≡ []
  pub sfi : head.sfi ≤ 30
  pub shortest : 1 ≤ head.record_len
  pub longest : head.record_len ≤ 255
  pub records : (count : ℕ) × (1 ≤ count) × (count ≤ 254) × (head.size ≡ count * head.record_len)

-- what a file of this kind has
abbrev pub HasForm : Kind → FileHead → Type 0
HasForm Master head = IsMaster head
HasForm Directory head = IsDirectory head
HasForm Application head = IsApplication head
HasForm Transparent head = IsTransparent head
HasForm Linear head = HoldsRecords head
HasForm Cyclic head = HoldsRecords head

-- at most four identifiers below the MF, and the form of its kind
pub record IsFile (head : FileHead) : Type 0 where
  pub depth : length head.path ≤ 4
  pub form : HasForm head.kind head

-- two files of one directory with one SFI
pub record ShareSfi (one other : FileHead) : Type 0 where
  pub given : one.sfi ≢ 0
  pub same : one.sfi ≡ other.sfi
  pub directory : (path : List ℕ) × IsIn path one.path × IsIn path other.path

-- two files of one name
pub record ShareName (one other : FileHead) : Type 0 where
  pub given : one.name ≢ []
  pub same : one.name ≡ other.name

-- the file of the head holds the other one
pub record Holds (directory file : FileHead) : Type 0 where
  pub kind : IsTrue (holds_files directory.kind)
  pub path : IsIn directory.path file.path

-- the record with this number, counted from 1, is one of the file's
pub record HasRecord (head : FileHead) (number : ℕ) : Type 0 where
  pub first : 1 ≤ number
  pub record_len : 1 ≤ head.record_len
  pub last : number * head.record_len ≤ head.size
