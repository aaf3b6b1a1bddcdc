-- What file control parameters make of a new file (ETSI TS 102 222, CREATE FILE).
use Rattle.std.specs.Prelude.{ℕ, ◌≡◌, Any, IsTrue, ◌+◌, ◌/◌, ◌%◌, Bool, true, false, not, ◌==◌}
use Rattle.std.specs.Prelude.{◌&&◌, ◌||◌, nat_le, if◌then◌else◌, List, [], ◌∷◌, ◌++◌, length}
use Rattle.std.specs.Prelude.{Option, Some, None, is_none, is_some, option_and_then, option_map}
use Rattle.std.specs.Prelude.{unwrap_or, Result, Ok, Err}
use Rattle.file_rows.specs.Content.{use_of}
use Rattle.file_rows.specs.FileHead.{holds_files}
use Rattle.file_rows.specs.Find.{is_id_used, is_name_used, is_sfi_used}
use Rattle.file_rows.specs.declared.head.FileHead.{FileHead}
use Rattle.file_rows.specs.declared.head.Kind.{Kind}
use Rattle.file_rows.specs.declared.head.Kind.TheVariants.{Directory as DirectoryKind, Application}
use Rattle.file_rows.specs.declared.head.Kind.TheVariants.{Transparent as TransparentKind}
use Rattle.file_rows.specs.declared.head.Kind.TheVariants.{Linear as LinearKind}
use Rattle.file_rows.specs.declared.head.Kind.TheVariants.{Cyclic as CyclicKind}
use Rattle.file_rows.specs.declared.head.Life.TheVariants.{Active}
use Rattle.file_rows.specs.declared.row.FileRow.{FileRow}
use Rattle.plain_lists.specs.FirstOf.{first_of}
use Rattle.fcp_codec.specs.FileForm.{form_of}
use Rattle.fcp_codec.specs.RuleRef.{rule_at}
use Rattle.fcp_codec.specs.declared.creation.CreationFault.{CreationFault}
use Rattle.fcp_codec.specs.declared.creation.CreationFault.TheVariants.{BadParameters, IdInUse}
use Rattle.fcp_codec.specs.declared.creation.CreationFault.TheVariants.{NameInUse, QuotaExceeded}
use Rattle.fcp_codec.specs.declared.creation.Described.{Described}
use Rattle.fcp_codec.specs.declared.creation.InUse.{InUse}
use Rattle.fcp_codec.specs.declared.fcp.Fcp.{Fcp}
use Rattle.fcp_codec.specs.declared.fcp.FileForm.{FileForm}
use Rattle.fcp_codec.specs.declared.fcp.FileForm.TheVariants.{Directory, Transparent, Linear}
use Rattle.fcp_codec.specs.declared.fcp.FileForm.TheVariants.{Cyclic}

abbrev pub is_directory : FileForm → Bool
is_directory Directory = true
is_directory Transparent = false
is_directory (Linear record_len) = false
is_directory (Cyclic record_len) = false

-- the size of a new file: a directory has none, whatever 80 says; another file has that of 80
abbrev pub size_told : FileForm → Option ℕ → Option ℕ
size_told form size = if is_directory form then Some 0 else size

-- what the parameters say of a new file, where neither 82, 83 nor the size is missing
abbrev pub described_by : Fcp → Option Described
described_by fcp = option_and_then
    (λ form. option_and_then
    (λ id. option_map (λ size. record { form = form; id = id; size = size })
    (size_told form fcp.size)) fcp.id) (form_of fcp.descriptor)

-- a directory with a name is an application
abbrev pub kind_for : FileForm → Bool → Kind
kind_for Directory named = if named then Application else DirectoryKind
kind_for Transparent named = TransparentKind
kind_for (Linear record_len) named = LinearKind
kind_for (Cyclic record_len) named = CyclicKind

abbrev pub record_len_for : FileForm → ℕ
record_len_for Directory = 0
record_len_for Transparent = 0
record_len_for (Linear record_len) = record_len
record_len_for (Cyclic record_len) = record_len

-- the SFI in the low five bits of an identifier, 1 to 30, or 0 where they are none
abbrev pub sfi_in_id : ℕ → ℕ
sfi_in_id id = if id % 32 == 31 then 0 else id % 32

-- the SFI that the parameters mean: that of 88, else the one in the identifier
abbrev pub sfi_meant : Fcp → ℕ
sfi_meant fcp = unwrap_or fcp.sfi (sfi_in_id (unwrap_or fcp.id 0))

-- the SFI of a new EF: one that is in the identifier alone is taken only where it is free
abbrev pub ef_sfi : InUse → Fcp → ℕ
ef_sfi used fcp = if is_none fcp.sfi && used.sfi then 0 else sfi_meant fcp

-- a directory has no SFI, whatever 88 says
abbrev pub sfi_told : InUse → FileForm → Fcp → ℕ
sfi_told used form fcp = if is_directory form then 0 else ef_sfi used fcp

-- the new file's head; without 8A it is activated
abbrev pub head_told : InUse → List ℕ → Fcp → Described → FileHead
head_told used directory fcp told =
    let path = directory ++ told.id ∷ [] in
    record {
      path = path;
      kind = kind_for told.form (is_some fcp.name);
      life = unwrap_or fcp.life Active;
      sfi = sfi_told used told.form fcp;
      name = unwrap_or fcp.name [];
      rule = option_map (λ rule. rule_at rule path) fcp.rule;
      record_len = record_len_for told.form;
      size = told.size;
    }

-- 3F00 is the MF's, and 7FFF stands for the channel's application
abbrev pub is_id_reserved : ℕ → Bool
is_id_reserved id = (id == 0x3F00) || (id == 0x7FFF)

-- 1 to 254 records of 1 to 255 bytes
abbrev pub are_records : ℕ → ℕ → Bool
are_records record_len size =
    nat_le 1 record_len && nat_le record_len 255 && (size % record_len == 0)
    && nat_le 1 (size / record_len) && nat_le (size / record_len) 254

-- 1 to 65,504 bytes, or records; a directory has no body
abbrev pub is_size_of : FileForm → ℕ → Bool
is_size_of Directory size = size == 0
is_size_of Transparent size = nat_le 1 size && nat_le size 65504
is_size_of (Linear record_len) size = are_records record_len size
is_size_of (Cyclic record_len) size = are_records record_len size

-- only a directory under the MF may have a name, of 5 to 16 bytes
abbrev pub is_name_of : FileForm → List ℕ → Option (List ℕ) → Bool
is_name_of form directory None = true
is_name_of form directory (Some name) =
    is_directory form && (length directory == 0)
    && nat_le 5 (length name) && nat_le (length name) 16

-- an EF's SFI is at most 30, and one that 88 gives is free in the directory
abbrev pub is_ef_sfi : Bool → Option ℕ → Bool
is_ef_sfi used None = true
is_ef_sfi used (Some sfi) = nat_le sfi 30 && not used

abbrev pub is_sfi_of : InUse → FileForm → Option ℕ → Bool
is_sfi_of used form sfi = is_directory form || is_ef_sfi used.sfi sfi

-- whether there may be such a file in the directory, at most four identifiers below the MF
abbrev pub is_good : InUse → List ℕ → Fcp → Described → Bool
is_good used directory fcp told =
    not (is_id_reserved told.id) && nat_le (length directory) 3
    && is_name_of told.form directory fcp.name && is_size_of told.form told.size
    && is_sfi_of used told.form fcp.sfi

abbrev pub fault_unless : Bool → CreationFault → Option CreationFault
fault_unless holds fault = if holds then None else Some fault

-- why there can't be such a file, in the order in which it is told; what is asked of the quota is
-- the size and 32 bytes more
abbrev pub creation_faults : InUse → List ℕ → Fcp → Described → List (Option CreationFault)
creation_faults used directory fcp told =
    fault_unless (is_good used directory fcp told) BadParameters
    ∷ fault_unless (not used.id) IdInUse
    ∷ fault_unless (not used.name) NameInUse
    ∷ fault_unless (nat_le (used.bytes + (told.size + 32)) 65536) QuotaExceeded
    ∷ []

abbrev pub made_unless : Option CreationFault → FileHead → Result FileHead CreationFault
made_unless None head = Ok head
made_unless (Some fault) head = Err fault

-- what comes of a description in a directory with that in use
abbrev pub created_as : InUse → List ℕ → Fcp → Option Described → Result FileHead CreationFault
created_as used directory fcp None = Err BadParameters
created_as used directory fcp (Some told) = made_unless
    (first_of (creation_faults used directory fcp told)) (head_told used directory fcp told)

abbrev pub created_with : InUse → List ℕ → Fcp → Result FileHead CreationFault
created_with used directory fcp = created_as used directory fcp (described_by fcp)

-- what of the parameters' is in use: the identifier and the SFI in the directory, the name and the
-- quota on the card
abbrev pub in_use : List FileRow → List ℕ → Fcp → InUse
in_use rows directory fcp =
    record {
      id = is_id_used rows directory (unwrap_or fcp.id 0);
      sfi = is_sfi_used rows directory (sfi_meant fcp);
      name = is_name_used rows (unwrap_or fcp.name []);
      bytes = use_of rows;
    }

-- the head of the file that the parameters make in a directory of these files, or why there can be
-- none
abbrev pub created : List FileRow → List ℕ → Fcp → Result FileHead CreationFault
created rows directory fcp = created_with (in_use rows directory fcp) directory fcp

-- the directory is there, and is one that holds files
abbrev pub HoldsFilesAt : List FileRow → List ℕ → Type 0
HoldsFilesAt rows directory = Any
    (λ row. IsTrue (holds_files row.head.kind) × (row.head.path ≡ directory)) rows
