-- A file of a template, with what its descriptor in the package says of it.
use Rattle.std.specs.Prelude.{ℕ, Bool, true, ◌&&◌, if◌then◌else◌, List, [], ◌∷◌, Option, Some, None}
use Rattle.std.specs.Prelude.{is_some, is_none, unwrap_or, Result, Ok, Err}
use Rattle.file_rows.specs.FileHead.{holds_files, is_application, is_cyclic, is_linear}
use Rattle.file_rows.specs.FileHead.{is_transparent}
use Rattle.file_rows.specs.Path.{master}
use Rattle.file_rows.specs.declared.head.FileHead.{FileHead}
use Rattle.file_rows.specs.declared.head.Kind.{Kind}
use Rattle.file_rows.specs.declared.head.Kind.TheVariants.{Master, Directory as DirectoryKind}
use Rattle.file_rows.specs.declared.head.Kind.TheVariants.{Application}
use Rattle.file_rows.specs.declared.head.Kind.TheVariants.{Transparent as TransparentKind}
use Rattle.file_rows.specs.declared.head.Kind.TheVariants.{Linear as LinearKind}
use Rattle.file_rows.specs.declared.head.Kind.TheVariants.{Cyclic as CyclicKind}
use Rattle.file_rows.specs.declared.head.Life.{Life}
use Rattle.file_rows.specs.declared.head.Life.TheVariants.{Active}
use Rattle.file_rows.specs.declared.row.FileRow.{FileRow}
use Rattle.fcp_codec.specs.Creation.{created}
use Rattle.fcp_codec.specs.FileForm.{form_of}
use Rattle.fcp_codec.specs.RuleRef.{rule_at}
use Rattle.fcp_codec.specs.declared.creation.CreationFault.{CreationFault}
use Rattle.fcp_codec.specs.declared.creation.CreationFault.TheVariants.{BadParameters, IdInUse}
use Rattle.fcp_codec.specs.declared.creation.CreationFault.TheVariants.{NameInUse, QuotaExceeded}
use Rattle.fcp_codec.specs.declared.fcp.Fcp.{Fcp}
use Rattle.fcp_codec.specs.declared.fcp.FileForm.{FileForm}
use Rattle.fcp_codec.specs.declared.fcp.FileForm.TheVariants.{Directory, Transparent, Linear}
use Rattle.fcp_codec.specs.declared.fcp.FileForm.TheVariants.{Cyclic}
use Rattle.fcp_codec.specs.declared.fcp.RuleRef.{RuleRef}
use Rattle.fcp_codec.specs.declared.fcp.RuleRef.TheVariants.{Row as RowOf}
use Rattle.file_templates.specs.declared.template_row.Row.{Row}
use Rattle.profile_install.specs.ElementResult.{then_with}
use Rattle.profile_install.specs.declared.fault.ElementFault.{ElementFault}
use Rattle.profile_install.specs.declared.fault.ElementFault.TheVariants.{NoRoom, BadParameter}

-- the file descriptor of a row (ETSI TS 102 221)
abbrev pub row_descriptor : Kind → ℕ → List ℕ
row_descriptor Master record_len = 0x78 ∷ 0x21 ∷ []
row_descriptor DirectoryKind record_len = 0x78 ∷ 0x21 ∷ []
row_descriptor Application record_len = 0x78 ∷ 0x21 ∷ []
row_descriptor TransparentKind record_len = 0x41 ∷ 0x21 ∷ []
row_descriptor LinearKind record_len = 0x42 ∷ 0x21 ∷ 0 ∷ record_len ∷ []
row_descriptor CyclicKind record_len = 0x46 ∷ 0x21 ∷ 0 ∷ record_len ∷ []

-- the file descriptor that is given, else that of the row
abbrev pub descriptor_meant : Row → Fcp → List ℕ
descriptor_meant row given =
    if is_some (form_of given.descriptor) then given.descriptor
    else row_descriptor row.kind row.record_len

-- whether 82, where it is given, leaves the file the kind of its row
abbrev pub is_kind_kept : Kind → Option FileForm → Bool
is_kind_kept kind None = true
is_kind_kept kind (Some Directory) = holds_files kind
is_kind_kept kind (Some Transparent) = is_transparent kind
is_kind_kept kind (Some (Linear record_len)) = is_linear kind
is_kind_kept kind (Some (Cyclic record_len)) = is_cyclic kind

-- a name is given just where the file is an application
abbrev pub is_name_due : Kind → Option (List ℕ) → Bool
is_name_due kind name = if is_application kind then is_some name else is_none name

-- what the descriptor gives; the rest is as in the row, whose identifier stays
abbrev pub parameters_given : Row → Fcp → Fcp
parameters_given row given = record {
  descriptor = descriptor_meant row given;
  id = Some row.id;
  size = Some (unwrap_or given.size row.size);
  sfi = Some (unwrap_or given.sfi row.sfi);
  name = given.name;
  life = given.life;
  rule = Some (unwrap_or given.rule (RowOf row.rule));
}

-- the control parameters of a template's file
abbrev pub parameters_of : Row → Fcp → Result Fcp ElementFault
parameters_of row given =
    if is_kind_kept row.kind (form_of given.descriptor) && is_name_due row.kind given.name
    then Ok (parameters_given row given)
    else Err BadParameter

-- the result for a file that can't be made: 4 for the quota, else 6
abbrev pub making_fault : CreationFault → ElementFault
making_fault BadParameters = BadParameter
making_fault IdInUse = BadParameter
making_fault NameInUse = BadParameter
making_fault QuotaExceeded = NoRoom

abbrev pub made_result : Result FileHead CreationFault → Result FileHead ElementFault
made_result (Ok head) = Ok head
made_result (Err fault) = Err (making_fault fault)

-- the head of a template's file in a directory of these files, or why there can be none
abbrev pub described : List FileRow → List ℕ → Row → Fcp → Result FileHead ElementFault
described rows directory row given = then_with
    (λ parameters. made_result (created rows directory parameters)) (parameters_of row given)

abbrev pub master_with : Life → RuleRef → FileHead
master_with life rule = record {
  path = master;
  kind = Master;
  life = life;
  sfi = 0;
  name = [];
  rule = Some (rule_at rule master);
  record_len = 0;
  size = 0;
}

-- the MF, the first file: 80 and 88 are passed over
abbrev pub described_master : Row → Fcp → Result FileHead ElementFault
described_master row given =
    if is_kind_kept Master (form_of given.descriptor) && is_name_due Master given.name
    then Ok (master_with (unwrap_or given.life Active) (unwrap_or given.rule (RowOf row.rule)))
    else Err BadParameter
