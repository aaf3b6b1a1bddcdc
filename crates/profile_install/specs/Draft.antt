-- What the elements of a package have made so far, and how files come to it.
use Rattle.std.specs.Prelude.{ℕ, Bool, false, ◌+◌, ◌-◌, ◌*◌, ◌==◌, ◌&&◌, nat_le, min, find}
use Rattle.std.specs.Prelude.{if◌then◌else◌, List, [], ◌∷◌, ◌++◌, length, slice_get, slice_set}
use Rattle.std.specs.Prelude.{Option, Some, None, Result, Ok, Err}
use Rattle.file_rows.specs.Change.{new_file, with_body, written}
use Rattle.file_rows.specs.FileHead.{holds_files}
use Rattle.file_rows.specs.Path.{is_in}
use Rattle.file_rows.specs.declared.head.FileHead.{FileHead}
use Rattle.file_rows.specs.declared.row.FileRow.{FileRow}
use Rattle.fcp_codec.specs.Creation.{created_with, in_use}
use Rattle.fcp_codec.specs.declared.creation.InUse.{InUse}
use Rattle.fcp_codec.specs.declared.fcp.Fcp.{Fcp}
use Rattle.file_templates.specs.declared.template_row.Row.{Row}
use Rattle.profile_install.specs.ElementResult.{then_with}
use Rattle.profile_install.specs.TemplateFile.{described_master, made_result, parameters_of}
use Rattle.profile_install.specs.declared.draft.Draft.{Draft}
use Rattle.profile_install.specs.declared.draft.Filled.{Filled}
use Rattle.profile_install.specs.declared.draft.OpenFile.{OpenFile}
use Rattle.profile_install.specs.declared.fault.ElementFault.{ElementFault}
use Rattle.profile_install.specs.declared.fault.ElementFault.TheVariants.{Malformed, BadParameter}

-- nothing is made, and the whole quota is left
abbrev pub fresh_draft : Draft
fresh_draft = record {
  rows = [];
  pins = [];
  puks = [];
  home = [];
  left = 65536;
  telecom = false;
  usim = false;
  isim = false;
}

-- the file in a directory with this SFI, where there is one
abbrev pub with_sfi : List ℕ → ℕ → List FileRow → Option FileRow
with_sfi directory sfi rows =
    find (λ (row : FileRow). is_in directory row.head.path && (row.head.sfi == sfi)) rows

-- what of a new file's parameters is in use
abbrev pub in_use_now : Draft → List ℕ → Fcp → InUse
in_use_now draft directory fcp =
    record (in_use draft.rows directory fcp) { bytes = 65536 - draft.left }

-- one file more; PINs may then be at home in it, where it holds files
abbrev pub with_new_file : Draft → FileHead → Draft
with_new_file draft head = record draft {
  rows = draft.rows ++ new_file head ∷ [];
  home = if holds_files head.kind then head.path else draft.home;
  left = draft.left - (head.size + 32);
}

-- the head of the file that control parameters make in a directory
abbrev pub head_made : Draft → List ℕ → Fcp → Result FileHead ElementFault
head_made draft directory fcp =
    made_result (created_with (in_use_now draft directory fcp) directory fcp)

-- the head of a template's file: the MF, or a file in a directory
abbrev pub head_of_row : Draft → Bool → List ℕ → Row → Fcp → Result FileHead ElementFault
head_of_row draft is_master directory row given =
    if is_master then described_master row given
    else then_with (head_made draft directory) (parameters_of row given)

-- the file that was made last, from its first byte on
abbrev pub last_file : Draft → OpenFile
last_file draft = record { index = length draft.rows - 1; place = 0 }

-- how many bytes are skipped: a number of one or two bytes
abbrev pub skip_count : List ℕ → Result ℕ ElementFault
skip_count [] = Err Malformed
skip_count (a ∷ []) = Ok a
skip_count (a ∷ b ∷ []) = Ok (a * 256 + b)
skip_count (a ∷ b ∷ c ∷ more) = Err Malformed

-- skipping past the end of a file is no fault; 65,535 is past every end
abbrev pub skipped : OpenFile → ℕ → OpenFile
skipped file count = record file { place = min (file.place + count) 65535 }

-- content in a file, from the present place on
abbrev pub content_in : Draft → OpenFile → List ℕ → Option FileRow → Result Filled ElementFault
content_in draft file bytes None = Err BadParameter
content_in draft file bytes (Some row) =
    if nat_le (file.place + length bytes) (length row.body)
    then Ok (record {
      draft = record draft {
        rows = slice_set draft.rows file.index (with_body (written file.place bytes) row);
      };
      file = record file { place = file.place + length bytes };
    })
    else Err BadParameter

-- content past the end is refused, no content never is
abbrev pub filled : Draft → OpenFile → List ℕ → Result Filled ElementFault
filled draft file bytes =
    if length bytes == 0 then Ok (record { draft = draft; file = file })
    else content_in draft file bytes (slice_get draft.rows file.index)
