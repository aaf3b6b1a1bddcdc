-- The steps of a file management element.
use Rattle.std.specs.Prelude.{ℕ, ◌+◌, ◌*◌, ◌%◌, ◌==◌, if◌then◌else◌, List, [], ◌∷◌, length}
use Rattle.std.specs.Prelude.{position, slice_get, Option, Some, None, unwrap_or, Result, Ok, Err}
use Rattle.file_rows.specs.FileHead.{holds_files}
use Rattle.file_rows.specs.Path.{parent_of, same_path}
use Rattle.file_rows.specs.declared.head.FileHead.{FileHead}
use Rattle.file_rows.specs.declared.row.FileRow.{FileRow}
use Rattle.fcp_codec.specs.declared.fcp.Fcp.{Fcp}
use Rattle.profile_install.specs.ElementResult.{then_with}
use Rattle.profile_install.specs.Draft.{filled, head_made, last_file, skip_count, skipped}
use Rattle.profile_install.specs.Draft.{with_new_file}
use Rattle.profile_install.specs.declared.draft.Draft.{Draft}
use Rattle.profile_install.specs.declared.draft.Filled.{Filled}
use Rattle.profile_install.specs.declared.draft.OpenFile.{OpenFile}
use Rattle.profile_install.specs.declared.fault.ElementFault.{ElementFault}
use Rattle.profile_install.specs.declared.fault.ElementFault.TheVariants.{Malformed, BadParameter}
use Rattle.profile_install.specs.declared.management.Managed.{Managed}
use Rattle.profile_install.specs.declared.management.Standing.{Standing}

-- at the MF, with no EF
abbrev pub fresh_standing : Standing
fresh_standing = record { directory = []; file = None }

-- a path below the MF: at most four identifiers of two bytes
abbrev pub path_below_master : List ℕ → Result (List ℕ) ElementFault
path_below_master [] = Ok []
path_below_master (a ∷ b ∷ []) = Ok ((a * 256 + b) ∷ [])
path_below_master (a ∷ b ∷ c ∷ d ∷ []) = Ok ((a * 256 + b) ∷ (c * 256 + d) ∷ [])
path_below_master (a ∷ b ∷ c ∷ d ∷ e ∷ f ∷ []) =
    Ok ((a * 256 + b) ∷ (c * 256 + d) ∷ (e * 256 + f) ∷ [])
path_below_master (a ∷ b ∷ c ∷ d ∷ e ∷ f ∷ g ∷ h ∷ []) =
    Ok ((a * 256 + b) ∷ (c * 256 + d) ∷ (e * 256 + f) ∷ (g * 256 + h) ∷ [])
path_below_master value = if length value % 2 == 1 then Err Malformed else Err BadParameter

abbrev pub standing_at_row : List ℕ → ℕ → Option FileRow → Result Standing ElementFault
standing_at_row path index None = Err BadParameter
standing_at_row path index (Some row) =
    if holds_files row.head.kind then Ok (record { directory = path; file = None })
    else Ok (record {
      directory = unwrap_or (parent_of path) [];
      file = Some (record { index = index; place = 0 });
    })

abbrev pub standing_at_place : List FileRow → List ℕ → Option ℕ → Result Standing ElementFault
standing_at_place rows path None = Err BadParameter
standing_at_place rows path (Some index) = standing_at_row path index (slice_get rows index)

-- `80` goes to a directory that is there, or to an EF, into which content then goes
abbrev pub gone_to : List FileRow → List ℕ → Result Standing ElementFault
gone_to rows path =
    standing_at_place rows path (position (λ (row : FileRow). same_path row.head.path path) rows)

abbrev pub selected : Draft → List ℕ → Result Standing ElementFault
selected draft value = then_with (gone_to draft.rows) (path_below_master value)

-- at a file that was made last in a directory
abbrev pub at_new : Draft → List ℕ → FileHead → Managed
at_new draft directory head =
    if holds_files head.kind
    then record { draft = draft; standing = record { directory = head.path; file = None } }
    else record {
      draft = draft;
      standing = record { directory = directory; file = Some (last_file draft) };
    }

-- `62` makes a file, as CREATE FILE does without access rules
abbrev pub with_file_made : Draft → List ℕ → Option Fcp → Result Managed ElementFault
with_file_made draft directory None = Err BadParameter
with_file_made draft directory (Some fcp) = then_with
    (λ head. Ok (at_new (with_new_file draft head) directory head)) (head_made draft directory fcp)

abbrev pub in_file : Standing → Filled → Managed
in_file standing done =
    record { draft = done.draft; standing = record standing { file = Some done.file } }

-- content goes into the current EF
abbrev pub with_content_step : Draft → Standing → List ℕ → Option OpenFile
    → Result Managed ElementFault
with_content_step draft standing value None = Err BadParameter
with_content_step draft standing value (Some file) =
    then_with (λ done. Ok (in_file standing done)) (filled draft file value)

abbrev pub skip_at : Draft → Standing → Option OpenFile → ℕ → Result Managed ElementFault
skip_at draft standing None count = Err BadParameter
skip_at draft standing (Some file) count =
    Ok (record { draft = draft; standing = record standing { file = Some (skipped file count) } })

-- a step with a value: `80` goes to a file, `82` skips and `83` is content
abbrev pub with_step : Draft → Standing → ℕ → List ℕ → Result Managed ElementFault
with_step draft standing tag value =
    if tag == 0x80 then then_with (λ its. Ok (record { draft = draft; standing = its }))
    (selected draft value)
    else (if tag == 0x82 then then_with (skip_at draft standing standing.file) (skip_count value)
    else (if tag == 0x83 then with_content_step draft standing value standing.file
    else Err Malformed))
