-- The elements that make the files of a template: the MF, telecom, the USIM, its optional files,
-- and the ISIM.
use Rattle.std.specs.Prelude.{ℕ, zero, suc, Bool, true, false, ◌||◌, ◌+◌, ◌-◌, ◌==◌, ◌&&◌, not}
use Rattle.std.specs.Prelude.{nat_lt, if◌then◌else◌, List, [], ◌∷◌, length, Option, Some, None}
use Rattle.std.specs.Prelude.{Result, Ok, Err}
use Rattle.std.specs.Str.{bytes_eq}
use Rattle.fcp_codec.specs.declared.fcp.Fcp.{Fcp}
use Rattle.file_templates.specs.Templates.{row_at}
use Rattle.file_templates.specs.declared.template_row.Row.{Row}
use Rattle.profile_install.specs.ElementResult.{then_with}
use Rattle.profile_install.specs.Draft.{filled, head_of_row, last_file, skip_count, skipped}
use Rattle.profile_install.specs.Draft.{with_new_file}
use Rattle.profile_install.specs.declared.draft.Draft.{Draft}
use Rattle.profile_install.specs.declared.draft.Filled.{Filled}
use Rattle.profile_install.specs.declared.fault.ElementFault.{ElementFault}
use Rattle.profile_install.specs.declared.fault.ElementFault.TheVariants.{Malformed, BadParameter}
use Rattle.profile_install.specs.declared.fault.ElementFault.TheVariants.{WrongTemplate}
use Rattle.profile_install.specs.declared.template.FileParts.{FileParts}
use Rattle.profile_install.specs.declared.template.FileParts.TheVariants.{Awaited, LeftOut, Made}
use Rattle.profile_install.specs.declared.template.TemplateList.{TemplateList}

abbrev pub template_list : ℕ → TemplateList
template_list template = record { template = template; begun = false; next = 1 }

-- the position that was given last
abbrev pub present : TemplateList → ℕ
present list = list.next - 1

-- the directory in which a template's files stand
abbrev pub directory_of : ℕ → List ℕ
directory_of template =
    if template == 1 then []
    else (if template == 3 then 0x7F10 ∷ []
    else (if template == 8 then 0x7FD1 ∷ []
    else 0x7FD0 ∷ []))

-- at position 2 stands the directory itself, but for template 5, which has none of its own
abbrev pub directory_at : ℕ → ℕ → List ℕ
directory_at template position =
    if (position == 2) && not (template == 5) then [] else directory_of template

-- the file at position 2 of template 1 is the MF
abbrev pub is_master_at : ℕ → ℕ → Bool
is_master_at template position = (template == 1) && (position == 2)

-- a descriptor without a field
abbrev pub no_fields : Fcp
no_fields = record {
  descriptor = [];
  id = None;
  size = None;
  sfi = None;
  name = None;
  life = None;
  rule = None;
}

-- a template's file is made, with what its descriptor gives
abbrev pub with_row : Draft → ℕ → Row → Fcp → Result Draft ElementFault
with_row draft template row given =
    then_with (λ head. Ok (with_new_file draft head))
    (head_of_row draft (is_master_at template row.position)
    (directory_at template row.position) row given)

abbrev pub with_row_at : Draft → ℕ → Option Row → Fcp → Result Draft ElementFault
with_row_at draft template None given = Ok draft
with_row_at draft template (Some row) given = with_row draft template row given

-- the files at so many positions are made as their rows say
abbrev pub with_rows : ℕ → ℕ → ℕ → Draft → Result Draft ElementFault
with_rows template position zero draft = Ok draft
with_rows template position (suc count) draft =
    then_with (with_rows template (position + 1) count)
    (with_row_at draft template (row_at template position) no_fields)

-- the files from one position up to another that aren't given are made, but for those of template 5
abbrev pub with_not_given : ℕ → ℕ → ℕ → Draft → Result Draft ElementFault
with_not_given template from upto draft =
    if template == 5 then Ok draft else with_rows template from (upto - from) draft

-- `06` is the template's identifier, which stands once, before the files
abbrev pub with_template : TemplateList → List ℕ → Result TemplateList ElementFault
with_template list value =
    if list.begun then Err Malformed
    else (if bytes_eq value (0x67 ∷ 0x81 ∷ 0x0F ∷ 0x01 ∷ 0x02 ∷ list.template ∷ [])
    then Ok (record list { begun = true })
    else Err WrongTemplate)

-- the row at a position that is given: positions ascend, and the template has to have it
abbrev pub row_given : TemplateList → ℕ → Option Row → Result Row ElementFault
row_given list position None =
    if not list.begun || nat_lt position list.next then Err Malformed else Err BadParameter
row_given list position (Some row) =
    if not list.begun || nat_lt position list.next then Err Malformed else Ok row

-- the files before a position that is given
abbrev pub at_position : Draft → TemplateList → ℕ → Result Draft ElementFault
at_position draft list position = then_with
    (λ _. with_not_given list.template list.next position draft)
    (row_given list position (row_at list.template position))

-- the files behind the last position that is given, up to position 30, the greatest there is
abbrev pub at_list_end : Draft → TemplateList → Result Draft ElementFault
at_list_end draft list =
    if list.begun
    then with_not_given list.template list.next 31 draft
    else Err Malformed

-- the file at the present position is made
abbrev pub with_present : Draft → TemplateList → Fcp → Result Draft ElementFault
with_present draft list given = with_row_at draft list.template
    (row_at list.template (present list)) given

-- `80`: the file isn't made. It stands alone and is empty, and a template's directory can't be
-- left out.
abbrev pub left_out : TemplateList → FileParts → List ℕ → Result FileParts ElementFault
left_out list (Made file) value = Err Malformed
left_out list LeftOut value = Err Malformed
left_out list Awaited value =
    if not (length value == 0) then Err Malformed
    else (if (present list == 2) && not (list.template == 5) then Err BadParameter else Ok LeftOut)

-- a file that was made now, with its content to come
abbrev pub just_made : Draft → Result Filled ElementFault
just_made draft = Ok (record { draft = draft; file = last_file draft })

-- the file is made before its first part but a descriptor
abbrev pub made_before : Draft → TemplateList → FileParts → Result Filled ElementFault
made_before draft list (Made file) = Ok (record { draft = draft; file = file })
made_before draft list LeftOut = Err Malformed
made_before draft list Awaited = then_with just_made (with_present draft list no_fields)

abbrev pub skipped_in : List ℕ → Filled → Result Filled ElementFault
skipped_in value done = then_with
    (λ count. Ok (record done { file = skipped done.file count })) (skip_count value)

-- a part of a file: `82` skips, `83` is content
abbrev pub with_part : Draft → TemplateList → FileParts → ℕ → List ℕ → Result Filled ElementFault
with_part draft list parts tag value =
    if tag == 0x82 then then_with (skipped_in value) (made_before draft list parts)
    else (if tag == 0x83 then then_with (λ done. filled done.draft done.file value)
    (made_before draft list parts)
    else Err Malformed)

-- the file of a position at the end of its parts
abbrev pub at_file_end : Draft → TemplateList → FileParts → Result Draft ElementFault
at_file_end draft list (Made file) = Ok draft
at_file_end draft list LeftOut = Ok draft
at_file_end draft list Awaited = with_present draft list no_fields

-- the file is made with what its descriptor gives
abbrev pub with_descriptor : Draft → TemplateList → Option Fcp → Result Filled ElementFault
with_descriptor draft list None = Err Malformed
with_descriptor draft list (Some given) = then_with just_made (with_present draft list given)
