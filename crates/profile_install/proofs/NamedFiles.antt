-- Files that are made have paths that are named.
use Rattle.std.proofs.Common.{◌≡◌, ℕ, zero, suc, ◌+◌, ◌-◌, Bool, true, false, cond, ◌==◌, ◌&&◌}
use Rattle.std.proofs.Common.{List, [], ◌∷◌, ◌++◌, length, refl, sym, ◌∙◌, ap, subst, Option, Some}
use Rattle.std.proofs.Common.{None, Result, Ok, Err, slice_get, slice_set}
use Rattle.std.specs.Prelude.{nat_le, option_and_then, option_map}
use Rattle.std.specs.List.{AllByRecursion}
use Rattle.file_rows.specs.Change.{new_file, with_body, written}
use Rattle.file_rows.specs.FileHead.{holds_files}
use Rattle.file_rows.specs.declared.head.FileHead.{FileHead}
use Rattle.file_rows.specs.declared.row.FileRow.{FileRow}
use Rattle.file_rows.proofs.ListLemmas.{each_append}
use Rattle.fcp_codec.specs.Creation.{created_as, created_with, head_told, is_good, size_told}
use Rattle.fcp_codec.specs.FileForm.{form_of}
use Rattle.fcp_codec.specs.Reading.{fields_in}
use Rattle.fcp_codec.specs.declared.creation.CreationFault.{CreationFault}
use Rattle.fcp_codec.specs.declared.creation.InUse.{InUse}
use Rattle.fcp_codec.specs.declared.fcp.Fcp.{Fcp}
use Rattle.fcp_codec.specs.declared.fcp.FileForm.{FileForm}
use Rattle.fcp_codec.proofs.CreationLemmas.{made_is as head_is}
use Rattle.file_templates.specs.Templates.{row_at}
use Rattle.file_templates.specs.declared.template_row.Row.{Row}
use Rattle.profile_install.specs.Draft.{content_in, filled, head_made, head_of_row, in_use_now}
use Rattle.profile_install.specs.Draft.{last_file, skip_count, skipped, with_new_file}
use Rattle.profile_install.specs.ElementResult.{then_with}
use Rattle.profile_install.specs.Management.{at_new, in_file, selected, skip_at, with_content_step}
use Rattle.profile_install.specs.Management.{with_file_made, with_step}
use Rattle.profile_install.specs.NamedFiles.{IsOfStep, IsOfTemplate}
use Rattle.profile_install.specs.Template.{at_file_end, at_list_end, at_position, directory_at}
use Rattle.profile_install.specs.Template.{is_master_at, just_made, made_before, no_fields, present}
use Rattle.profile_install.specs.Template.{row_given, skipped_in, with_descriptor, with_not_given}
use Rattle.profile_install.specs.Template.{with_part, with_present, with_row, with_row_at}
use Rattle.profile_install.specs.Template.{with_rows}
use Rattle.profile_install.specs.TemplateFile.{is_kind_kept, is_name_due, parameters_given}
use Rattle.profile_install.specs.TemplateFile.{parameters_of}
use Rattle.profile_install.specs.declared.draft.Draft.{Draft}
use Rattle.profile_install.specs.declared.draft.Filled.{Filled}
use Rattle.profile_install.specs.declared.draft.OpenFile.{OpenFile}
use Rattle.profile_install.specs.declared.fault.ElementFault.{ElementFault}
use Rattle.profile_install.specs.declared.fault.ElementFault.TheVariants.{Malformed, BadParameter}
use Rattle.profile_install.specs.declared.management.Managed.{Managed}
use Rattle.profile_install.specs.declared.management.Standing.{Standing}
use Rattle.profile_install.specs.declared.template.FileParts.{FileParts}
use Rattle.profile_install.specs.declared.template.FileParts.TheVariants.{Awaited, LeftOut, Made}
use Rattle.profile_install.specs.declared.template.TemplateList.{TemplateList}
use Rattle.profile_install.proofs.FilesFit.{made_is, master_path}
use Rattle.profile_install.proofs.Gives.{Gives, gives_always, gives_if, gives_of, gives_then}
use Rattle.profile_install.proofs.Oks.{if_ok, not_ok, ok_is, then_ok}

-- each file's path has this
abbrev pub AllPaths : (List ℕ → Type 0) → List FileRow → Type 0
AllPaths P rows = AllByRecursion (λ (row : FileRow). P row.head.path) rows

-- the file that control parameters make has the identifier of their 83
module _ (used : InUse) (directory : List ℕ) (fcp : Fcp) (head : FileHead) where
  abbrev made_of : Option FileForm → Option ℕ → (FileForm → Option ℕ)
      → Result FileHead CreationFault
  made_of form id size = created_as used directory fcp
      (option_and_then (λ form. option_and_then
      (λ id. option_map (λ size. record { form = form; id = id; size = size }) (size form)) id)
      form)

  created_path : (form : Option FileForm) (id : Option ℕ) (size : FileForm → Option ℕ)
      → made_of form id size ≡ Ok head → (n : ℕ) × (id ≡ Some n) × (head.path ≡ directory ++ n ∷ [])
  created_path None id size e = absurd (cc)
  created_path (Some form) None size e = absurd (cc)
  created_path (Some form) (Some id) size e = sized (size form) refl e
    where
      sized : (s : Option ℕ) → size form ≡ s
          → made_of (Some form) (Some id) (λ form. s) ≡ Ok head
          → (n : ℕ) × (Some id ≡ Some n) × (head.path ≡ directory ++ n ∷ [])
      sized None is e = absurd (cc)
      sized (Some s) is e =
          let parts = head_is (is_good used directory fcp
          (record { form = form; id = id; size = s })) used.id used.name
          (nat_le (used.bytes + (s + 32)) 65536)
          (head_told used directory fcp (record { form = form; id = id; size = s })) head e in
          (id, refl, ap (λ (h : FileHead). h.path) (sym parts.4))

head_path : (draft : Draft) (directory : List ℕ) (fcp : Fcp) (head : FileHead)
    → head_made draft directory fcp ≡ Ok head
    → (id : ℕ) × (fcp.id ≡ Some id) × (head.path ≡ directory ++ id ∷ [])
head_path draft directory fcp head e =
    let used = in_use_now draft directory fcp in
    created_path used directory fcp head (form_of fcp.descriptor) fcp.id
    (λ form. size_told form fcp.size) (made_is (created_with used directory fcp) head e)

parameters_id : (row : Row) (given fcp : Fcp) → parameters_of row given ≡ Ok fcp
    → fcp.id ≡ Some row.id
parameters_id row given fcp e =
    if_ok (is_kind_kept row.kind (form_of given.descriptor) && is_name_due row.kind given.name)
    (Ok (parameters_given row given)) (Err BadParameter) fcp e
    (λ holds is. ap (λ (f : Fcp). f.id) (sym (ok_is (parameters_given row given) fcp is)))
    (λ fails no. absurd (not_ok BadParameter fcp no))

row_made_path : (draft : Draft) (is_master : Bool) (directory : List ℕ) (row : Row) (given : Fcp)
    (head : FileHead) → head_of_row draft is_master directory row given ≡ Ok head
    → head.path ≡ cond is_master [] (directory ++ row.id ∷ [])
row_made_path draft true directory row given head e = (master_path row given head e).0
row_made_path draft false directory row given head e =
    let made = then_ok (head_made draft directory) (parameters_of row given) head e in
    let path = head_path draft directory made.0 head made.2 in
    let same : path.0 ≡ row.id = let some : Some path.0 ≡ Some row.id = sym path.1
    ∙ parameters_id row given made.0 made.1 in cc in
    path.2 ∙ ap (λ (n : ℕ). directory ++ n ∷ []) same

module _ (P : List ℕ → Type 0) where
  -- one file in the place of another with the same head
  all_set : (row new : FileRow) → new.head ≡ row.head → (rows : List FileRow) (i : ℕ)
      → slice_get rows i ≡ Some row → AllPaths P rows → AllPaths P (slice_set rows i new)
  all_set row new same [] i e all = absurd (cc)
  all_set row new same (r ∷ rows) zero e all =
      let is : r ≡ row = cc in (
        subst P (ap (λ (r : FileRow). r.head.path) is ∙ ap (λ (h : FileHead). h.path) (sym same))
            all.0,
        all.1,
      )
  all_set row new same (r ∷ rows) (suc i) e all = (all.0, all_set row new same rows i e all.1)

  all_with : (draft : Draft) (head : FileHead) → AllPaths P draft.rows → P head.path
      → AllPaths P (with_new_file draft head).rows
  all_with draft head all named = each_append (λ (row : FileRow). P row.head.path) draft.rows
      (new_file head ∷ []) all (named, tt)

  abbrev pub InDraft : Draft → Type 0
  InDraft draft = AllPaths P draft.rows

  abbrev pub InFilled : Filled → Type 0
  InFilled done = AllPaths P done.draft.rows

  abbrev pub InManaged : Managed → Type 0
  InManaged done = AllPaths P done.draft.rows

  fill_all : (draft : Draft) (file : OpenFile) (bytes : List ℕ) → AllPaths P draft.rows
      → Gives InFilled (filled draft file bytes)
  fill_all draft file bytes all =
      gives_if InFilled (length bytes == 0) (Ok (record { draft = draft; file = file }))
      (content_in draft file bytes (slice_get draft.rows file.index)) all
      (of_row (slice_get draft.rows file.index) refl)
    where
      of_row : (o : Option FileRow) → slice_get draft.rows file.index ≡ o
          → Gives InFilled (content_in draft file bytes o)
      of_row None at = tt
      of_row (Some row) at =
          let new : FileRow = with_body (written file.place bytes) row in
          let now : Filled = record {
            draft = record draft { rows = slice_set draft.rows file.index new };
            file = record file { place = file.place + length bytes };
          } in
          gives_if InFilled (nat_le (file.place + length bytes) (length row.body)) (Ok now)
          (Err BadParameter) (all_set row new refl draft.rows file.index at all) tt

  skip_all : (value : List ℕ) (done : Filled) → InFilled done
      → Gives InFilled (skipped_in value done)
  skip_all value done all =
      gives_always InFilled (λ (count : ℕ). let r : Result Filled ElementFault = Ok
      (record done { file = skipped done.file count }) in r) (skip_count value) (λ count. all)

  -- the files of a template
  module _ (template : ℕ) (names : (path : List ℕ) → IsOfTemplate template path → P path) where
    row_all : (draft : Draft) (position : ℕ) (row : Row) (given : Fcp)
        → row_at template position ≡ Some row → AllPaths P draft.rows
        → Gives InDraft (with_row draft template row given)
    row_all draft position row given listed all =
        let master = is_master_at template row.position in
        let directory = directory_at template row.position in
        gives_then (λ (head : FileHead). P head.path) InDraft
        (λ (head : FileHead). let r : Result Draft ElementFault = Ok (with_new_file draft head) in
        r)
        (head_of_row draft master directory row given)
        (gives_of (λ (head : FileHead). P head.path)
        (head_of_row draft master directory row given)
        (λ head e. names head.path (record {
          position = position;
          row = row;
          listed = listed;
          at = row_made_path draft master directory row given head e;
        })))
        (λ head named. all_with draft head all named)

    row_at_all : (draft : Draft) (position : ℕ) (o : Option Row) (given : Fcp)
        → row_at template position ≡ o → AllPaths P draft.rows
        → Gives InDraft (with_row_at draft template o given)
    row_at_all draft position None given is all = all
    row_at_all draft position (Some row) given is all = row_all draft position row given is all

    rows_all : (position count : ℕ) (draft : Draft) → AllPaths P draft.rows
        → Gives InDraft (with_rows template position count draft)
    rows_all position zero draft all = all
    rows_all position (suc count) draft all =
        gives_then InDraft InDraft (with_rows template (position + 1) count)
        (with_row_at draft template (row_at template position) no_fields)
        (row_at_all draft position (row_at template position) no_fields refl all)
        (λ next its. rows_all (position + 1) count next its)

    not_given_all : (from upto : ℕ) (draft : Draft) → AllPaths P draft.rows
        → Gives InDraft (with_not_given template from upto draft)
    not_given_all from upto draft all =
        gives_if InDraft (template == 5) (Ok draft) (with_rows template from (upto - from) draft)
        all (rows_all from (upto - from) draft all)

  module _ (draft : Draft) (list : TemplateList)
      (names : (path : List ℕ) → IsOfTemplate list.template path → P path)
      (all : AllPaths P draft.rows) where
    pub position_all : (position : ℕ) → Gives InDraft (at_position draft list position)
    position_all position =
        gives_always InDraft
        (λ (_ : Row). with_not_given list.template list.next position draft)
        (row_given list position (row_at list.template position))
        (λ _. not_given_all list.template names list.next position draft all)

    pub list_end_all : Gives InDraft (at_list_end draft list)
    list_end_all = gives_if InDraft list.begun (with_not_given list.template list.next 31 draft)
        (Err Malformed) (not_given_all list.template names list.next 31 draft all) tt

    present_all : (given : Fcp) → Gives InDraft (with_present draft list given)
    present_all given = row_at_all list.template names draft (present list)
        (row_at list.template (present list)) given refl all

    just_all : (given : Fcp) → Gives InFilled (then_with just_made (with_present draft list given))
    just_all given = gives_then InDraft InFilled just_made (with_present draft list given)
        (present_all given) (λ next its. its)

    before_all : (parts : FileParts) → Gives InFilled (made_before draft list parts)
    before_all (Made file) = all
    before_all LeftOut = tt
    before_all Awaited = just_all no_fields

    pub descriptor_all : (given : Option Fcp) → Gives InFilled (with_descriptor draft list given)
    descriptor_all None = tt
    descriptor_all (Some given) = just_all given

    pub file_end_all : (parts : FileParts) → Gives InDraft (at_file_end draft list parts)
    file_end_all (Made file) = all
    file_end_all LeftOut = all
    file_end_all Awaited = present_all no_fields

    pub part_all : (parts : FileParts) (tag : ℕ) (value : List ℕ)
        → Gives InFilled (with_part draft list parts tag value)
    part_all parts tag value =
        let content : Result Filled ElementFault = then_with
        (λ (done : Filled). filled done.draft done.file value) (made_before draft list parts) in
        gives_if InFilled (tag == 0x82)
        (then_with (skipped_in value) (made_before draft list parts))
        (cond (tag == 0x83) content (Err Malformed))
        (gives_then InFilled InFilled (skipped_in value) (made_before draft list parts)
        (before_all parts) (λ done its. skip_all value done its))
        (gives_if InFilled (tag == 0x83) content (Err Malformed)
        (gives_then InFilled InFilled (λ (done : Filled). filled done.draft done.file value)
        (made_before draft list parts) (before_all parts)
        (λ done its. fill_all done.draft done.file value its)) tt)

  -- the file of a step
  module _ (directory parameters : List ℕ)
      (names : (path : List ℕ) → IsOfStep directory parameters path → P path) where
    new_all : (draft : Draft) (head : FileHead) (b : Bool) → AllPaths P draft.rows
        → InManaged (cond b (record {
          draft = draft;
          standing = record { directory = head.path; file = None };
        }) (record {
          draft = draft;
          standing = record { directory = directory; file = Some (last_file draft) };
        }))
    new_all draft head true all = all
    new_all draft head false all = all

    pub new_file_all : (draft : Draft) (given : Option Fcp) → fields_in parameters ≡ given
        → AllPaths P draft.rows → Gives InManaged (with_file_made draft directory given)
    new_file_all draft None is all = tt
    new_file_all draft (Some fcp) is all =
        gives_then (λ (head : FileHead). P head.path) InManaged
        (λ (head : FileHead). let r : Result Managed ElementFault = Ok
        (at_new (with_new_file draft head) directory head) in r)
        (head_made draft directory fcp)
        (gives_of (λ (head : FileHead). P head.path) (head_made draft directory fcp)
        (λ head e.
        let path = head_path draft directory fcp head e in
        names head.path (record {
          given = fcp;
          id = path.0;
          fields = is;
          named = path.1;
          at = path.2;
        })))
        (λ head named. new_all (with_new_file draft head) head (holds_files head.kind)
        (all_with draft head all named))

  module _ (draft : Draft) (standing : Standing) (all : AllPaths P draft.rows) where
    content_all : (value : List ℕ) (file : Option OpenFile)
        → Gives InManaged (with_content_step draft standing value file)
    content_all value None = tt
    content_all value (Some file) =
        gives_then InFilled InManaged
        (λ (done : Filled). let r : Result Managed ElementFault = Ok (in_file standing done) in r)
        (filled draft file value) (fill_all draft file value all) (λ done its. its)

    skip_at_all : (file : Option OpenFile) (count : ℕ)
        → Gives InManaged (skip_at draft standing file count)
    skip_at_all None count = tt
    skip_at_all (Some file) count = all

    pub step_all : (tag : ℕ) (value : List ℕ) → Gives InManaged (with_step draft standing tag value)
    step_all tag value =
        let third : Result Managed ElementFault = cond (tag == 0x83)
        (with_content_step draft standing value standing.file) (Err Malformed) in
        let second : Result Managed ElementFault = cond (tag == 0x82)
        (then_with (skip_at draft standing standing.file) (skip_count value)) third in
        gives_if InManaged (tag == 0x80)
        (then_with (λ its. Ok (record { draft = draft; standing = its })) (selected draft value))
        second
        (gives_always InManaged (λ (its : Standing). let r : Result Managed ElementFault = Ok
        (record { draft = draft; standing = its }) in r) (selected draft value) (λ its. all))
        (gives_if InManaged (tag == 0x82)
        (then_with (skip_at draft standing standing.file) (skip_count value)) third
        (gives_always InManaged (skip_at draft standing standing.file) (skip_count value)
        (λ count. skip_at_all standing.file count))
        (gives_if InManaged (tag == 0x83)
        (with_content_step draft standing value standing.file) (Err Malformed)
        (content_all value standing.file) tt))
