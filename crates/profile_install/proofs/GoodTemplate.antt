-- The files of a template keep a draft good.
use Rattle.std.proofs.Common.{◌≡◌, ◌≢◌, ◌⊎◌, ℕ, ◌+◌, ◌≤◌, Bool, true, false, cond, ◌==◌, ◌&&◌, List}
use Rattle.std.proofs.Common.{[], ◌∷◌, ◌++◌, refl, sym, ◌∙◌, ap, subst, inl, inr, ⊎_elim, Option}
use Rattle.std.proofs.Common.{Some, None, Result, Ok, Err, arith}
use Rattle.std.specs.Prelude.{find, is_some, nat_le, option_and_then}
use Rattle.std.specs.Option.{option_map}
use Rattle.std.specs.List.{AllByRecursion, list_all}
use Rattle.std.proofs.lemmas.Bool.{true≢false}
use Rattle.std.proofs.lemmas.Bool.Decides.{Decides-eqb}
use Rattle.file_rows.specs.Change.{new_file}
use Rattle.file_rows.specs.Content.{IsValid}
use Rattle.file_rows.specs.FileHead.{holds_files}
use Rattle.file_rows.specs.declared.head.FileHead.{FileHead}
use Rattle.file_rows.specs.declared.head.Kind.{Kind}
use Rattle.file_rows.specs.declared.head.Kind.TheVariants.{Directory as DirectoryKind, Application}
use Rattle.file_rows.specs.declared.pin.PinRow.{PinRow}
use Rattle.file_rows.specs.declared.row.FileRow.{FileRow}
use Rattle.file_rows.proofs.FindLemmas.{found_has}
use Rattle.fcp_codec.specs.Creation.{HoldsFilesAt, created_as, created_with, head_told, is_good}
use Rattle.fcp_codec.specs.Creation.{kind_for, size_told}
use Rattle.fcp_codec.specs.FileForm.{form_of}
use Rattle.fcp_codec.specs.declared.creation.CreationFault.{CreationFault}
use Rattle.fcp_codec.specs.declared.creation.InUse.{InUse}
use Rattle.fcp_codec.specs.declared.fcp.Fcp.{Fcp}
use Rattle.fcp_codec.specs.declared.fcp.FileForm.{FileForm}
use Rattle.fcp_codec.specs.declared.fcp.FileForm.TheVariants.{Directory, Transparent, Linear}
use Rattle.fcp_codec.specs.declared.fcp.FileForm.TheVariants.{Cyclic}
use Rattle.fcp_codec.proofs.CreationLemmas.{le_of, made_is as head_is, two_hold}
use Rattle.file_templates.specs.Templates.{TemplateRow, is_row_at, row_at, template_rows}
use Rattle.file_templates.specs.declared.template_row.Row.{Row}
use Rattle.profile_install.specs.Draft.{head_made, head_of_row, in_use_now, with_new_file}
use Rattle.profile_install.specs.Package.{content_of_draft}
use Rattle.profile_install.specs.Template.{directory_of}
use Rattle.profile_install.specs.TemplateFile.{descriptor_meant, is_kind_kept, is_name_due}
use Rattle.profile_install.specs.TemplateFile.{parameters_given, parameters_of, row_descriptor}
use Rattle.profile_install.specs.declared.draft.Draft.{Draft}
use Rattle.profile_install.specs.declared.fault.ElementFault.TheVariants.{BadParameter}
use Rattle.profile_install.proofs.FilesFit.{made_is, master_fits, master_path}
use Rattle.profile_install.proofs.GoodDraft.{Goes, IsGood, goes_with, head_fits, new_there, no_pins}
use Rattle.profile_install.proofs.Oks.{if_ok, not_ok, ok_is, then_ok}

-- the templates that have elements of their own
pub data IsTemplate : ℕ → Type 0 where
  MasterFile : IsTemplate 1
  Telecom : IsTemplate 3
  Usim : IsTemplate 4
  OptUsim : IsTemplate 5
  Isim : IsTemplate 8

-- what has to be there before the file at a position of a template is made
pub record IsReady (template position : ℕ) (draft : Draft) : Type 0 where
  pub none : template ≡ 1 → position ≤ 2 → draft.rows ≡ []
  pub early : template ≢ 1 → position ≤ 2 → HoldsFilesAt draft.rows []
  pub late : 3 ≤ position → HoldsFilesAt draft.rows (directory_of template)
  pub optional : template ≡ 5 → HoldsFilesAt draft.rows (directory_of 5)

-- the first row of a template's is at position 2
abbrev starts_at_two : TemplateRow → Bool
starts_at_two row = nat_le 2 row.row.position

all_start : list_all starts_at_two template_rows ≡ true
unfolding template_rows
all_start = refl

each_of_all : {X : Type 0} (test : X → Bool) (xs : List X) → list_all test xs ≡ true
    → AllByRecursion (λ x. test x ≡ true) xs
each_of_all test [] e = tt
each_of_all test (x ∷ xs) e = let both = two_hold (test x) (list_all test xs) e in
    (both.0, each_of_all test xs both.1)

found_is : {X : Type 0} (test : X → Bool) (xs : List X) (x : X) → find test xs ≡ Some x
    → test x ≡ true
found_is test [] x e = absurd (cc)
found_is {X} test (y ∷ xs) x e =
    let step : (b : Bool) → test y ≡ b → cond b (Some y) (find test xs) ≡ Some x → test x ≡ true
    = λ b. elim b as (λ b. test y ≡ b → cond b (Some y) (find test xs) ≡ Some x → test x ≡ true) [
      | true ↦ λ passes f. let same : y ≡ x = cc in ap test (sym same) ∙ passes
      | false ↦ λ fails f. found_is test xs x f
    ]
    in step (test y) refl e

mapped_is : (o : Option TemplateRow) (row : Row)
    → option_map (λ (r : TemplateRow). r.row) o ≡ Some row
    → (r : TemplateRow) × (o ≡ Some r) × (r.row ≡ row)
mapped_is None row e = absurd (cc)
mapped_is (Some r) row e = (r, refl, cc)

-- the row at a position has it, and it is 2 or more
pub row_is : (template position : ℕ) (row : Row) → row_at template position ≡ Some row
    → (row.position ≡ position) × (2 ≤ position)
row_is template position row e =
    let m = mapped_is (find (is_row_at template position) template_rows) row e in
    let both = two_hold (m.0.template == template) (m.0.row.position == position)
    (found_is (is_row_at template position) template_rows m.0 m.1) in
    let here : m.0.row.position ≡ position = (Decides-eqb m.0.row.position position).0 both.1 in
    let two = found_has (λ (r : TemplateRow). nat_le 2 r.row.position ≡ true)
    (is_row_at template position) template_rows m.0
    (each_of_all starts_at_two template_rows all_start) m.1 in (
      ap (λ (r : Row). r.position) (sym m.2) ∙ here,
      omega
          (arith, here, le_of 2 m.0.row.position two),
    )

-- the head that parameters of a directory make
module _ (used : InUse) (directory : List ℕ) (fcp : Fcp) (id : ℕ) where
  made_of : Option FileForm → Option ℕ → Result FileHead CreationFault
  made_of form id = created_as used directory fcp
      (option_and_then (λ form. option_and_then
      (λ id. option_map (λ size. record { form = form; id = id; size = size })
      (size_told form fcp.size)) id) form)

  holds : (named : Bool) → holds_files (kind_for Directory named) ≡ true
  holds true = refl
  holds false = refl

  pub makes_directory : (head : FileHead) → fcp.id ≡ Some id
      → form_of fcp.descriptor ≡ Some Directory → created_with used directory fcp ≡ Ok head
      → (head.path ≡ directory ++ id ∷ []) × (holds_files head.kind ≡ true)
  unfolding made_of
  makes_directory head given form e =
      let made : made_of (Some Directory) (Some id) ≡ Ok head = sym
      (ap (made_of (Some Directory)) given) ∙ sym
      (ap (λ (f : Option FileForm). made_of f fcp.id) form) ∙ e in
      let parts = head_is (is_good used directory fcp
      (record { form = Directory; id = id; size = 0 })) used.id used.name
      (nat_le (used.bytes + (0 + 32)) 65536)
      (head_told used directory fcp (record { form = Directory; id = id; size = 0 })) head made in (
        ap (λ (h : FileHead). h.path) (sym parts.4),
        ap (λ (h : FileHead). holds_files h.kind)
            (sym parts.4) ∙ holds (is_some fcp.name),
      )

-- a directory's or an application's descriptor stays that of a directory
kept_form : (kind : Kind) (form : FileForm) → (kind ≡ DirectoryKind) ⊎ (kind ≡ Application)
    → is_kind_kept kind (Some form) ≡ true → form ≡ Directory
kept_form kind form either e = ⊎_elim
    (λ is. of_directory form (subst (λ (k : Kind). is_kind_kept k (Some form) ≡ true) is e))
    (λ is. of_application form (subst (λ (k : Kind). is_kind_kept k (Some form) ≡ true) is e))
    either
  where
    of_directory : (form : FileForm) → is_kind_kept DirectoryKind (Some form) ≡ true
        → form ≡ Directory
    of_directory Directory e = refl
    of_directory Transparent e = absurd (true≢false (sym e))
    of_directory (Linear n) e = absurd (true≢false (sym e))
    of_directory (Cyclic n) e = absurd (true≢false (sym e))

    of_application : (form : FileForm) → is_kind_kept Application (Some form) ≡ true
        → form ≡ Directory
    of_application Directory e = refl
    of_application Transparent e = absurd (true≢false (sym e))
    of_application (Linear n) e = absurd (true≢false (sym e))
    of_application (Cyclic n) e = absurd (true≢false (sym e))

row_form : (kind : Kind) (record_len : ℕ) → (kind ≡ DirectoryKind) ⊎ (kind ≡ Application)
    → form_of (row_descriptor kind record_len) ≡ Some Directory
row_form kind n either = ⊎_elim
    (λ is. subst (λ (k : Kind). form_of (row_descriptor k n) ≡ Some Directory) (sym is) refl)
    (λ is. subst (λ (k : Kind). form_of (row_descriptor k n) ≡ Some Directory) (sym is) refl)
    either

meant_form : (row : Row) (given : Fcp) → (row.kind ≡ DirectoryKind) ⊎ (row.kind ≡ Application)
    → is_kind_kept row.kind (form_of given.descriptor) ≡ true
    → form_of (descriptor_meant row given) ≡ Some Directory
meant_form row given either kept = by_form (form_of given.descriptor) refl kept
  where
    by_form : (o : Option FileForm) → form_of given.descriptor ≡ o → is_kind_kept row.kind o ≡ true
        → form_of (cond (is_some o) given.descriptor (row_descriptor row.kind row.record_len)) ≡
        Some Directory
    by_form None is kept = row_form row.kind row.record_len either
    by_form (Some form) is kept = is ∙ ap Some (kept_form row.kind form either kept)

-- the parameters of a template's directory
given_form : (row : Row) (given fcp : Fcp) → (row.kind ≡ DirectoryKind) ⊎ (row.kind ≡ Application)
    → parameters_of row given ≡ Ok fcp
    → (fcp.id ≡ Some row.id) × (form_of fcp.descriptor ≡ Some Directory)
given_form row given fcp either e =
    if_ok (is_kind_kept row.kind (form_of given.descriptor) && is_name_due row.kind given.name)
    (Ok (parameters_given row given)) (Err BadParameter) fcp e
    (λ holds is.
    let same : parameters_given row given ≡ fcp = ok_is (parameters_given row given) fcp is in
    let kept = two_hold (is_kind_kept row.kind (form_of given.descriptor))
    (is_name_due row.kind given.name) holds in (
      ap (λ (f : Fcp). f.id) (sym same),
      ap (λ (f : Fcp). form_of f.descriptor) (sym same) ∙
          meant_form row given either kept.0,
    ))
    (λ fails is. absurd (not_ok BadParameter fcp is))

-- the directory or application at position 2
module _ (draft : Draft) (row : Row) (given : Fcp) (good : IsGood draft) where
  -- a file of a directory that is there
  pub in_directory : (directory : List ℕ) (head : FileHead) → HoldsFilesAt draft.rows directory
      → head_of_row draft false directory row given ≡ Ok head
      → Goes draft (with_new_file draft head)
  in_directory directory head there e =
      let made = then_ok (head_made draft directory) (parameters_of row given) head e in
      let fits = head_fits draft directory made.0 head good there made.2 in
      goes_with draft head good fits.after

  pub directory_is_there : (head : FileHead)
      → (row.kind ≡ DirectoryKind) ⊎ (row.kind ≡ Application)
      → head_of_row draft false [] row given ≡ Ok head
      → HoldsFilesAt (with_new_file draft head).rows (row.id ∷ [])
  directory_is_there head either e =
      let made = then_ok (head_made draft []) (parameters_of row given) head e in
      let formed = given_form row given made.0 either made.1 in
      let is = makes_directory (in_use_now draft [] made.0) [] made.0 row.id head formed.0 formed.1
      (made_is (created_with (in_use_now draft [] made.0) [] made.0) head made.2) in
      subst (HoldsFilesAt (draft.rows ++ new_file head ∷ [])) is.0 (new_there draft.rows head is.1)

  -- the MF, before which nothing is there
  pub master_goes : (directory : List ℕ) (head : FileHead) → draft.rows ≡ []
      → head_of_row draft true directory row given ≡ Ok head
      → Goes draft (with_new_file draft head) × HoldsFilesAt (with_new_file draft head).rows []
  master_goes directory head none e =
      let alone : IsValid (record { rows = new_file head ∷ []; pins = [] }) = master_fits row given
      head e in
      let rows : new_file head ∷ [] ≡ draft.rows ++ new_file head ∷ [] = ap
      (λ (rows : List FileRow). rows ++ new_file head ∷ []) (sym none) in
      let valid : IsValid (content_of_draft (with_new_file draft head)) =
      subst (λ (pins : List PinRow). IsValid
      (record { rows = draft.rows ++ new_file head ∷ []; pins = pins }))
      (sym (no_pins draft good none))
      (subst (λ (rows : List FileRow). IsValid (record { rows = rows; pins = [] })) rows alone) in
      let at = master_path row given head e in (
        goes_with draft head good valid,
        subst (HoldsFilesAt (draft.rows ++ new_file head ∷ []))
            at.0 (new_there draft.rows head at.1),
      )

-- the file at position 2 of a template with a directory, and the directory of the others
pub record StartsWith (template : ℕ) : Type 0 where
  pub row : Row
  pub at : row_at template 2 ≡ Some row
  pub kind : (row.kind ≡ DirectoryKind) ⊎ (row.kind ≡ Application)
  pub path : row.id ∷ [] ≡ directory_of template

pub starts_telecom : StartsWith 3
unfolding template_rows
starts_telecom = record { row = _; at = refl; kind = inl refl; path = refl }

pub starts_usim : StartsWith 4
unfolding template_rows
starts_usim = record { row = _; at = refl; kind = inr refl; path = refl }

pub starts_isim : StartsWith 8
unfolding template_rows
starts_isim = record { row = _; at = refl; kind = inr refl; path = refl }

starts_master : (row : Row) × (row_at 1 2 ≡ Some row)
unfolding template_rows
starts_master = (_, refl)
