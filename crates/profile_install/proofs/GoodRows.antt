-- The files of a template, one after another, keep a draft good.
use Rattle.std.proofs.Common.{◌≡◌, ◌≢◌, ◌⊎◌, ℕ, zero, suc, ◌+◌, ◌-◌, ◌≤◌, Bool, true, false, cond}
use Rattle.std.proofs.Common.{not, ◌==◌, ◌&&◌, ◌||◌, List, [], ◌∷◌, length, refl, sym, ◌∙◌, ap}
use Rattle.std.proofs.Common.{subst, inl, inr, ⊎_elim, Option, Some, None, Ok, Err, arith}
use Rattle.std.specs.Prelude.{nat_lt}
use Rattle.std.proofs.lemmas.Bool.{true≢false}
use Rattle.std.proofs.lemmas.Bool.Decides.{Decides-eqb, nat_tests}
use Rattle.file_rows.specs.declared.head.FileHead.{FileHead}
use Rattle.file_rows.specs.declared.head.Kind.TheVariants.{Directory as DirectoryKind, Application}
use Rattle.fcp_codec.specs.Creation.{HoldsFilesAt}
use Rattle.fcp_codec.specs.declared.fcp.Fcp.{Fcp}
use Rattle.file_templates.specs.Templates.{row_at, template_rows}
use Rattle.file_templates.specs.declared.template_row.Row.{Row}
use Rattle.profile_install.specs.Draft.{filled, head_of_row, last_file, skip_count, skipped}
use Rattle.profile_install.specs.Draft.{with_new_file}
use Rattle.profile_install.specs.ElementResult.{then_with}
use Rattle.profile_install.specs.Template.{at_file_end, at_list_end, at_position, directory_at}
use Rattle.profile_install.specs.Template.{directory_of, is_master_at, just_made, left_out}
use Rattle.profile_install.specs.Template.{made_before, no_fields, present, row_given, skipped_in}
use Rattle.profile_install.specs.Template.{with_descriptor, with_not_given, with_part, with_present}
use Rattle.profile_install.specs.Template.{with_row, with_row_at, with_rows}
use Rattle.profile_install.specs.declared.draft.Draft.{Draft}
use Rattle.profile_install.specs.declared.draft.Filled.{Filled}
use Rattle.profile_install.specs.declared.fault.ElementFault.TheVariants.{Malformed, BadParameter}
use Rattle.profile_install.specs.declared.template.FileParts.{FileParts}
use Rattle.profile_install.specs.declared.template.FileParts.TheVariants.{Awaited, LeftOut, Made}
use Rattle.profile_install.specs.declared.template.TemplateList.{TemplateList}
use Rattle.profile_install.proofs.GoodDraft.{Goes, IsGood, fill_goes, goes_nowhere, goes_on}
use Rattle.profile_install.proofs.GoodTemplate.{IsReady, IsTemplate, StartsWith, directory_is_there}
use Rattle.profile_install.proofs.GoodTemplate.{in_directory, master_goes, row_is, starts_isim}
use Rattle.profile_install.proofs.GoodTemplate.{starts_telecom, starts_usim}
use Rattle.profile_install.proofs.GoodTemplate.IsTemplate.{MasterFile, Telecom, Usim, OptUsim, Isim}
use Rattle.profile_install.proofs.Oks.{if_ok, not_ok, ok_is, then_ok}

-- each template has a file at position 2
has_second : (template : ℕ) → IsTemplate template → row_at template 2 ≡ None → ⊥
unfolding template_rows
has_second _ MasterFile e = cc
has_second _ Telecom e = cc
has_second _ Usim e = cc
has_second _ OptUsim e = cc
has_second _ Isim e = cc

three_of : (p : ℕ) → 3 ≤ p + 1 → p ≢ 2 → 3 ≤ p
three_of zero h other = absurd (omega (arith, h))
three_of (suc zero) h other = absurd (omega (arith, h))
three_of (suc (suc zero)) h other = absurd (other refl)
three_of (suc (suc (suc p))) h other = omega arith

two_or_more : (p : ℕ) → 2 ≤ p → (p ≡ 2) ⊎ (3 ≤ p)
two_or_more zero h = absurd (omega (arith, h))
two_or_more (suc zero) h = absurd (omega (arith, h))
two_or_more (suc (suc zero)) h = inl refl
two_or_more (suc (suc (suc p))) h = inr (omega arith)

ready_next : (template p : ℕ) (draft : Draft) → IsReady template p draft → p ≢ 2
    → IsReady template (p + 1) draft
ready_next template p draft ready other = record {
  none = λ is few. ready.none is (omega (arith, few));
  early = λ is few. ready.early is (omega (arith, few));
  late = λ many. ready.late (three_of p many other);
  optional = ready.optional;
}

-- behind position 2 nothing more is needed
pub ready_stays : (template p q : ℕ) (old new : Draft) → IsReady template p old → 3 ≤ p → p ≤ q
    → Goes old new → IsReady template q new
ready_stays template p q old new ready many up goes = record {
  none = λ is few. absurd (omega (arith, many, few, up));
  early = λ is few. absurd (omega (arith, many, few, up));
  late = λ more. goes.keeps (directory_of template) (ready.late many);
  optional = λ is. goes.keeps (directory_of 5) (ready.optional is);
}

ready_optional : (p q : ℕ) (old new : Draft) → IsReady 5 p old → p ≤ q → Goes old new
    → IsReady 5 q new
ready_optional p q old new ready up goes = record {
  none = λ is few. absurd (omega (arith, is));
  early = λ is few. goes.keeps [] (ready.early is (omega (arith, few, up)));
  late = λ more. goes.keeps (directory_of 5) (ready.optional refl);
  optional = λ is. goes.keeps (directory_of 5) (ready.optional refl);
}

ready_from : (template : ℕ) (new : Draft) → template ≢ 5
    → HoldsFilesAt new.rows (directory_of template) → IsReady template 3 new
ready_from template new other there = record {
  none = λ is few. absurd (omega (arith, few));
  early = λ is few. absurd (omega (arith, few));
  late = λ more. there;
  optional = λ is. absurd (other is);
}

and_false : (b : Bool) → (b && false) ≡ false
and_false true = refl
and_false false = refl

is_not : (p : ℕ) → 3 ≤ p → (p == 2) ≡ false
is_not p h = grind (arith, nat_tests)

module _ (template : ℕ) (draft new : Draft) (row : Row) (given : Fcp) (good : IsGood draft) where
  -- a file behind position 2
  later_made : 3 ≤ row.position → IsReady template row.position draft
      → with_row draft template row given ≡ Ok new
      → Goes draft new × IsReady template (row.position + 1) new
  later_made many ready e =
      let made = then_ok (λ (head : FileHead). Ok (with_new_file draft head))
      (head_of_row draft (is_master_at template row.position)
      (directory_at template row.position) row given) new e in
      let one : head_of_row draft ((template == 1) && false) (directory_of template) row given ≡ Ok
      made.0 =
      sym (ap (λ (b : Bool). head_of_row draft ((template == 1) && b)
      (cond (b && not (template == 5)) [] (directory_of template)) row given)
      (is_not row.position many)) ∙ made.1 in
      let two : head_of_row draft false (directory_of template) row given ≡ Ok made.0 =
      sym (ap (λ (b : Bool). head_of_row draft b (directory_of template) row given)
      (and_false (template == 1))) ∙ one in
      let goes : Goes draft new = subst (Goes draft) (ok_is (with_new_file draft made.0) new made.2)
      (in_directory draft row given good (directory_of template) made.0 (ready.late many) two) in (
        goes,
        ready_stays template row.position (row.position + 1) draft new ready many
            (omega arith) goes,
      )

  -- the directory at position 2
  directory_made : StartsWith template → template ≢ 1 → template ≢ 5
      → is_master_at template 2 ≡ false → directory_at template 2 ≡ []
      → row_at template 2 ≡ Some row
      → IsReady template 2 draft → (head : FileHead)
      → head_of_row draft (is_master_at template 2) (directory_at template 2) row given ≡ Ok
      head
      → with_new_file draft head ≡ new → Goes draft new × IsReady template 3 new
  directory_made starts other optional master at is ready head e same =
      let row_same : starts.row ≡ row = let some : Some starts.row ≡ Some row = sym starts.at ∙ is
      in cc in
      let made : head_of_row draft false [] row given ≡ Ok head =
      sym (ap (λ (b : Bool). head_of_row draft b [] row given) master) ∙ sym
      (ap (λ (d : List ℕ). head_of_row draft (is_master_at template 2) d row given) at) ∙ e in
      let goes : Goes draft new = subst (Goes draft) same
      (in_directory draft row given good [] head (ready.early other (omega arith)) made) in
      let kind = subst (λ (r : Row). (r.kind ≡ DirectoryKind) ⊎ (r.kind ≡ Application)) row_same
      starts.kind in
      let path : row.id ∷ [] ≡ directory_of template = ap (λ (r : Row). r.id ∷ []) (sym row_same) ∙
      starts.path in
      let there : HoldsFilesAt new.rows (directory_of template) =
      subst (λ (d : Draft). HoldsFilesAt d.rows (directory_of template)) same
      (subst (HoldsFilesAt (with_new_file draft head).rows) path
      (directory_is_there draft row given good head kind made)) in
      (goes, ready_from template new optional there)

second_made : (template : ℕ) (draft new : Draft) (row : Row) (given : Fcp) → IsGood draft
    → IsTemplate template → row_at template 2 ≡ Some row → IsReady template 2 draft
    → (head : FileHead)
    → head_of_row draft (is_master_at template 2) (directory_at template 2) row given ≡ Ok head
    → with_new_file draft head ≡ new → Goes draft new × IsReady template 3 new
second_made _ draft new row given good MasterFile is ready head e same =
    let made = master_goes draft row given good [] head (ready.none refl (omega arith)) e in (
      subst (Goes draft) same made.0,
      ready_from 1 new (λ e. omega (arith, e))
          (subst (λ (d : Draft). HoldsFilesAt d.rows []) same made.1),
    )
second_made _ draft new row given good Telecom is ready head e same =
    directory_made 3 draft new row given good starts_telecom (λ e. omega (arith, e))
    (λ e. omega (arith, e)) refl refl is ready head e same
second_made _ draft new row given good Usim is ready head e same =
    directory_made 4 draft new row given good starts_usim (λ e. omega (arith, e))
    (λ e. omega (arith, e)) refl refl is ready head e same
second_made _ draft new row given good OptUsim is ready head e same =
    let goes = subst (Goes draft) same
    (in_directory draft row given good (directory_of 5) head (ready.optional refl) e) in
    (goes, ready_optional 2 3 draft new ready (omega arith) goes)
second_made _ draft new row given good Isim is ready head e same =
    directory_made 8 draft new row given good starts_isim (λ e. omega (arith, e))
    (λ e. omega (arith, e)) refl refl is ready head e same

-- the file at a position, where there is one
module _ (template p : ℕ) (draft new : Draft) (given : Fcp) (is_template : IsTemplate template)
    (good : IsGood draft) (ready : IsReady template p draft) where
  some_made : (row : Row) → row_at template p ≡ Some row
      → with_row draft template row given ≡ Ok new → Goes draft new × IsReady template (p + 1) new
  some_made row is e =
      let at = row_is template p row is in
      ⊎_elim
      (λ two.
      let here : row.position ≡ 2 = at.0 ∙ two in
      let made = then_ok (λ (head : FileHead). Ok (with_new_file draft head))
      (head_of_row draft (is_master_at template row.position)
      (directory_at template row.position) row given) new e in
      let placed : head_of_row draft (is_master_at template 2) (directory_at template 2) row given
      ≡ Ok made.0 =
      sym (ap (λ (n : ℕ). head_of_row draft (is_master_at template n) (directory_at template n) row
      given) here) ∙ made.1 in
      let done = second_made template draft new row given good is_template
      (ap (row_at template) (sym two) ∙ is)
      (subst (λ (n : ℕ). IsReady template n draft) two ready) made.0 placed
      (ok_is (with_new_file draft made.0) new made.2) in
      (done.0, subst (λ (n : ℕ). IsReady template n new) (omega (arith, two)) done.1))
      (λ many.
      let done = later_made template draft new row given good (omega (arith, many, at.0))
      (subst (λ (n : ℕ). IsReady template n draft) (sym at.0) ready) e in
      (done.0, subst (λ (n : ℕ). IsReady template (n + 1) new) at.0 done.1))
      (two_or_more p at.1)

  pub row_made : with_row_at draft template (row_at template p) given ≡ Ok new
      → Goes draft new × IsReady template (p + 1) new
  row_made e = by_row (row_at template p) refl e
    where
      by_row : (o : Option Row) → row_at template p ≡ o
          → with_row_at draft template o given ≡ Ok new
          → Goes draft new × IsReady template (p + 1) new
      by_row None is e =
          let same : draft ≡ new = ok_is draft new e in
          subst (λ (d : Draft). Goes draft d × IsReady template (p + 1) d) same (
            goes_nowhere draft good,
            ready_next template p draft ready
                (λ two. has_second template is_template (ap (row_at template) (sym two) ∙ is)),
          )
      by_row (Some row) is e = some_made row is e

pub rows_made : (template : ℕ) → IsTemplate template → (count p : ℕ) (draft new : Draft)
    → IsGood draft → IsReady template p draft → with_rows template p count draft ≡ Ok new
    → Goes draft new × IsReady template (p + count) new
rows_made template is zero p draft new good ready e =
    let same : draft ≡ new = ok_is draft new e in
    subst (λ (d : Draft). Goes draft d × IsReady template (p + 0) d) same
    (goes_nowhere draft good, subst (λ (n : ℕ). IsReady template n draft) (omega arith) ready)
rows_made template is (suc count) p draft new good ready e =
    let made = then_ok (with_rows template (p + 1) count)
    (with_row_at draft template (row_at template p) no_fields) new e in
    let one = row_made template p draft made.0 no_fields is good ready made.1 in
    let rest = rows_made template is count (p + 1) made.0 new one.0.good one.1 made.2 in (
      goes_on draft made.0 new one.0 rest.0,
      subst (λ (n : ℕ). IsReady template n new) (omega arith)
          rest.1,
    )

not_given_made : (template from upto : ℕ) (draft new : Draft) → IsTemplate template → IsGood draft
    → IsReady template from draft → with_not_given template from upto draft ≡ Ok new
    → Goes draft new × IsReady template (from + (upto - from)) new
not_given_made template from upto draft new is good ready e =
    if_ok (template == 5) (Ok draft) (with_rows template from (upto - from) draft) new e
    (λ optional none.
    let five : template ≡ 5 = (Decides-eqb template 5).0 optional in
    let same : draft ≡ new = ok_is draft new none in
    let goes : Goes draft new = subst (Goes draft) same (goes_nowhere draft good) in (
      goes,
      subst (λ (t : ℕ). IsReady t (from + (upto - from)) new) (sym five)
          (ready_optional from (from + (upto - from)) draft new
          (subst (λ (t : ℕ). IsReady t from draft) five ready) (omega arith) goes),
    ))
    (λ other some. rows_made template is (upto - from) from draft new good ready some)

-- a position that is given is one of the template's, and not before the last
given_is : (list : TemplateList) (position : ℕ) (row : Row)
    → row_given list position (row_at list.template position) ≡ Ok row
    → (list.next ≤ position) × (2 ≤ position)
given_is list position row e = by_row (row_at list.template position) refl e
  where
    ascends : not list.begun || nat_lt position list.next ≡ false → list.next ≤ position
    ascends fails = up (not list.begun) fails
      where
        up : (b : Bool) → (b || nat_lt position list.next) ≡ false → list.next ≤ position
        up true fails = absurd (true≢false fails)
        up false fails = grind (arith, nat_tests)

    by_row : (o : Option Row) → row_at list.template position ≡ o
        → row_given list position o ≡ Ok row → (list.next ≤ position) × (2 ≤ position)
    by_row None is e = if_ok (not list.begun || nat_lt position list.next) (Err Malformed)
        (Err BadParameter) row e
        (λ fails no. absurd (not_ok Malformed row no))
        (λ holds no. absurd (not_ok BadParameter row no))
    by_row (Some found) is e = if_ok (not list.begun || nat_lt position list.next) (Err Malformed)
        (Ok found) row e
        (λ fails no. absurd (not_ok Malformed row no))
        (λ holds yes. (ascends holds, (row_is list.template position found is).1))

module _ (draft : Draft) (list : TemplateList) (is : IsTemplate list.template)
    (good : IsGood draft) where
  -- before a position that is given
  pub position_made : (position : ℕ) (new : Draft) → IsReady list.template list.next draft
      → at_position draft list position ≡ Ok new
      → Goes draft new × IsReady list.template position new × (2 ≤ position)
  position_made position new ready e =
      let made = then_ok (λ (_ : Row). with_not_given list.template list.next position draft)
      (row_given list position (row_at list.template position)) new e in
      let given = given_is list position made.0 made.1 in
      let done = not_given_made list.template list.next position draft new is good ready made.2 in (
        done.0,
        subst (λ (n : ℕ). IsReady list.template n new) (omega (arith, given.0)) done.1,
        given.1,
      )

  -- at the end of the list
  pub list_made : (new : Draft) → IsReady list.template list.next draft
      → at_list_end draft list ≡ Ok new
      → Goes draft new × HoldsFilesAt new.rows (directory_of list.template)
  list_made new ready e =
      if_ok list.begun (with_not_given list.template list.next 31 draft) (Err Malformed) new e
      (λ begun some.
      let done = not_given_made list.template list.next 31 draft new is good ready some in
      (done.0, done.1.late (omega arith)))
      (λ none no. absurd (not_ok Malformed new no))

  -- the file at the present position
  module _ (many : 3 ≤ list.next) where
    present_made : (given : Fcp) (new : Draft) → IsReady list.template (present list) draft
        → with_present draft list given ≡ Ok new
        → Goes draft new × IsReady list.template list.next new
    present_made given new ready e =
        let done = row_made list.template (present list) draft new given is good ready e in
        (done.0, subst (λ (n : ℕ). IsReady list.template n new) (omega (arith, many)) done.1)

    just : (given : Fcp) (done : Filled) → IsReady list.template (present list) draft
        → then_with just_made (with_present draft list given) ≡ Ok done
        → Goes draft done.draft × IsReady list.template list.next done.draft
    just given done ready e =
        let made = then_ok just_made (with_present draft list given) done e in
        let same : record { draft = made.0; file = last_file made.0 } ≡ done = ok_is
        (record { draft = made.0; file = last_file made.0 }) done made.2 in
        subst (λ (d : Filled). Goes draft d.draft × IsReady list.template list.next d.draft) same
        (present_made given made.0 ready made.1)

    pub descriptor_made : (given : Option Fcp) (done : Filled)
        → IsReady list.template (present list) draft → with_descriptor draft list given ≡ Ok done
        → Goes draft done.draft × IsReady list.template list.next done.draft
    descriptor_made None done ready e = absurd (not_ok Malformed done e)
    descriptor_made (Some given) done ready e = just given done ready e

-- what has to be there among a file's parts
abbrev pub PartsReady : TemplateList → FileParts → Draft → Type 0
PartsReady list Awaited draft = IsReady list.template (present list) draft
PartsReady list LeftOut draft = IsReady list.template list.next draft
PartsReady list (Made file) draft = IsReady list.template list.next draft

module _ (draft : Draft) (list : TemplateList) (is : IsTemplate list.template)
    (good : IsGood draft) (many : 3 ≤ list.next) where
  before_made : (parts : FileParts) (done : Filled) → PartsReady list parts draft
      → made_before draft list parts ≡ Ok done
      → Goes draft done.draft × IsReady list.template list.next done.draft
  before_made (Made file) done ready e =
      subst (λ (d : Filled). Goes draft d.draft × IsReady list.template list.next d.draft)
      (ok_is (record { draft = draft; file = file }) done e) (goes_nowhere draft good, ready)
  before_made LeftOut done ready e = absurd (not_ok Malformed done e)
  before_made Awaited done ready e = just draft list is good many no_fields done ready e

  pub file_end_made : (parts : FileParts) (new : Draft) → PartsReady list parts draft
      → at_file_end draft list parts ≡ Ok new
      → Goes draft new × IsReady list.template list.next new
  file_end_made (Made file) new ready e = subst
      (λ (d : Draft). Goes draft d × IsReady list.template list.next d) (ok_is draft new e)
      (goes_nowhere draft good, ready)
  file_end_made LeftOut new ready e = subst
      (λ (d : Draft). Goes draft d × IsReady list.template list.next d) (ok_is draft new e)
      (goes_nowhere draft good, ready)
  file_end_made Awaited new ready e = present_made draft list is good many no_fields new ready e

  -- a file that isn't made is none that others stand in
  pub left_out_ready : (parts now : FileParts) (value : List ℕ) → PartsReady list parts draft
      → left_out list parts value ≡ Ok now → PartsReady list now draft
  left_out_ready (Made file) now value ready e = absurd (not_ok Malformed now e)
  left_out_ready LeftOut now value ready e = absurd (not_ok Malformed now e)
  left_out_ready Awaited now value ready e =
      if_ok (not (length value == 0)) (Err Malformed)
      (cond ((present list == 2) && not (list.template == 5)) (Err BadParameter) (Ok LeftOut))
      now e
      (λ some no. absurd (not_ok Malformed now no))
      (λ none rest. if_ok ((present list == 2) && not (list.template == 5)) (Err BadParameter)
      (Ok LeftOut) now rest
      (λ fixed no. absurd (not_ok BadParameter now no))
      (λ free yes. subst (λ (p : FileParts). PartsReady list p draft) (ok_is LeftOut now yes)
      (passed free)))
    where
      by_place : (b : Bool) → (present list == 2) ≡ b → (b && not (list.template == 5)) ≡ false
          → IsReady list.template list.next draft
      by_place false other free =
          subst (λ (n : ℕ). IsReady list.template n draft) (omega (arith, many))
          (ready_next list.template (present list) draft ready
          (λ two. true≢false (sym ((Decides-eqb (present list) 2).1 two) ∙ other)))
      by_place true two free = by_five (list.template == 5) refl free
        where
          by_five : (b : Bool) → (list.template == 5) ≡ b → not b ≡ false
              → IsReady list.template list.next draft
          by_five false other free = absurd (true≢false free)
          by_five true five free =
              let is_five : list.template ≡ 5 = (Decides-eqb list.template 5).0 five in
              subst (λ (t : ℕ). IsReady t list.next draft) (sym is_five)
              (ready_optional (present list) list.next draft draft
              (subst (λ (t : ℕ). IsReady t (present list) draft) is_five ready) (omega arith)
              (goes_nowhere draft good))

      passed : ((present list == 2) && not (list.template == 5)) ≡ false
          → IsReady list.template list.next draft
      passed free = by_place (present list == 2) refl free

  -- a part of a file
  pub part_made : (parts : FileParts) (tag : ℕ) (value : List ℕ) (done : Filled)
      → PartsReady list parts draft → with_part draft list parts tag value ≡ Ok done
      → Goes draft done.draft × IsReady list.template list.next done.draft
  part_made parts tag value done ready e =
      if_ok (tag == 0x82) (then_with (skipped_in value) (made_before draft list parts))
      (cond (tag == 0x83) (then_with (λ done. filled done.draft done.file value)
      (made_before draft list parts)) (Err Malformed)) done e
      (λ skips is.
      let made = then_ok (skipped_in value) (made_before draft list parts) done is in
      let counted = then_ok (λ (count : ℕ). Ok
      (record made.0 { file = skipped made.0.file count })) (skip_count value) done made.2 in
      subst (λ (d : Filled). Goes draft d.draft × IsReady list.template list.next d.draft)
      (ok_is (record made.0 { file = skipped made.0.file counted.0 }) done counted.2)
      (before_made parts made.0 ready made.1))
      (λ other rest. if_ok (tag == 0x83)
      (then_with (λ (done : Filled). filled done.draft done.file value)
      (made_before draft list parts)) (Err Malformed) done rest
      (λ content is.
      let made = then_ok (λ (done : Filled). filled done.draft done.file value)
      (made_before draft list parts) done is in
      let before = before_made parts made.0 ready made.1 in
      let fills = fill_goes made.0.draft made.0.file value done before.0.good made.2 in (
        goes_on draft made.0.draft done.draft before.0 fills,
        ready_stays list.template list.next
            list.next made.0.draft done.draft before.1 many (omega arith) fills,
      ))
      (λ no is. absurd (not_ok Malformed done is)))
