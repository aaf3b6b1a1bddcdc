-- A template's file fits the content to which it is added.
use Rattle.std.proofs.Common.{◌≡◌, ℕ, ◌+◌, Bool, true, false, cond, ◌&&◌, List, [], ◌∷◌, length}
use Rattle.std.proofs.Common.{refl, sym, ap, subst, inr, Result, Ok, Err, arith}
use Rattle.std.specs.Prelude.{unwrap_or}
use Rattle.std.proofs.lemmas.List.Sums.{sum_by-cons}
use Rattle.file_rows.specs.Change.{Fits, new_file}
use Rattle.file_rows.specs.Content.{IsValid}
use Rattle.file_rows.specs.FileHead.{holds_files}
use Rattle.file_rows.specs.declared.change.Change.TheVariants.{FileAdd}
use Rattle.file_rows.specs.declared.content.Content.{Content}
use Rattle.file_rows.specs.declared.head.FileHead.{FileHead}
use Rattle.file_rows.specs.declared.head.Kind.TheVariants.{Master}
use Rattle.file_rows.specs.declared.head.Life.{Life}
use Rattle.file_rows.specs.declared.head.Life.TheVariants.{Active}
use Rattle.file_rows.specs.declared.row.FileRow.{FileRow}
use Rattle.fcp_codec.specs.Creation.{HoldsFilesAt, created}
use Rattle.fcp_codec.specs.FileForm.{form_of}
use Rattle.fcp_codec.specs.declared.creation.CreationFault.{CreationFault}
use Rattle.fcp_codec.specs.declared.fcp.Fcp.{Fcp}
use Rattle.fcp_codec.specs.declared.fcp.RuleRef.{RuleRef}
use Rattle.fcp_codec.specs.declared.fcp.RuleRef.TheVariants.{Row as RowOf}
use Rattle.fcp_codec.proofs.CreationFits.{made_fits}
use Rattle.file_templates.specs.declared.template_row.Row.{Row}
use Rattle.profile_install.specs.ElementResult.{then_with}
use Rattle.profile_install.specs.TemplateFile.{described, described_master, is_kind_kept}
use Rattle.profile_install.specs.TemplateFile.{is_name_due, made_result, master_with, parameters_of}
use Rattle.profile_install.specs.declared.fault.ElementFault.{ElementFault}
use Rattle.profile_install.specs.declared.fault.ElementFault.TheVariants.{BadParameter}

pub made_is : (r : Result FileHead CreationFault) (head : FileHead) → made_result r ≡ Ok head
    → r ≡ Ok head
made_is (Ok h) head e =
    let same : h ≡ head = cc in
    ap (λ (x : FileHead). let r : Result FileHead CreationFault = Ok x in r) same
made_is (Err f) head e = absurd (cc)

module _ (content : Content) (directory : List ℕ) (valid : IsValid content)
    (there : HoldsFilesAt content.rows directory) where
  of_parameters : (p : Result Fcp ElementFault) (head : FileHead)
      → then_with (λ (q : Fcp). made_result (created content.rows directory q)) p ≡ Ok head
      → Fits content (FileAdd head)
  of_parameters (Ok q) head e = made_fits content directory q valid there head
      (made_is (created content.rows directory q) head e)
  of_parameters (Err f) head e = absurd (cc)

  pub template_fits : (row : Row) (given : Fcp) (head : FileHead)
      → described content.rows directory row given ≡ Ok head → Fits content (FileAdd head)
  template_fits row given head e = of_parameters (parameters_of row given) head e

-- the MF alone
master_valid : (life : Life) (rule : RuleRef)
    → IsValid (record { rows = new_file (master_with life rule) ∷ []; pins = [] })
master_valid life rule = record {
  quota = omega (
    arith,
    sum_by-cons (λ (row : FileRow). length row.body + 32)
        (new_file (master_with life rule)) [],
  );
  few_pins = omega arith;
  system = inr (record {
    files = record {
      tree = (refl, tt, tt);
      each = (
        record {
          depth = omega arith;
          form = record {
            path = refl;
            name = refl;
            bare = record { size = refl; record_len = refl; sfi = refl };
          };
        },
        tt,
      );
      bodies = (refl, tt);
      paths = (tt, tt);
      sfis = (tt, tt);
      names = (tt, tt);
    };
    pins = record { each = tt; homes = tt; numbers = tt; keys = tt };
  });
}

pub master_of : (b : Bool) (made head : FileHead)
    → (let r : Result FileHead ElementFault = cond b (Ok made) (Err BadParameter) in r) ≡ Ok head
    → made ≡ head
master_of true made head e = cc
master_of false made head e = absurd (cc)

pub master_fits : (row : Row) (given : Fcp) (head : FileHead)
    → described_master row given ≡ Ok head
    → IsValid (record { rows = new_file head ∷ []; pins = [] })
master_fits row given head e =
    subst (λ (h : FileHead). IsValid (record { rows = new_file h ∷ []; pins = [] }))
    (master_of (is_kind_kept Master (form_of given.descriptor) && is_name_due Master given.name)
    (master_with (unwrap_or given.life Active) (unwrap_or given.rule (RowOf row.rule))) head e)
    (master_valid (unwrap_or given.life Active) (unwrap_or given.rule (RowOf row.rule)))

-- the MF's head
pub master_path : (row : Row) (given : Fcp) (head : FileHead)
    → described_master row given ≡ Ok head → (head.path ≡ []) × (holds_files head.kind ≡ true)
master_path row given head e =
    let is = master_of (is_kind_kept Master (form_of given.descriptor) && is_name_due Master
    given.name)
    (master_with (unwrap_or given.life Active) (unwrap_or given.rule (RowOf row.rule))) head e in
    (ap (λ (h : FileHead). h.path) (sym is), ap (λ (h : FileHead). holds_files h.kind) (sym is))
