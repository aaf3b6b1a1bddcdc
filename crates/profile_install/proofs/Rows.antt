-- Making the files at the positions of a template, one after another.
use Rattle.std.proofs.Common.{◌≡◌, ℕ, suc, ◌+◌, ◌-◌, ◌<◌, sym, ◌∙◌, ap, Result, Ok, Err, arith}
use Rattle.file_templates.specs.Templates.{row_at}
use Rattle.profile_install.specs.ElementResult.{ComesTo, then_with}
use Rattle.profile_install.specs.Template.{no_fields, with_row_at, with_rows}
use Rattle.profile_install.specs.declared.draft.Draft.{Draft}
use Rattle.profile_install.specs.declared.fault.ElementFault.{ElementFault}
use Rattle.profile_install.specs.declared.fault.StepFault.{StepFault}
use Rattle.profile_install.specs.declared.fault.StepFault.TheVariants.{Refused, OutOfMemory}

module _ (template position upto : ℕ) (draft : Draft) (below : position < upto) where
  step : with_rows template position (upto - position) draft ≡ then_with
      (with_rows template (position + 1) (upto - (position + 1)))
      (with_row_at draft template (row_at template position) no_fields)
  step =
      let e : upto - position ≡ suc (upto - (position + 1)) = omega (arith, below) in
      ap (λ (k : ℕ). with_rows template position k draft) e

  pub rows_on : (next : Draft) (whole : Result Draft ElementFault)
      → with_rows template position (upto - position) draft ≡ whole
      → with_row_at draft template (row_at template position) no_fields ≡ Ok next
      → with_rows template (position + 1) (upto - (position + 1)) next ≡ whole
  rows_on next whole e made =
      ap (λ (r : Result Draft ElementFault). then_with
      (with_rows template (position + 1) (upto - (position + 1))) r) (sym made) ∙ sym step ∙ e

  pub rows_end : (fault : StepFault) (whole : Result Draft ElementFault)
      → with_rows template position (upto - position) draft ≡ whole
      → ComesTo (let r : Result Draft StepFault = Err fault in r)
      (with_row_at draft template (row_at template position) no_fields)
      → ComesTo (let r : Result Draft StepFault = Err fault in r) whole
  rows_end (Refused f) whole e made =
      sym e ∙ step ∙ ap (λ (r : Result Draft ElementFault). then_with
      (with_rows template (position + 1) (upto - (position + 1))) r) made
  rows_end OutOfMemory whole e made = tt
