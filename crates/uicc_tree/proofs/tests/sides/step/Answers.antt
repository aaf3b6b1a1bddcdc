use Rattle.std.proofs.Common.{sym, ◌∙◌, ap, subst}
use Rattle.file_rows.specs.Content.{IsValid}
use Rattle.file_rows.specs.declared.content.Content.{Content}
use Rattle.uicc_tree.specs.Change.{rows_after}
use Rattle.uicc_tree.proofs.ApplyLemmas.{rows_alike}
use Rattle.uicc_tree.proofs.TestLemmas.{fits_tree, rows_kept}
use Rattle.uicc_tree.proofs.tests.sides.step.Goals as goal

pub reserve-requires : goal.reserve-requires
reserve-requires c = fits_tree c.args.tree.now c.args.content.now c.args.change.now c.requires.same (c.fits.ensures.0 c.if-not-fits.false)

pub apply-requires-clause-fits : goal.apply-requires-clause-fits
apply-requires-clause-fits c =
    let kept = rows_kept c.args.tree.now c.reserve.new.self c.in_ok-reserve.ensures.nodes c.in_ok-reserve.ensures.cells in
    fits_tree c.reserve.new.self c.args.content.now c.args.change.now (kept ∙ c.requires.same) (c.fits.ensures.0 c.if-not-fits.false)

pub returns-clause-same : goal.returns-clause-same
returns-clause-same c =
    let content = c.args.content.now in
    let kept = rows_kept c.args.tree.now c.reserve.new.self c.in_ok-reserve.ensures.nodes c.in_ok-reserve.ensures.cells in
    c.apply.ensures.rows ∙ ap (λ rows. rows_after rows c.args.change.now) (kept ∙ c.requires.same)
    ∙ sym (rows_alike content.rows content.pins c.args.change.now) ∙ ap (λ (x : Content). x.rows) (sym c.in_ok-after.ensures)

pub returns-clause-valid : goal.returns-clause-valid
returns-clause-valid c = subst IsValid (sym c.in_ok-after.ensures) (c.fits.ensures.0 c.if-not-fits.false).after
