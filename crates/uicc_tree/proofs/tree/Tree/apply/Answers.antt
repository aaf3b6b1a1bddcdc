use Rattle.std.proofs.Common.{◌≡◌, ◌≤◌, ℕ, List, sym, ◌∙◌, ap, subst}
use Rattle.file_rows.specs.Content.{use_of}
use Rattle.file_rows.specs.declared.content.TheConstants.{QUOTA}
use Rattle.file_rows.specs.declared.row.FileRow.{FileRow}
use Rattle.uicc_tree.specs.Arena.{files_of}
use Rattle.uicc_tree.specs.Change.{AreRows, FitsFiles, Outlives, rows_after}
use Rattle.uicc_tree.specs.Files.{Files, IsLive, path_of, rows_of}
use Rattle.uicc_tree.proofs.ApplyLemmas.{rows_fit}
use Rattle.uicc_tree.proofs.UsedLemmas.{quota_after}
use Rattle.uicc_tree.proofs.tree.Tree.apply.Goals as goal

pub change-requires-clause-fits : goal.change-requires-clause-fits
change-requires-clause-fits c = subst (λ (t : Files). FitsFiles t c.args.change.now) (sym c.self.view_is) c.requires.fits

pub invariant_of-self : goal.invariant_of-self
invariant_of-self c = record {
  kept = record {
    arena = c.change.ensures.arena;
    rows = subst (λ (rows : List FileRow). AreRows rows) (sym c.change.ensures.rows) (rows_fit (files_of c.self.inside.arena) c.args.change.now (subst (λ (t : Files). FitsFiles t c.args.change.now) (sym c.self.view_is) c.requires.fits));
    ready = tt;
  };
  used = c.used_after-used.ensures ∙ ap use_of (ap (λ (t : Files). rows_after (rows_of t) c.args.change.now) (sym c.self.view_is) ∙ sym c.change.ensures.rows);
  quota = subst (λ (rows : List FileRow). use_of rows ≤ QUOTA) (sym c.change.ensures.rows)
      (quota_after (files_of c.self.inside.arena) c.args.change.now (subst (λ (t : Files). FitsFiles t c.args.change.now) (sym c.self.view_is) c.requires.fits));
}

pub returns-clause-rows : goal.returns-clause-rows
returns-clause-rows c = c.change.ensures.rows ∙ ap (λ (t : Files). rows_after (rows_of t) c.args.change.now) c.self.view_is

pub returns-clause-stay : goal.returns-clause-stay
returns-clause-stay c =
    subst
    (λ (t : Files). (node : ℕ) → IsLive t node → Outlives (path_of t node) c.args.change.now
    → IsLive (files_of c.change.new.self) node × (path_of (files_of c.change.new.self) node ≡ path_of t node))
    c.self.view_is c.change.ensures.stay
