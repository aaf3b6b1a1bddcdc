use Rattle.std.proofs.Common.{sym, ◌∙◌, ap, subst, Some, None}
use Rattle.file_rows.specs.FileHead.{is_application}
use Rattle.file_rows.specs.Find.{child}
use Rattle.uicc_tree.specs.Arena.{files_of}
use Rattle.uicc_tree.specs.Files.{Files, Gives, path_of, rows_of}
use Rattle.uicc_tree.proofs.GivesLemmas.{gives_child, no_child}
use Rattle.uicc_tree.proofs.tree.Tree.child.Goals as goal

pub returns-then-is_application : goal.returns-then-is_application
returns-then-is_application c =
    let tree = files_of c.self.inside.arena in
    subst (λ (t : Files). Gives t None (child (rows_of t) (path_of t c.args.node) c.args.id)) c.self.view_is
    (no_child tree _ c.args.id c.in_ok-child.child c.in_ok-child.ensures.node
    (ap (λ h. is_application h.kind) (sym c.head.ensures) ∙ sym c.is_application.ensures ∙ c.if-is_application.true))

pub returns : goal.returns
returns c =
    let tree = files_of c.self.inside.arena in
    subst (λ (t : Files). Gives t (Some c.in_ok-child.child) (child (rows_of t) (path_of t c.args.node) c.args.id)) c.self.view_is
    (gives_child tree _ c.args.id c.in_ok-child.child c.in_ok-child.ensures.node
    (ap (λ h. is_application h.kind) (sym c.head.ensures) ∙ sym c.is_application.ensures ∙ c.if-is_application.false))
