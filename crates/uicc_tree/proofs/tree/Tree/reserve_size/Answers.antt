use Rattle.std.proofs.Common.{◌≡◌, None, is_some, sym, ◌∙◌, ap, subst}
use Rattle.std.proofs.lemmas.Bool.{true≢false}
use Rattle.file_rows.specs.Content.{file_at}
use Rattle.uicc_tree.specs.Files.{Files, rows_of}
use Rattle.uicc_tree.proofs.tree.Tree.reserve_size.Goals as goal

pub returns-in_default-clause-room : goal.returns-in_default-clause-room
returns-in_default-clause-room c =
    let none : file_at c.args.path.now (rows_of c.args.self.now) ≡ None =
    subst (λ (t : Files). file_at c.args.path.now (rows_of t) ≡ None) c.self.view_is c.in_default.ensures.no_file in
    absurd (true≢false (sym c.requires ∙ ap is_some none))
