use Rattle.std.proofs.Common.{◌≡◌, ℕ, List, sym, ◌∙◌, ap, subst, Option}
use Rattle.std.proofs.lemmas.Option.{none-some}
use Rattle.file_rows.specs.declared.head.FileHead.{FileHead}
use Rattle.file_rows.specs.declared.row.FileRow.{FileRow}
use Rattle.uicc_tree.specs.Arena.{StandsIn, children_of, files_of}
use Rattle.uicc_tree.proofs.TreeLemmas.{node_of_path}
use Rattle.uicc_tree.proofs.arena.Arena.add_file.Goals as goal

pub place-requires-clause-stands : goal.place-requires-clause-stands
place-requires-clause-stands c =
    let tree = files_of c.args.self.now in
    let copied = ap (λ (h : FileHead). h.path) c.copy.ensures in
    let same : c.requires.room.0 ≡ c.in-Add.directory = cc (c.requires.room.1, c.in-Add.is) in
    record {
      new = λ node live e.
          let there = node_of_path tree (children_of c.args.self.now) c.requires.arena.tree c.args.head.now.path node live (e ∙ copied) in
          none-some _ (sym c.requires.new ∙ there.1);
      place = subst (λ (p : List ℕ). StandsIn tree p c.in-Add.directory) (sym copied)
          (subst (λ (d : Option ℕ). StandsIn tree c.args.head.now.path d) same c.requires.room.2);
    }

pub returns-in-Add-clause-stay : goal.returns-in-Add-clause-stay
returns-in-Add-clause-stay c node live =
    let it = c.place.ensures.stay node live in
    (it.0, ap (λ (r : FileRow). r.head.path) it.1)
