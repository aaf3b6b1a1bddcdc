use Rattle.std.proofs.Common.{ℕ, refl, subst}
use Rattle.file_rows.specs.Change.{with_body, written}
use Rattle.uicc_tree.specs.Arena.{ChangesCell, files_of}
use Rattle.uicc_tree.specs.Files.{file_of}
use Rattle.uicc_tree.proofs.ChangeLemmas.{changes_file}
use Rattle.uicc_tree.proofs.arena.Arena.write_range.Goals as goal

pub returns-in-Some : goal.returns-in-Some
returns-in-Some c =
    let cell = subst (λ (offset : ℕ). ChangesCell c.args.self.now c.write.new.self c.in-Some.node (with_body (written offset c.args.bytes.now) (file_of (files_of c.args.self.now) c.in-Some.node))) c.from.ensures c.write.ensures in
    changes_file c.args.self.now c.write.new.self c.in-Some.node c.args.path.now (with_body (written c.args.offset c.args.bytes.now)) c.requires.arena c.in-Some.ensures.found.0 c.in-Some.ensures.found.1 (λ row. refl) cell
