use Rattle.std.proofs.Common.{refl}
use Rattle.file_rows.specs.Change.{with_life}
use Rattle.uicc_tree.proofs.ChangeLemmas.{changes_file}
use Rattle.uicc_tree.proofs.arena.Arena.change_life.Goals as goal

pub returns-in-Some : goal.returns-in-Some
returns-in-Some c =
    changes_file c.args.self.now c.set_life.new.self c.in-Some.node c.args.path.now (with_life c.args.life) c.requires.arena c.in-Some.ensures.found.0 c.in-Some.ensures.found.1 (λ row. refl) c.set_life.ensures
