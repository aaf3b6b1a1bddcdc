use Rattle.std.proofs.Common.{refl}
use Rattle.file_rows.specs.Change.{with_size}
use Rattle.uicc_tree.specs.Arena.{files_of}
use Rattle.uicc_tree.specs.Files.{path_of}
use Rattle.uicc_tree.proofs.ChangeLemmas.{changes_file}
use Rattle.uicc_tree.proofs.arena.Arena.change_size.Goals as goal

pub returns : goal.returns
returns c =
    changes_file c.args.self.now c.resize.new.self c.args.node (path_of (files_of c.args.self.now) c.args.node) (with_size c.args.size) c.requires.arena c.requires.live refl (λ row. refl) c.resize.ensures
