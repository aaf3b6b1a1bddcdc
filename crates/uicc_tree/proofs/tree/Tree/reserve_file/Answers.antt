use Rattle.std.proofs.Common.{ℕ, List, refl, sym, subst}
use Rattle.uicc_tree.specs.Arena.{StandsIn, files_of}
use Rattle.uicc_tree.specs.Files.{Files}
use Rattle.uicc_tree.proofs.tree.Tree.reserve_file.Goals as goal

pub returns-clause-room : goal.returns-clause-room
returns-clause-room c =
    let directory = c.directory_of-directory.result in (
      directory,
      subst (λ (t : Files). StandsIn t c.args.head.now.path directory) (sym c.reserve_place.ensures.files)
          (subst (λ (p : List ℕ). StandsIn (files_of c.self.inside.arena) p directory) c.as_slice.ensures.value c.directory_of-directory.ensures),
      refl,
    )
