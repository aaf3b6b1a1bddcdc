use Rattle.std.proofs.Common.{refl, sym, ap}
use Rattle.file_rows.specs.Change.{with_life}
use Rattle.uicc_tree.proofs.CellLemmas.{cell_at, changes_cell}
use Rattle.uicc_tree.proofs.arena.Arena.set_life.Goals as goal

pub returns : goal.returns
returns c =
    changes_cell c.args.self.now _ c.args.node c.index_mut-slot.result.now _ _ c.index_mut-slot.ensures.value refl refl refl refl
    (ap (with_life c.args.life) (sym (cell_at c.args.self.now c.args.node c.index_mut-slot.result.now c.requires c.index_mut-slot.ensures.value)))
