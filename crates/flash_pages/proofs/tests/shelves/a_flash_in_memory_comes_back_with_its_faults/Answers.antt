use Rattle.std.proofs.Common.{List, [], ◌∷◌}
use Rattle.flash_pages.proofs.tests.shelves.a_flash_in_memory_comes_back_with_its_faults.Goals as goal

pub take_flash-requires : goal.take_flash-requires
take_flash-requires g c = c.new-shelf.ensures.none_out (99 ∷ 97 ∷ 114 ∷ 100 ∷ [])
