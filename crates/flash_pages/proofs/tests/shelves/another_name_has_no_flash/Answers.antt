use Rattle.std.proofs.Common.{List, [], ◌∷◌}
use Rattle.flash_pages.proofs.tests.shelves.another_name_has_no_flash.Goals as goal

pub take_flash-requires : goal.take_flash-requires
take_flash-requires g c =
    c.new-shelf.ensures.none_out (97 ∷ 110 ∷ 111 ∷ 116 ∷ 104 ∷ 101 ∷ 114 ∷ [])
