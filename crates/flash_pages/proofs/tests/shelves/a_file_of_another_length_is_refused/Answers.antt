use Rattle.std.proofs.Common.{[]}
use Rattle.flash_pages.proofs.tests.shelves.a_file_of_another_length_is_refused.Goals as goal

pub take_flash-requires-2 : goal.take_flash-requires-2
take_flash-requires-2 g c = c.in_ok-unnamed.ensures.none_out []
