use Rattle.std.proofs.Common.{refl}
use Rattle.profile_card.proofs.sample.sample_rows.Goals as goal

pub returns : goal.returns
returns c =
    rw (c.in_ok-from_array.ensures.items, c.in_ok-sample_file.ensures, c.in_ok-sample_file-2.ensures, c.in_ok-sample_file-3.ensures, c.in_ok-sample_file-4.ensures, c.in_ok-sample_file-5.ensures, c.in_ok-sample_file-6.ensures, c.sample_head.ensures, c.sample_head-2.ensures, c.sample_head-3.ensures, c.sample_head-4.ensures, c.sample_head-5.ensures, c.sample_head-6.ensures) refl
