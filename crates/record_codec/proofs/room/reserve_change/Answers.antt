use Rattle.std.proofs.Common.{length, ap, arith}
use Rattle.record_codec.proofs.RowLemmas.{paths_of}
use Rattle.record_codec.proofs.SizeLemmas.{few}
use Rattle.record_codec.proofs.room.reserve_change.Goals as goal

pub reserve_file-requires : goal.reserve_file-requires
reserve_file-requires c = omega (arith, ap length c.as_slice-rows.ensures, few c.args.content.now.rows, c.requires.valid.quota)

pub reserve_size-requires-clause-paths : goal.reserve_size-requires-clause-paths
reserve_size-requires-clause-paths c = rw c.as_slice-rows.ensures (paths_of c.args.content.now c.requires.valid)
