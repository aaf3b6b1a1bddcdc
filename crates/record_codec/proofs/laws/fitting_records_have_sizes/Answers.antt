use Rattle.record_codec.proofs.SizeLemmas.{sizes_of}
use Rattle.record_codec.proofs.laws.fitting_records_have_sizes.Goals as goal

pub returns : goal.returns
returns c = sizes_of
