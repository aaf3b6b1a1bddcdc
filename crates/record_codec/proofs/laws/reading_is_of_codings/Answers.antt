use Rattle.std.proofs.Common.{◌∙◌, ap}
use Rattle.record_codec.specs.Reading.{record_read}
use Rattle.record_codec.proofs.AgainLemmas.{whole_again}
use Rattle.record_codec.proofs.RecordTakes.{whole_takes}
use Rattle.record_codec.proofs.laws.reading_is_of_codings.Goals as goal

pub returns : goal.returns
returns c = λ bytes entry is. (whole_takes bytes entry is, λ codes. ap record_read codes.bytes_are ∙ whole_again entry codes.values)
