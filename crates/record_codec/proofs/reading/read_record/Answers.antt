use Rattle.record_codec.proofs.ReadLemmas.{is_malformed, is_read}
use Rattle.record_codec.proofs.reading.read_record.Goals as goal

pub returns-clause-read : goal.returns-clause-read
returns-clause-read c = is_read c.args.bytes.now c.whole_of.result c.whole_of.ensures.found c.whole_of.ensures.refused

pub returns-clause-malformed : goal.returns-clause-malformed
returns-clause-malformed c = is_malformed c.args.bytes.now c.whole_of.result c.whole_of.ensures.found
