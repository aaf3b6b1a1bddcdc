use Rattle.record_codec.proofs.LocalLemmas.{contents_stay}
use Rattle.record_codec.proofs.StayLemmas.{heads_alone, heads_stay, notes_stay, ports_stay}
use Rattle.record_codec.proofs.laws.records_are_local.Goals as goal

pub returns-clause-contents : goal.returns-clause-contents
returns-clause-contents c = contents_stay

pub returns-clause-profiles : goal.returns-clause-profiles
returns-clause-profiles c = heads_stay

pub returns-clause-ports : goal.returns-clause-ports
returns-clause-ports c = ports_stay

pub returns-clause-notes : goal.returns-clause-notes
returns-clause-notes c = λ durable entry note kept there. notes_stay note durable entry kept there

pub returns-clause-alone : goal.returns-clause-alone
returns-clause-alone c = heads_alone
