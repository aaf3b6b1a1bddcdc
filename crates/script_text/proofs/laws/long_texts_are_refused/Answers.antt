use Rattle.script_text.proofs.LongLemmas.{HasFirstFault-longer, IsScript-short}
use Rattle.script_text.proofs.laws.long_texts_are_refused.Goals as goal

pub returns : goal.returns
returns c = record { no_script = IsScript-short; same_fault = HasFirstFault-longer }
