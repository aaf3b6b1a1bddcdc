use Rattle.script_text.proofs.DecideLemmas.{IsScriptOrFaulty-each}
use Rattle.script_text.proofs.FaultLemmas.{HasFirstFault-same, IsScript-same, not_both-fault}
use Rattle.script_text.proofs.laws.texts_are_scripts_or_faulty.Goals as goal

pub returns : goal.returns
returns c = record {
  each = IsScriptOrFaulty-each;
  not_both = not_both-fault;
  one_script = IsScript-same;
  one_fault = HasFirstFault-same;
}
