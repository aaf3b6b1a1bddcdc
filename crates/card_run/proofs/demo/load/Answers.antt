use Rattle.std.proofs.Common.{ap, Err}
use Rattle.script_text.specs.Script.{script_of}
use Rattle.script_text.proofs.CommandLemmas.{IsScript-commands}
use Rattle.card_run.proofs.LoadLemmas.{fault_of, from_enough}
use Rattle.card_run.proofs.demo.load.Goals as goal

pub returns-in-Err-Bad-clause-cause : goal.returns-in-Err-Bad-clause-cause
returns-in-Err-Bad-clause-cause g c =
    from_enough _ _ _ c.in-Ok.text.items c.in-Ok.ensures.taken c.in-Ok.ensures.enough
    (λ text some. fault_of c.in-Ok.text.items text c.in-Err-Bad.line c.in-Err-Bad.kind some (rw c.deref.ensures.value at (c.in-Err-Bad.ensures.fault c.in-Err-Bad.line c.in-Err-Bad.kind (ap Err c.in-Err-Bad.field-0-is))))

pub returns-in-Ok-read_script_of-clause-commands : goal.returns-in-Ok-read_script_of-clause-commands
returns-in-Ok-read_script_of-clause-commands g c =
    IsScript-commands _ (script_of c.in-Ok-read_script_of.script) c.in-Ok-read_script_of.ensures.script
