use Rattle.script_text.proofs.FactLemmas.{pieces-from_reads, ports-from_reads}
use Rattle.script_text.proofs.FaultLemmas.{fault-from_reads, read-from_reads, refused-from_reads}
use Rattle.script_text.proofs.FaultLemmas.{script-from_reads}
use Rattle.script_text.proofs.reading.read_script_of.Goals as goal

pub returns : goal.returns
returns c =
    let set = c.args.set in
    let bytes = c.args.bytes.now in
    let r = c.read_lines.result in
    let h = c.read_lines.ensures in
    record {
      script = script-from_reads set bytes r h;
      fault = fault-from_reads set bytes r h;
      ports = ports-from_reads set bytes r h;
      pieces = pieces-from_reads set bytes r h;
      read = read-from_reads set bytes r h;
      refused = refused-from_reads set bytes r h;
    }
