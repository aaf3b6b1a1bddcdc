use Rattle.std.proofs.Common.{◌≡◌, drop}
use Rattle.std.specs.List.{flat_map}
use Rattle.script_text.specs.Ports.{line_beyond}
use Rattle.script_text.specs.Script.{statement_in}
use Rattle.script_text.proofs.port_check.check_ports.Given as goal

abbrev pub invariant-loop-index : goal.invariant-loop-index
invariant-loop-index l = line_beyond l.count (flat_map statement_in l.script)
    ≡ line_beyond l.count (flat_map statement_in (drop l.index l.script))
