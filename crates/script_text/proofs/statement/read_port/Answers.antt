use Rattle.std.proofs.Common.{List, ℕ}
use Rattle.script_text.specs.Statement.{IsHex}
use Rattle.script_text.proofs.StatementLemmas.{no_port_line}
use Rattle.script_text.proofs.statement.read_port.Goals as goal

pub returns-in-None : goal.returns-in-None
returns-in-None c =
    let none : (bytes : List ℕ) → ¬ IsHex 1024 c.next.new.self bytes = rw c.in-None.is at c.in_ok-bytes.ensures in
    rw c.in-Some.ensures.steps (no_port_line c.in-Some.number.now c.next.new.self none)
