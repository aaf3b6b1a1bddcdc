use Rattle.std.proofs.Common.{List, ℕ}
use Rattle.script_text.specs.Statement.{IsHex}
use Rattle.script_text.proofs.StatementLemmas.{no_piece}
use Rattle.script_text.proofs.statement.read_piece.Goals as goal

pub returns-in-None : goal.returns-in-None
returns-in-None c =
    let none : (bytes : List ℕ) → ¬ IsHex 1048576 c.args.words bytes = rw c.in-None.is at c.in_ok-bytes.ensures in
    no_piece c.args.words none
