use Rattle.std.proofs.Common.{List, ℕ}
use Rattle.script_text.specs.Statement.{IsHex}
use Rattle.script_text.proofs.StatementLemmas.{no_begin}
use Rattle.script_text.proofs.statement.read_begin.Goals as goal

pub returns-in-None : goal.returns-in-None
returns-in-None c =
    let none : (bytes : List ℕ) → ¬ IsHex 4096 c.args.words bytes = rw c.in-None.is at c.in_ok-metadata.ensures in
    no_begin c.args.words none
