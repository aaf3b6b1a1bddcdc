use Rattle.std.proofs.Common.{◌≡◌, true, sym, ◌∙◌, arith}
use Rattle.case_table.specs.CaseRows.{differ}
use Rattle.case_table.proofs.Rows.{own_row, none_differ}
use Rattle.case_table.proofs.case_rows.CaseRows.keys_differ.Goals as goal

pub returns-clause-each_row : goal.returns-clause-each_row
returns-clause-each_row g c = λ _ i l.
    let all : differ c.args.self.now.keys ≡ true = sym c.loop-key.invariant ∙ none_differ _ c.in_default.ensures.cases in
    own_row c.args.self.now.keys c.args.self.now.values i (omega arith) (omega arith) all
