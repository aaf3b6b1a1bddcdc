use Rattle.std.proofs.Common.{arith, add-one, ◌∙◌}
use Rattle.case_table.proofs.Rows.{pass_row}
use Rattle.case_table.proofs.case_rows.CaseRows.find.Goals as goal

pub loop-place-preserved : goal.loop-place-preserved
loop-place-preserved g c = rw add-one (pass_row c.args.self.now.keys c.args.self.now.values c.loop-place.place c.args.key (omega arith) (omega arith) c.if-other-key.false ∙ c.loop-place.invariant)
