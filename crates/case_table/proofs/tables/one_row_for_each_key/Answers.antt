use Rattle.std.proofs.Common.{refl}
use Rattle.case_table.specs.declared.tables.TheConstants.{INS_ROWS, STATUS_ROWS}
use Rattle.case_table.proofs.Rows.{own_row}
use Rattle.case_table.proofs.tables.one_row_for_each_key.Goals as goal

pub returns-clause-each_ins : goal.returns-clause-each_ins
returns-clause-each_ins c = λ i below. own_row INS_ROWS.keys INS_ROWS.values i below refl refl

pub returns-clause-each_status : goal.returns-clause-each_status
returns-clause-each_status c = λ i below. own_row STATUS_ROWS.keys STATUS_ROWS.values i below refl refl
