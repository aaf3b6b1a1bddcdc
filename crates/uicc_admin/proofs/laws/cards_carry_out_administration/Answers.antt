use Rattle.file_rows.specs.declared.head.Life.TheVariants.{Active, Deactivated, Terminated}
use Rattle.uicc_admin.proofs.AdministrationLemmas.{CanCarryOut-administration}
use Rattle.uicc_admin.proofs.CreateRowLemmas.{CanCarryOut-create}
use Rattle.uicc_admin.proofs.DeleteRowLemmas.{CanCarryOut-delete}
use Rattle.uicc_admin.proofs.ResizeRowLemmas.{CanCarryOut-resize}
use Rattle.uicc_admin.proofs.StateLemmas.{CanCarryOut-state}
use Rattle.uicc_admin.proofs.laws.cards_carry_out_administration.Goals as goal

pub returns-clause-activate : goal.returns-clause-activate
returns-clause-activate c content allowed session command valid suits = CanCarryOut-state content valid session suits allowed command Active

pub returns-clause-deactivate : goal.returns-clause-deactivate
returns-clause-deactivate c content allowed session command valid suits = CanCarryOut-state content valid session suits allowed command Deactivated

pub returns-clause-terminate : goal.returns-clause-terminate
returns-clause-terminate c content allowed session command valid suits = CanCarryOut-state content valid session suits allowed command Terminated

pub returns-clause-create : goal.returns-clause-create
returns-clause-create c content allowed session command valid suits = CanCarryOut-create content valid session suits allowed command

pub returns-clause-delete : goal.returns-clause-delete
returns-clause-delete c content allowed session command valid suits = CanCarryOut-delete content valid session suits allowed command

pub returns-clause-resize : goal.returns-clause-resize
returns-clause-resize c content allowed session command valid suits = CanCarryOut-resize content valid session suits allowed command

pub returns-clause-by_instruction : goal.returns-clause-by_instruction
returns-clause-by_instruction c content allowed session command valid suits = CanCarryOut-administration content valid session suits allowed command
