use Rattle.uicc_data.proofs.BinaryLemmas.{CanCarryOut-read_binary, CanCarryOut-update_binary}
use Rattle.uicc_data.proofs.DataLemmas.{CanCarryOut-data}
use Rattle.uicc_data.proofs.RecordCarryLemmas.{CanCarryOut-read_record, CanCarryOut-update_record}
use Rattle.uicc_data.proofs.SearchCarryLemmas.{CanCarryOut-increase, CanCarryOut-search_record}
use Rattle.uicc_data.proofs.laws.cards_carry_out_data_commands.Goals as goal

pub returns-clause-read_binary : goal.returns-clause-read_binary
returns-clause-read_binary c content allowed session command valid suits = CanCarryOut-read_binary content valid session suits allowed command

pub returns-clause-update_binary : goal.returns-clause-update_binary
returns-clause-update_binary c content allowed session command valid suits = CanCarryOut-update_binary content valid session suits allowed command

pub returns-clause-read_record : goal.returns-clause-read_record
returns-clause-read_record c content allowed session command valid suits = CanCarryOut-read_record content valid session suits allowed command

pub returns-clause-update_record : goal.returns-clause-update_record
returns-clause-update_record c content allowed session command valid suits = CanCarryOut-update_record content valid session suits allowed command

pub returns-clause-search_record : goal.returns-clause-search_record
returns-clause-search_record c content allowed session command valid suits = CanCarryOut-search_record content valid session suits allowed command

pub returns-clause-increase : goal.returns-clause-increase
returns-clause-increase c content allowed session command valid suits = CanCarryOut-increase content valid session suits allowed command

pub returns-clause-by_instruction : goal.returns-clause-by_instruction
returns-clause-by_instruction c content allowed session command valid suits = CanCarryOut-data content valid session suits allowed command
