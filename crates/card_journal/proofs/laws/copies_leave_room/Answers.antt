use Rattle.card_journal.proofs.BoundLemmas.{copy_len, one_row}
use Rattle.card_journal.proofs.laws.copies_leave_room.Goals as goal

pub returns-clause-copy : goal.returns-clause-copy
returns-clause-copy c = copy_len

pub returns-clause-row : goal.returns-clause-row
returns-clause-row c = one_row
