use Rattle.file_rows.proofs.AddLemmas.{use_more}
use Rattle.file_rows.proofs.UseLemmas.{use_kept, use_sized}
use Rattle.file_rows.proofs.laws.changes_take_of_the_quota.Goals as goal

pub returns-clause-added : goal.returns-clause-added
returns-clause-added c rows head = use_more head rows

pub returns-clause-sized : goal.returns-clause-sized
returns-clause-sized c = use_sized

pub returns-clause-kept : goal.returns-clause-kept
returns-clause-kept c = use_kept
