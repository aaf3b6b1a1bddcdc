use Rattle.flash_pages.proofs.Reading.{reads_as, are_read, RowsUpTo-overrun}
use Rattle.flash_pages.proofs.laws.rows_are_those_read.Goals as goal

pub returns-clause-read : goal.returns-clause-read
returns-clause-read c = λ at bytes bodies. (reads_as at bytes bodies, are_read at bytes bodies)

pub returns-clause-overrun : goal.returns-clause-overrun
returns-clause-overrun c =
    λ at place bytes before bodies small so_far overrun has.
    RowsUpTo-overrun bytes before place so_far at bodies small overrun has
