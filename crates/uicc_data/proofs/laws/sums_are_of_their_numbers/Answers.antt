use Rattle.uicc_data.proofs.RunLemmas.{sum_is, sum_isnt}
use Rattle.uicc_data.proofs.laws.sums_are_of_their_numbers.Goals as goal

pub returns-clause-sum : goal.returns-clause-sum
returns-clause-sum c number addend sum is =
    sum_is number addend sum is

pub returns-clause-none : goal.returns-clause-none
returns-clause-none c number addend none =
    sum_isnt number addend none
