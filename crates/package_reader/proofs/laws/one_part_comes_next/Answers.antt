use Rattle.package_reader.proofs.EachPart.{each_part}
use Rattle.package_reader.proofs.OnePart.{one_part}
use Rattle.package_reader.proofs.laws.one_part_comes_next.Goals as goal

pub returns : goal.returns
returns c = record { there = each_part; alone = one_part }
