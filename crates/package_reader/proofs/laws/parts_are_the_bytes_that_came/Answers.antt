use Rattle.package_reader.specs.ReaderState.{fresh_reader}
use Rattle.package_reader.proofs.Joined.{joined}
use Rattle.package_reader.proofs.laws.parts_are_the_bytes_that_came.Goals as goal

pub returns : goal.returns
returns c = λ turns new. joined fresh_reader turns new
