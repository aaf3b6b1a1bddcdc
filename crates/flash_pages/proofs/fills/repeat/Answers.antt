use Rattle.std.proofs.Common.{length, rules, arith}
use Rattle.std.proofs.lemmas.List.FromFn.{fill_by_all}
use Rattle.flash_pages.specs.Bytes.{torn_byte, repeated}
use Rattle.flash_pages.proofs.fills.repeat.Goals as goal

pub returns : goal.returns
unfolding repeated
returns c = fill_by_all (torn_byte c.args.torn.now) c.bytes.range (length c.args.range.now) 0
    (search rules) (λ k below. c.bytes.invariant k (omega arith))
