use Rattle.std.proofs.Common.{arith}
use Rattle.record_codec.proofs.LengthLemmas.{short_where}
use Rattle.record_codec.proofs.SizeLemmas.{sizes_of}
use Rattle.card_journal.proofs.store.BankStore.has_room.Goals as goal

pub record_len-requires-clause-sizes : goal.record_len-requires-clause-sizes
record_len-requires-clause-sizes g c = sizes_of c.args.self.now.held c.args.entry.now c.requires.takes.fits

pub record_len-requires-clause-few : goal.record_len-requires-clause-few
record_len-requires-clause-few g c = λ coding. omega (arith, short_where c.args.self.now.held c.args.entry.now c.requires.takes.fits coding)

pub overflow_add-result : goal.overflow_add-result
overflow_add-result g c =
    omega (arith, c.record_len.ensures.len, short_where c.args.self.now.held c.args.entry.now c.requires.takes.fits c.record_len.ensures.codes.values)

pub returns-clause-short : goal.returns-clause-short
returns-clause-short g c =
    omega (arith, short_where c.args.self.now.held c.args.entry.now c.requires.takes.fits c.record_len.ensures.codes.values)
