use Rattle.std.proofs.Common.{refl, arith}
use Rattle.record_codec.specs.Spelling.{spelling}
use Rattle.record_codec.proofs.WindowLemmas.{shows_whole}
use Rattle.record_codec.proofs.writing.record_len.Goals as goal

pub overflow_cast-result : goal.overflow_cast-result
overflow_cast-result c =
    omega (arith, c.requires.few c.put_entry.ensures.sizes, (shows_whole 4294967295 (spelling c.args.entry.now) _ _ c.put_entry.new.place c.put_entry.new.out refl refl c.put_entry.ensures.puts).skip)

pub overflow_sub-result : goal.overflow_sub-result
overflow_sub-result c =
    omega (arith, c.requires.few c.put_entry.ensures.sizes, (shows_whole 4294967295 (spelling c.args.entry.now) _ _ c.put_entry.new.place c.put_entry.new.out refl refl c.put_entry.ensures.puts).skip)

pub returns-clause-len : goal.returns-clause-len
returns-clause-len c =
    omega (arith, c.requires.few c.put_entry.ensures.sizes, (shows_whole 4294967295 (spelling c.args.entry.now) _ _ c.put_entry.new.place c.put_entry.new.out refl refl c.put_entry.ensures.puts).skip)
