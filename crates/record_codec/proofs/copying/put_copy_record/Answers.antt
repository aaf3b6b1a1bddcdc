use Rattle.std.proofs.Common.{refl}
use Rattle.record_codec.specs.CopyRecord.{record_of}
use Rattle.record_codec.specs.Spelling.{spelling}
use Rattle.record_codec.proofs.WindowLemmas.{shows_whole, whole_count, whole_filled}
use Rattle.record_codec.proofs.copying.put_copy_record.Goals as goal

pub returns-clause-count : goal.returns-clause-count
returns-clause-count c =
    whole_count c.args.at (spelling (record_of c.args.entry.now)) c.args.out.now c.put_copied.new.place c.put_copied.new.out
    (shows_whole c.args.at (spelling (record_of c.args.entry.now)) c.args.out.now _ c.put_copied.new.place c.put_copied.new.out refl refl c.put_copied.ensures.puts)

pub returns-clause-filled : goal.returns-clause-filled
returns-clause-filled c =
    whole_filled c.args.at (spelling (record_of c.args.entry.now)) c.args.out.now c.put_copied.new.place c.put_copied.new.out
    (shows_whole c.args.at (spelling (record_of c.args.entry.now)) c.args.out.now _ c.put_copied.new.place c.put_copied.new.out refl refl c.put_copied.ensures.puts)
