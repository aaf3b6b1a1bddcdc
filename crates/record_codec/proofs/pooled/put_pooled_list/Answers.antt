use Rattle.std.proofs.Common.{ℕ, sym, subst, arith}
use Rattle.std.specs.List.{flat_map}
use Rattle.record_codec.specs.Fields.{◌&◌, number2}
use Rattle.record_codec.specs.Pooled.{files_pooled}
use Rattle.record_codec.specs.Spelling.{file}
use Rattle.record_codec.specs.Window.{Puts}
use Rattle.record_codec.proofs.PooledLemmas.{length-pooled_rows}
use Rattle.record_codec.proofs.WindowLemmas.{then}
use Rattle.record_codec.proofs.pooled.put_pooled_list.Goals as goal

pub overflow_cast-files : goal.overflow_cast-files
overflow_cast-files c =
    let files = c.args.files.now in
    omega (arith, c.requires.few, length-pooled_rows files.heads.now files.bytes.now)

pub returns-clause-puts : goal.returns-clause-puts
returns-clause-puts c =
    let files = c.args.files.now in
    subst (λ (n : ℕ). Puts (number2 n & flat_map file (files_pooled files)) c.args.place.now c.args.out.now c.put_cut_files.new.place c.put_cut_files.new.out)
    (sym (length-pooled_rows files.heads.now files.bytes.now))
    (then c.put_number2.ensures.puts c.put_cut_files.ensures.puts)
