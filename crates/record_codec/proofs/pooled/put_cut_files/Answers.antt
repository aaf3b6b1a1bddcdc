use Rattle.std.proofs.Common.{◌≡◌, List, length, take, refl, subst, arith}
use Rattle.std.proofs.lemmas.List.{length-drop, take_all}
use Rattle.std.proofs.lemmas.Option.{slice_get_read}
use Rattle.std.specs.List.{AllByRecursion, flat_map}
use Rattle.file_rows.specs.declared.row.FileRow.{FileRow}
use Rattle.record_codec.specs.Pooled.{pooled_rows}
use Rattle.record_codec.specs.Sizes.{HasFileSizes}
use Rattle.record_codec.specs.Spelling.{file}
use Rattle.record_codec.specs.Window.{Puts}
use Rattle.record_codec.proofs.PooledLemmas.{length-pooled_rows, put-first, put-one, row_of}
use Rattle.record_codec.proofs.PooledLemmas.{sized-fits, start-within}
use Rattle.record_codec.proofs.pooled.put_cut_files.Goals as goal

pub loop-head-init : goal.loop-head-init
loop-head-init c = put-first c.args.heads.now c.args.bytes.now c.args.place.now c.args.out.now

pub rest_from-requires : goal.rest_from-requires
rest_from-requires c =
    let heads = c.args.heads.now in
    let k = c.loop-head.head-index in
    let there = slice_get_read heads (length heads) k c.head-item.result refl c.loop-head-test.true c.head-item.is in
    omega (arith, c.loop-head.invariant.begin, start-within heads k c.head-item.result there, sized-fits heads c.args.bytes.now c.requires)

pub put_cut_file-requires : goal.put_cut_file-requires
put_cut_file-requires c =
    let heads = c.args.heads.now in
    let bytes = c.args.bytes.now in
    let k = c.loop-head.head-index in
    let there = slice_get_read heads (length heads) k c.head-item.result refl c.loop-head-test.true c.head-item.is in
    rw c.rest_from.ensures
    (omega (arith, c.loop-head.invariant.begin, start-within heads k c.head-item.result there, sized-fits heads bytes c.requires, length-drop c.loop-head.start bytes))

pub loop-head-preserved : goal.loop-head-preserved
loop-head-preserved c =
    let heads = c.args.heads.now in
    let bytes = c.args.bytes.now in
    let k = c.loop-head.head-index in
    let head = c.head-item.result in
    let there = slice_get_read heads (length heads) k head refl c.loop-head-test.true c.head-item.is in
    rw c.from-start.ensures
    (put-one heads bytes k c.loop-head.start head c.args.place.now c.args.out.now c.loop-head.place c.loop-head.out c.put_cut_file.new.place c.put_cut_file.new.out
    there c.loop-head.invariant (rw c.rest_from.ensures at c.put_cut_file.ensures.puts) (rw c.rest_from.ensures at c.put_cut_file.ensures.sizes))

pub returns : goal.returns
returns c =
    let rows = pooled_rows c.args.heads.now c.args.bytes.now in
    let k = c.loop-head.head-index in
    let all : take k rows ≡ rows = take_all k rows (omega (arith, c.loop-head-test.false, length-pooled_rows c.args.heads.now c.args.bytes.now)) in
    record {
      puts = subst (λ (rs : List FileRow). Puts (flat_map file rs) c.args.place.now c.args.out.now c.loop-head.place c.loop-head.out) all c.loop-head.invariant.puts;
      sizes = subst (AllByRecursion HasFileSizes) all c.loop-head.invariant.sizes;
    }
