use Rattle.std.proofs.Common.{refl}
use Rattle.record_codec.proofs.WindowLemmas.{put_from}
use Rattle.record_codec.proofs.window.put.Goals as goal

pub returns : goal.returns
returns c =
    put_from c.args.bytes.now c.args.place.now _ c.args.out.now c.overwrite.new.out c.overwrite.result c.min-from.result c.rest_from-wanted.result.now
    c.min-from.ensures c.rest_from-wanted.ensures c.overwrite.ensures.count c.overwrite.ensures.copied c.saturating_sub-place.ensures refl
