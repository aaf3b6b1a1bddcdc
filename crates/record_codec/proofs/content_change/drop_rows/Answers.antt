use Rattle.std.proofs.Common.{not, rules}
use Rattle.std.proofs.lemmas.Fn.{filter_same}
use Rattle.file_rows.specs.Path.{stands_below}
use Rattle.record_codec.proofs.content_change.drop_rows.Goals as goal

pub returns : goal.returns
returns c = filter_same _ (λ row. not (stands_below c.args.top.now row.head.path)) _ (λ x b f' k. search rules) _ _ c.retain.ensures.filtered
