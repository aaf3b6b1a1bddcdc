use Rattle.std.proofs.Common.{not, rules}
use Rattle.std.proofs.lemmas.Fn.{filter_same}
use Rattle.file_rows.specs.Path.{stands_below}
use Rattle.card_journal.proofs.pool.compact.drop_heads.Goals as goal

pub returns-clause-left : goal.returns-clause-left
returns-clause-left c = filter_same _ (λ head. not (stands_below c.args.top.now head.path)) _ (λ x b f' k. search rules) _ _ c.retain.ensures.filtered
