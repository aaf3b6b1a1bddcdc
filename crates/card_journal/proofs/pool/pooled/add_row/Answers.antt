use Rattle.std.proofs.Common.{◌∙◌, ◌∷◌, ◌++◌, [], ap}
use Rattle.file_rows.specs.declared.head.FileHead.{FileHead}
use Rattle.card_journal.proofs.PoolLemmas.{blank-more}
use Rattle.card_journal.proofs.pool.pooled.add_row.Goals as goal

pub returns-clause-rows : goal.returns-clause-rows
returns-clause-rows c =
    let heads = c.args.heads.now.items in
    (blank-more heads c.push_reserved.new.self.items c.args.bodies.now.items c.append_blank.new.bodies.items c.from.result c.args.head.now c.requires.full
    (c.push_reserved.ensures.items ∙ ap (λ (head : FileHead). heads ++ head ∷ []) c.copy.ensures) c.append_blank.ensures.items c.from.ensures).0

pub returns-clause-full : goal.returns-clause-full
returns-clause-full c =
    let heads = c.args.heads.now.items in
    (blank-more heads c.push_reserved.new.self.items c.args.bodies.now.items c.append_blank.new.bodies.items c.from.result c.args.head.now c.requires.full
    (c.push_reserved.ensures.items ∙ ap (λ (head : FileHead). heads ++ head ∷ []) c.copy.ensures) c.append_blank.ensures.items c.from.ensures).1
