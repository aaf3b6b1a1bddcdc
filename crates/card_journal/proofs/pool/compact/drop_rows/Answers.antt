use Rattle.std.proofs.Common.{Bool, not}
use Rattle.file_rows.specs.Path.{stands_below}
use Rattle.file_rows.specs.declared.head.FileHead.{FileHead}
use Rattle.card_journal.proofs.PoolChangeLemmas.{kept-rows}
use Rattle.card_journal.proofs.pool.compact.drop_rows.Goals as goal

pub returns-clause-left : goal.returns-clause-left
returns-clause-left c =
    let stays : FileHead → Bool = λ head. not (stands_below c.args.top.now head.path) in
    let heads = c.args.heads.now.items in
    let bytes = c.args.bodies.now.items in
    rw (c.drop_heads.ensures.left, c.keep_bodies.ensures.left) (rw c.deref.ensures.value (kept-rows stays heads bytes c.requires).0)

pub returns-clause-full : goal.returns-clause-full
returns-clause-full c =
    let stays : FileHead → Bool = λ head. not (stands_below c.args.top.now head.path) in
    rw (c.drop_heads.ensures.left, c.keep_bodies.ensures.left) (rw c.deref.ensures.value (kept-rows stays c.args.heads.now.items c.args.bodies.now.items c.requires).1)
