use Rattle.std.proofs.Common.{◌≤◌, ◌+◌, arith, sym, subst}
use Rattle.file_rows.specs.Content.{use_of}
use Rattle.file_rows.specs.declared.content.Content.{Content}
use Rattle.card_journal.proofs.PoolLemmas.{room-more}
use Rattle.card_journal.proofs.pool.pooled.PooledContent.push.Goals as goal

pub push_row-requires-clause-place : goal.push_row-requires-clause-place
push_row-requires-clause-place c =
    let heads = c.self.inside.heads.items in
    let bytes = c.self.inside.bodies.items in
    let room = room-more heads bytes c.args.row.now.head.size c.self.invariant.1 (subst (λ (content : Content). use_of content.rows + (c.args.row.now.head.size + 32) ≤ 65536) (sym c.self.view_is) c.requires.room) in
    omega (arith, room.0, c.self.invariant.0.for_files)

pub push_row-requires-clause-room : goal.push_row-requires-clause-room
push_row-requires-clause-room c =
    let heads = c.self.inside.heads.items in
    let bytes = c.self.inside.bodies.items in
    let room = room-more heads bytes c.args.row.now.head.size c.self.invariant.1 (subst (λ (content : Content). use_of content.rows + (c.args.row.now.head.size + 32) ≤ 65536) (sym c.self.view_is) c.requires.room) in
    omega (arith, room.1, c.self.invariant.0.for_bytes)
