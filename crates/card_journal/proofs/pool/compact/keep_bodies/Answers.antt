use Rattle.std.proofs.Common.{◌∙◌, Bool, not, length, refl, sym, ap, arith}
use Rattle.std.proofs.lemmas.Option.{slice_get_read}
use Rattle.file_rows.specs.Path.{stands_below}
use Rattle.file_rows.specs.declared.row.FileRow.{FileRow}
use Rattle.card_journal.proofs.PoolCompactLemmas.{compact_step, compacted_all, within-one}
use Rattle.card_journal.proofs.pool.compact.keep_bodies.Goals as goal

pub keep_body-to-requires-clause-below : goal.keep_body-to-requires-clause-below
keep_body-to-requires-clause-below c = c.loop-head.invariant.so_far.behind

pub keep_body-to-requires-clause-within : goal.keep_body-to-requires-clause-within
keep_body-to-requires-clause-within c =
    let stays : FileRow → Bool = λ row. not (stands_below c.args.top.now row.head.path) in
    let heads = c.args.heads.now in
    let k = c.loop-head.head-index in
    let head = c.head-item.result in
    let there = slice_get_read heads (length heads) k head refl c.loop-head-test.true c.head-item.is in
    omega (
      arith,
      c.from-size.ensures,
      within-one stays heads c.args.bodies.now.items c.loop-head.bodies.items k c.loop-head.from c.loop-head.to head c.requires there c.loop-head.invariant.so_far,
    )

pub loop-head-preserved : goal.loop-head-preserved
loop-head-preserved c =
    let stays : FileRow → Bool = λ row. not (stands_below c.args.top.now row.head.path) in
    let heads = c.args.heads.now in
    let k = c.loop-head.head-index in
    let head = c.head-item.result in
    let there = slice_get_read heads (length heads) k head refl c.loop-head-test.true c.head-item.is in
    record {
      so_far = compact_step stays heads c.args.bodies.now.items c.loop-head.bodies.items k c.loop-head.from c.loop-head.to head c.requires there c.loop-head.invariant.so_far
          (not c.is_below-stays.result) c.from-size.result c.keep_body-to.new.bodies.items c.keep_body-to.result c.from-size.ensures (ap not (sym c.is_below-stays.ensures))
          c.keep_body-to.ensures.bodies c.keep_body-to.ensures.next;
      room = c.keep_body-to.ensures.room ∙ c.loop-head.invariant.room;
    }

pub returns-clause-left : goal.returns-clause-left
returns-clause-left c =
    let stays : FileRow → Bool = λ row. not (stands_below c.args.top.now row.head.path) in
    c.truncate.ensures.items
    ∙ compacted_all stays c.args.heads.now c.args.bodies.now.items c.loop-head.bodies.items c.loop-head.head-index c.loop-head.from c.loop-head.to c.loop-head-test.false c.loop-head.invariant.so_far
