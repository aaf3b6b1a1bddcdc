use Rattle.std.proofs.Common.{◌∙◌, ◌+◌, ◌≤◌, ℕ, length, refl, sym, ap, subst}
use Rattle.std.proofs.lemmas.List.{length-map, take_all}
use Rattle.std.proofs.lemmas.Option.{slice_get_read}
use Rattle.file_rows.specs.declared.row.FileRow.{FileRow}
use Rattle.record_codec.specs.Pooled.{pooled_rows}
use Rattle.card_journal.proofs.PoolCopyLemmas.{next-row}
use Rattle.card_journal.proofs.PoolLemmas.{heads_of-pooled_rows}
use Rattle.card_journal.proofs.pool.pooled.copy_rows.Goals as goal

pub loop-head-preserved : goal.loop-head-preserved
loop-head-preserved c =
    let heads = c.args.heads.now in
    let bytes = c.args.bytes.now in
    let k = c.loop-head.head-index in
    let head = c.head-item.result in
    let row = c.in_ok-row_from.field-0 in
    let there = slice_get_read heads (length heads) k head refl c.loop-head-test.true c.head-item.is in
    let next = next-row heads bytes k c.loop-head.start head row c.loop-head.rows.items there c.loop-head.invariant.begin (rw c.rest_from.ensures at c.in_ok-row_from.ensures) c.loop-head.invariant.so_far in
    record {
      begin = ap (λ (n : ℕ). c.loop-head.start + n) c.from.ensures ∙ next.1;
      so_far = c.in_ok-push.ensures.items ∙ next.0;
    }

pub returns : goal.returns
returns c =
    let heads = c.args.heads.now in
    let bytes = c.args.bytes.now in
    c.loop-head.invariant.so_far
    ∙ take_all c.loop-head.head-index (pooled_rows heads bytes)
    (subst (λ (n : ℕ). n ≤ c.loop-head.head-index) (ap length (sym (heads_of-pooled_rows heads bytes)) ∙ length-map (pooled_rows heads bytes) (λ (row : FileRow). row.head)) c.loop-head-test.false)
