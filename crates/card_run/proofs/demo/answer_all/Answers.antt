use Rattle.std.proofs.Common.{◌≡◌, ◌≤◌, ◌<◌, ◌+◌, List, Some, arith, length, take, subst, ap, ◌∙◌}
use Rattle.std.proofs.KnownBytes.{Appends-nil}
use Rattle.std.proofs.Math.Seq.{take-length}
use Rattle.std.specs.Io.KnownBytes.{Appends}
use Rattle.std.specs.List.{slice_get}
use Rattle.card_core.specs.declared.script.Statement.{Statement}
use Rattle.script_text.specs.Item.{Item}
use Rattle.script_text.specs.Item.Item.{Stated}
use Rattle.script_text.specs.Lent.{lent_item}
use Rattle.card_run.proofs.DemoLemmas.{RunSoFar, answered, counted_more, counted_same, finished}
use Rattle.card_run.proofs.DemoLemmas.{moved, passed, start, statements_all, statements_few}
use Rattle.card_run.proofs.DemoLemmas.{stopped}
use Rattle.card_run.proofs.demo.answer_all.Goals as goal

pub loop-index-init : goal.loop-index-init
loop-index-init g c = record {
  so_far = rw c.in_ok-block.ensures.items (start (g.K.Sink.written c.args.out.now) c.in_ok-card.card c.in_ok-card.ensures);
  counted = omega arith;
  count = omega arith;
}

pub overflow_add-number : goal.overflow_add-number
overflow_add-number g c =
    let few = statements_few c.args.script.now c.loop-index.index c.requires.few in
    let counted = c.loop-index.invariant.counted in
    omega arith

pub returns-in_err-reply-clause-prefix : goal.returns-in_err-reply-clause-prefix
returns-in_err-reply-clause-prefix g c answers run =
    stopped c.args.script.now c.loop-index.index c.loop-index.card _ _ _ c.loop-index.block.items 0 answers c.loop-index.invariant.so_far (Appends-nil _) (omega arith) run

pub returns-in_err-write_full_block-clause-prefix : goal.returns-in_err-write_full_block-clause-prefix
returns-in_err-write_full_block-clause-prefix g c answers run =
    let items = c.args.script.now in
    let index = c.loop-index.index in
    let within : index < length items = omega arith in
    let sent = c.in-Some.ensures in
    let is : slice_get items index ≡ Some (Stated sent.0) = c.item.ensures ∙ ap (λ (i : Item). Some i) sent.1 in
    let given = c.in_ok-reply.ensures.given in
    let after = answered items index c.loop-index.number sent.0 c.in-Some.bytes.now c.loop-index.card c.reply.new.card _ _ c.loop-index.block.items c.reply.new.text.items given.0 c.loop-index.invariant.so_far c.loop-index.invariant.counted is sent.2 within given.1 given.2 in
    let part = c.in_err-write_full_block.ensures.prefix in
    let some : part.count ≤ length c.reply.new.text.items = omega (arith, part.within) in
    stopped items (index + 1) c.reply.new.card _ _ _ c.reply.new.text.items part.count answers after part.bytes some run

pub loop-index-preserved : goal.loop-index-preserved
loop-index-preserved g c =
    let items = c.args.script.now in
    let index = c.loop-index.index in
    let within : index < length items = omega arith in
    let sent = c.in-Some.ensures in
    let is : slice_get items index ≡ Some (Stated sent.0) = c.item.ensures ∙ ap (λ (i : Item). Some i) sent.1 in
    let given = c.in_ok-reply.ensures.given in
    let after = answered items index c.loop-index.number sent.0 c.in-Some.bytes.now c.loop-index.card c.reply.new.card _ _ c.loop-index.block.items c.reply.new.text.items given.0 c.loop-index.invariant.so_far c.loop-index.invariant.counted is sent.2 within given.1 given.2 in
    let wrote = c.in_ok-write_full_block.ensures.moved in
    record {
      so_far = moved _ _ _ _ _ _ wrote.0 _ after wrote.1 wrote.2;
      counted = counted_more items index c.loop-index.number sent.0 within is c.loop-index.invariant.counted;
      count = omega arith;
    }

pub loop-index-preserved-in_default : goal.loop-index-preserved-in_default
loop-index-preserved-in_default g c =
    let items = c.args.script.now in
    let index = c.loop-index.index in
    let item = lent_item c.item.result in
    let within : index < length items = omega arith in
    record {
      so_far = passed items index item c.loop-index.card _ _ c.loop-index.block.items within c.item.ensures c.in_default.ensures c.loop-index.invariant.so_far;
      counted = counted_same items index c.loop-index.number item within c.item.ensures c.in_default.ensures c.loop-index.invariant.counted;
      count = omega arith;
    }

pub returns-in_err-write_all-clause-prefix : goal.returns-in_err-write_all-clause-prefix
returns-in_err-write_all-clause-prefix g c answers run =
    let part = rw c.deref.ensures.value at c.in_err-write_all.ensures.prefix in
    let some : part.count ≤ length c.loop-index.block.items = omega (arith, part.within) in
    stopped c.args.script.now c.loop-index.index c.loop-index.card _ _ _ c.loop-index.block.items part.count answers c.loop-index.invariant.so_far part.bytes some run

pub returns-clause-done : goal.returns-clause-done
returns-clause-done g c =
    let items = c.args.script.now in
    let over : length items ≤ c.loop-index.index = omega arith in
    let so_far = subst (λ (ss : List Statement). RunSoFar ss c.loop-index.card (g.K.Sink.written c.args.out.now) (g.K.Sink.written c.loop-index.out) c.loop-index.block.items) (statements_all items c.loop-index.index over) c.loop-index.invariant.so_far in
    finished _ c.loop-index.card _ _ _ c.loop-index.block.items so_far (rw c.deref.ensures.value at c.in_ok-write_all.ensures.whole)

pub returns-clause-prefix : goal.returns-clause-prefix
returns-clause-prefix g c answers run =
    let all : Appends (g.K.Sink.written c.loop-index.out) (g.K.Sink.written c.write_all.new.sink) (take (length c.loop-index.block.items) c.loop-index.block.items) =
    rw take-length (rw c.deref.ensures.value at c.in_ok-write_all.ensures.whole) in
    stopped c.args.script.now c.loop-index.index c.loop-index.card _ _ _ c.loop-index.block.items (length c.loop-index.block.items) answers c.loop-index.invariant.so_far all (omega arith) run
