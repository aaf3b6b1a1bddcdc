use Rattle.std.proofs.Common.{◌≡◌, ◌+◌, length, ap, ◌∙◌, arith, rules}
use Rattle.std.specs.Str.Lines.{lines}
use Rattle.script_text.specs.Draft.{script_so_far}
use Rattle.script_text.specs.Lent.{lent_item}
use Rattle.script_text.specs.Line.{Says}
use Rattle.script_text.specs.Words.{IsPassedOver, words}
use Rattle.script_text.proofs.FeedLemmas.{map-lines_of}
use Rattle.script_text.proofs.ItemLemmas.{Says-port}
use Rattle.script_text.proofs.ReadLemmas.{IsScript-read, ReadSoFar-passed, ReadSoFar-said}
use Rattle.script_text.proofs.ReadLemmas.{ReadSoFar-start, line_fault, room_fault}
use Rattle.script_text.proofs.reading.read_lines.Goals as goal

pub lines-init : goal.lines-init
lines-init c =
    let bytes = c.args.bytes.now in
    let all : c.into_iter-text-iterator.result ≡ lines bytes =
    c.into_iter-text-iterator.ensures.into_iter_gives ∙ c.lines-text-items.ensures.value ∙ map-lines_of bytes in
    let many = ap length c.into_iter-text-iterator.ensures.into_iter_gives in
    let few = c.lines-text-items.ensures.len in
    record {
      can_next = search rules;
      is_finite = search rules;
      so_far = rw (c.in_ok-draft.ensures.nothing, all) (ReadSoFar-start c.args.set bytes);
      counted = c.in_ok-draft.ensures.counted;
      left = omega arith;
    }

pub lines-preserved-in-Ok-None : goal.lines-preserved-in-Ok-None
lines-preserved-in-Ok-None c =
    let invariant = c.lines.invariant in
    let steps = c.in-Some.ensures.steps in
    let so_far = rw steps at invariant.so_far in
    let left = invariant.left in
    let many = ap length steps in
    let passed : IsPassedOver (words c.in-Some.text.now) = rw c.in-Ok-None.field-0-is at c.in-Ok-None.ensures in
    record {
      can_next = search rules;
      is_finite = search rules;
      so_far = ReadSoFar-passed c.args.set c.args.bytes.now c.lines.number (script_so_far c.lines.draft) c.in-Some.text.now c.next.new.self so_far passed;
      counted = invariant.counted;
      left = omega arith;
    }

pub add-requires-clause-port : goal.add-requires-clause-port
add-requires-clause-port c =
    let item = lent_item c.in-Ok-Some.item in
    let says : Says c.args.set (c.lines.number + 1) (words c.in-Some.text.now) item = rw c.in-Ok-Some.field-0-is at c.in-Ok-Some.ensures in
    Says-port c.args.set (c.lines.number + 1) (words c.in-Some.text.now) item says

pub lines-preserved : goal.lines-preserved
lines-preserved c =
    let invariant = c.lines.invariant in
    let steps = c.in-Some.ensures.steps in
    let so_far = rw steps at invariant.so_far in
    let left = invariant.left in
    let many = ap length steps in
    let item = lent_item c.in-Ok-Some.item in
    let says : Says c.args.set (c.lines.number + 1) (words c.in-Some.text.now) item = rw c.in-Ok-Some.field-0-is at c.in-Ok-Some.ensures in
    record {
      can_next = search rules;
      is_finite = search rules;
      so_far = rw c.in-Ok.ensures.ok (ReadSoFar-said c.args.set c.args.bytes.now c.lines.number (script_so_far c.lines.draft) c.in-Some.text.now item c.next.new.self so_far says c.in-Ok.ensures.room);
      counted = c.in-Ok.ensures.counted;
      left = omega arith;
    }

pub returns-in-Err-add : goal.returns-in-Err-add
returns-in-Err-add c =
    let so_far = rw c.in-Some.ensures.steps at c.lines.invariant.so_far in
    let item = lent_item c.in-Ok-Some.item in
    let says : Says c.args.set (c.lines.number + 1) (words c.in-Some.text.now) item = rw c.in-Ok-Some.field-0-is at c.in-Ok-Some.ensures in
    room_fault c.args.set c.args.bytes.now c.lines.number (script_so_far c.lines.draft) c.in-Some.text.now c.next.new.self c.requires so_far item says c.in-Err-add.fault c.in-Err-add.ensures.err

pub returns-in-Err : goal.returns-in-Err
returns-in-Err c =
    let so_far = rw c.in-Some.ensures.steps at c.lines.invariant.so_far in
    line_fault c.args.set c.args.bytes.now c.lines.number (script_so_far c.lines.draft) c.in-Some.text.now c.next.new.self c.requires so_far c.in-Err.fault c.in-Err.ensures

pub returns : goal.returns
returns c =
    let so_far = rw c.in-None.ensures.steps.0 at c.lines.invariant.so_far in
    rw c.finish.ensures (IsScript-read c.args.set c.args.bytes.now c.lines.number (script_so_far c.lines.draft) c.requires so_far)
