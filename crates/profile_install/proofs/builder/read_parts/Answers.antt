use Rattle.std.proofs.Common.{◌∙◌, sym}
use Rattle.profile_install.proofs.Reading.{all_read, less, one_more}
use Rattle.profile_install.proofs.builder.read_parts.Goals as goal

pub returns-then-is_last : goal.returns-then-is_last
returns-then-is_last c =
    let now = c.loop-part.invariant in
    all_read c.args.iccid.now c.args.elements.now c.args.work c.loop-part.work c.loop-part.elements
    c.next_part-part.new.self c.next_part-part.result now.0 now.1 now.2 now.3
    c.next_part-part.ensures.part (sym c.is_last.ensures ∙ c.if-is_last.true)

pub loop-part-smaller : goal.loop-part-smaller
loop-part-smaller c =
    less c.loop-part.elements c.next_part-part.new.self c.next_part-part.result
    c.next_part-part.ensures.part (sym c.is_last.ensures ∙ c.if-is_last.false)

pub loop-part-preserved : goal.loop-part-preserved
loop-part-preserved c =
    let now = c.loop-part.invariant in
    one_more c.args.iccid.now c.args.elements.now c.loop-part.elements c.next_part-part.new.self
    c.args.work c.loop-part.work c.in_ok-work.work c.next_part-part.result c.bytes.result.now
    now.0 now.1 now.2 now.3 c.next_part-part.ensures.part
    (sym c.is_last.ensures ∙ c.if-is_last.false) c.bytes.ensures c.in_ok-work.ensures
