use Rattle.std.proofs.Common.{◌≡◌, ℕ, ◌≤◌, List, take, length, drop, subst, arith}
use Rattle.ber_tlv.specs.Head.{RefusesHead, BeginsWithHead}
use Rattle.ber_tlv.specs.declared.fault.TlvFault.{TlvFault}
use Rattle.package_reader.proofs.Heads.{take_least, longer, passes, refused_inside, short_front}
use Rattle.package_reader.proofs.next_head.inner_head.Goals as goal

pub returns-in-Ok : goal.returns-in-Ok
returns-in-Ok c =
    let e = c.in-Ok.ensures in
    let u = c.args.unread.now in
    let h = c.in-Ok.head in
    let same : take c.min-count.result u ≡ take c.args.left u = take_least u c.args.left c.min-count.result c.min-count.ensures in
    let within : h.size ≤ length (take c.args.left u) = subst (λ (s : List ℕ). h.size ≤ length s) same e.within in
    let found : BeginsWithHead (take c.args.left u) h.tag h.length (drop h.size (take c.args.left u)) = subst (λ (s : List ℕ). BeginsWithHead s h.tag h.length (drop h.size s)) same e.found in
    let inside = short_front c.args.left u in
    (omega arith, e.limits.0, e.limits.2, c.if-head-left.true, longer c.args.left h.size h.tag h.length u within found)

pub returns-in-Ok-2 : goal.returns-in-Ok-2
returns-in-Ok-2 c =
    let e = c.in-Ok.ensures in
    let u = c.args.unread.now in
    let h = c.in-Ok.head in
    let same : take c.min-count.result u ≡ take c.args.left u = take_least u c.args.left c.min-count.result c.min-count.ensures in
    passes c.args.left h.size h.tag h.length u
    (subst (λ (s : List ℕ). h.size ≤ length s) same e.within)
    (subst (λ (s : List ℕ). BeginsWithHead s h.tag h.length (drop h.size s)) same e.found)
    c.if-head-left.false

pub returns-in-Err-Short : goal.returns-in-Err-Short
returns-in-Err-Short c =
    let e = c.in-Err-Short.ensures in
    let u = c.args.unread.now in
    let same : take c.min-count.result u ≡ take c.args.left u = take_least u c.args.left c.min-count.result c.min-count.ensures in
    let refused = subst (λ (s : List ℕ). RefusesHead s c.in-Err-Short.field-0) same e.refused in
    (subst (λ (f : TlvFault). RefusesHead (take c.args.left u) f) c.in-Err-Short.field-0-is refused, c.if-unread-left.true)

pub returns-in-Err : goal.returns-in-Err
returns-in-Err c =
    let e = c.in-Err.ensures in
    let u = c.args.unread.now in
    let same : take c.min-count.result u ≡ take c.args.left u = take_least u c.args.left c.min-count.result c.min-count.ensures in
    refused_inside c.args.left u c.in-Err.field-0 (subst (λ (s : List ℕ). RefusesHead s c.in-Err.field-0) same e.refused) (omega arith)
