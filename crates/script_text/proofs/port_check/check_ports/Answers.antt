use Rattle.std.proofs.Common.{◌≡◌, ◌<◌, ◌≤◌, length, Some, None, sym, ap, ◌∙◌, arith}
use Rattle.std.proofs.lemmas.Option.{get_or_from_slice_get}
use Rattle.script_text.specs.Lent.{lent_item}
use Rattle.script_text.specs.Ports.{line_beyond}
use Rattle.script_text.specs.Script.{statement_in}
use Rattle.script_text.proofs.FactLemmas.{statements_of-script_of}
use Rattle.script_text.proofs.PortLemmas.{beyond_end, beyond_here, beyond_next}
use Rattle.script_text.proofs.port_check.check_ports.Goals as goal

pub returns-in-Some : goal.returns-in-Some
returns-in-Some c =
    let items = c.args.script.now in
    let index = c.loop-index.index in
    let item = lent_item c.item.result in
    let within : index < length items = omega arith in
    let is = get_or_from_slice_get items index item item c.item.ensures in
    let found : line_beyond c.args.count (statement_in item) ≡ Some c.in-Some.line = sym c.in-Some.ensures in
    sym (ap (line_beyond c.args.count) (statements_of-script_of items)
    ∙ (c.loop-index.invariant ∙ beyond_here statement_in c.args.count c.in-Some.line items index item within (sym is) found))

pub loop-index-preserved : goal.loop-index-preserved
loop-index-preserved c =
    let items = c.args.script.now in
    let index = c.loop-index.index in
    let item = lent_item c.item.result in
    let within : index < length items = omega arith in
    let is = get_or_from_slice_get items index item item c.item.ensures in
    let none : line_beyond c.args.count (statement_in item) ≡ None = sym c.in-None.ensures in
    c.loop-index.invariant ∙ beyond_next statement_in c.args.count items index item within (sym is) none

pub returns : goal.returns
returns c =
    let items = c.args.script.now in
    let index = c.loop-index.index in
    let over : length items ≤ index = omega arith in
    sym (ap (line_beyond c.args.count) (statements_of-script_of items)
    ∙ (c.loop-index.invariant ∙ beyond_end statement_in c.args.count items index over))
