use Rattle.std.proofs.Common.{◌≡◌, ◌++◌, length, rules, ◌∙◌}
use Rattle.script_text.proofs.PoolLemmas.{pooled_items-push, with_event}
use Rattle.script_text.proofs.script_items.ScriptItems.push_statement.Goals as goal

pub returns : goal.returns
returns c =
    let from : c.len-from.result ≡ length c.self.inside.pool.items = search rules in
    let to : c.len-to.result ≡ length (c.self.inside.pool.items ++ c.parts_of-port.result.bytes.now) = search rules in
    rw (c.in_ok-extend_from_slice.ensures.items, c.in_ok-push.ensures.items, ← c.self.view_is)
    (pooled_items-push _ _ _ _ c.self.invariant from to ∙ with_event _ c.args.statement.line _ _ c.parts_of-port.ensures)
