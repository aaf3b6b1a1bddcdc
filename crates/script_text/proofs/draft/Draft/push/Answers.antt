use Rattle.std.proofs.Common.{◌≡◌, ℕ, ◌<◌, Some, length, refl, sym, ap, ◌∙◌, arith}
use Rattle.std.proofs.lemmas.List.Sums.{fold_push}
use Rattle.script_text.specs.Draft.{empty_script, script_so_far, with_item}
use Rattle.script_text.specs.Item.Item.{Stated}
use Rattle.script_text.specs.Lent.{event_of, statement_of}
use Rattle.script_text.specs.Script.{event_port}
use Rattle.script_text.proofs.DraftLemmas.{counted-push, is_at-port}
use Rattle.script_text.proofs.draft.Draft.push.Goals as goal

pub returns-then-count-ge-MAX_STATEMENTS-clause-err : goal.returns-then-count-ge-MAX_STATEMENTS-clause-err
returns-then-count-ge-MAX_STATEMENTS-clause-err c =
    let at : event_port (event_of c.args.statement.event) ≡ Some c.port.result = c.port.ensures in
    let same : c.port.result ≡ c.requires.port.0 = cc (sym at ∙ c.requires.port.2) in
    let below : c.from-port.result < 8 = omega (arith, c.requires.port.1, c.from-port.ensures) in
    let count = c.requires.counted c.from-port.result below in
    let here : event_port (event_of c.args.statement.event) ≡ Some c.from-port.result = at ∙ ap (λ (p : ℕ). Some p) (sym c.from-port.ensures) in
    (refl, refl, (c.from-port.result, is_at-port (statement_of c.args.statement) c.from-port.result here, omega (arith, count)))

pub returns-clause-ok : goal.returns-clause-ok
returns-clause-ok c =
    rw c.in_ok-push.ensures (fold_push with_item empty_script c.args.self.now.script (Stated (statement_of c.args.statement)))

pub returns-clause-counted : goal.returns-clause-counted
returns-clause-counted c =
    let its = script_so_far c.args.self.now in
    let at : event_port (event_of c.args.statement.event) ≡ Some c.port.result = c.port.ensures in
    let same : c.port.result ≡ c.requires.port.0 = cc (sym at ∙ c.requires.port.2) in
    let below : c.from-port.result < 8 = omega (arith, c.requires.port.1, c.from-port.ensures) in
    let here : event_port (event_of c.args.statement.event) ≡ Some c.from-port.result = at ∙ ap (λ (p : ℕ). Some p) (sym c.from-port.ensures) in
    let eight : length c.args.self.now.counts ≡ 8 = omega arith in
    rw (c.in_ok-push.ensures, fold_push with_item empty_script c.args.self.now.script (Stated (statement_of c.args.statement)))
    (counted-push its.phases its.statements (statement_of c.args.statement) c.args.self.now.counts c.from-port.result eight below here c.requires.counted)
