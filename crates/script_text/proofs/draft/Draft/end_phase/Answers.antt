use Rattle.std.proofs.Common.{◌∙◌, sym}
use Rattle.std.proofs.lemmas.List.Sums.{fold_push}
use Rattle.script_text.specs.Draft.{empty_script, script_so_far, with_item}
use Rattle.script_text.specs.Item.Item.{PhaseEnd}
use Rattle.script_text.proofs.DraftLemmas.{counted-phase_end}
use Rattle.script_text.proofs.draft.Draft.end_phase.Goals as goal

pub returns-clause-ok : goal.returns-clause-ok
returns-clause-ok c = rw c.in_ok-push.ensures (fold_push with_item empty_script c.args.self.now.script PhaseEnd)

pub returns-clause-counted : goal.returns-clause-counted
returns-clause-counted c = rw (c.in_ok-push.ensures, fold_push with_item empty_script c.args.self.now.script PhaseEnd)
    (λ port below.
    let its = script_so_far c.args.self.now in
    c.requires port below ∙ sym (counted-phase_end port its.phases its.statements))
