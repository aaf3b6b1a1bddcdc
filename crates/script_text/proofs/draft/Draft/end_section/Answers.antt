use Rattle.std.proofs.lemmas.List.Sums.{fold_push}
use Rattle.script_text.specs.Draft.{empty_script, with_item}
use Rattle.script_text.specs.Item.Item.{SectionEnd}
use Rattle.script_text.proofs.draft.Draft.end_section.Goals as goal

pub returns-clause-ok : goal.returns-clause-ok
returns-clause-ok c = rw c.in_ok-push.ensures (fold_push with_item empty_script c.args.self.now.script SectionEnd)
