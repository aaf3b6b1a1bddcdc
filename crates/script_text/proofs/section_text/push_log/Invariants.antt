use Rattle.std.proofs.Common.{◌≡◌, ◌++◌, take}
use Rattle.card_core.specs.Text.{log_text}
use Rattle.script_text.proofs.section_text.push_log.Given as goal

abbrev pub invariant-loop-entry : goal.invariant-loop-entry
invariant-loop-entry l = l.text.items ≡ l.fn.text.items ++ log_text (take l.entry-index l.entries)
