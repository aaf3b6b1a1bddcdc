use Rattle.std.proofs.Common.{◌≡◌, ◌++◌, map, take}
use Rattle.std.specs.List.{flat_map}
use Rattle.card_core.specs.Text.{log_text}
use Rattle.script_text.proofs.section_text.push_logs.Given as goal

abbrev pub invariant-loop-log : goal.invariant-loop-log
invariant-loop-log l = l.text.items ≡ l.fn.text.items ++ flat_map log_text (map (λ log. log.now) (take l.log-index l.logs))
