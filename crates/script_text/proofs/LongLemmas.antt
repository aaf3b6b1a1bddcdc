-- A text of more bytes than a script may have.
use Rattle.std.proofs.Common.{◌≡◌, ℕ, ◌+◌, ◌<◌, ◌≤◌, ◌==◌, List, ◌++◌, length, sym, ap, ◌∙◌, arith}
use Rattle.std.proofs.Common.{length-append}
use Rattle.std.specs.Prelude.{count_by}
use Rattle.std.proofs.lemmas.List.{take-append-le}
use Rattle.card_core.specs.declared.script.Script.{Script}
use Rattle.script_text.specs.Script.{HasFirstFault, IsScript, line_of_byte}
use Rattle.script_text.specs.declared.fault.ScriptKind.{ScriptKind}
use Rattle.script_text.specs.declared.fault.ScriptKind.TheVariants.{Grammar, TooMany, TooLong}
use Rattle.script_text.specs.declared.line_set.LineSet.{LineSet}

pub IsScript-short : (set : LineSet) (text : List ℕ) (script : Script) → IsScript set text script → length text ≤ 8388608
IsScript-short set text script read = read.short

line_of_byte-longer : (text more : List ℕ) → 8388608 < length text → line_of_byte (text ++ more) 8388608 ≡ line_of_byte text 8388608
line_of_byte-longer text more long =
    let within : 8388608 ≤ length text = omega (arith, long) in
    ap (λ (first : List ℕ). count_by (λ b. b == 10) first + 1) (take-append-le 8388608 text more within)

pub HasFirstFault-longer : (set : LineSet) (text more : List ℕ) (line : ℕ) (kind : ScriptKind) → 8388608 < length text
    → HasFirstFault set text line kind → HasFirstFault set (text ++ more) line kind
HasFirstFault-longer set text more line Grammar long fault = absurd (omega (arith, long, fault.2.short))
HasFirstFault-longer set text more line TooMany long fault = absurd (omega (arith, long, fault.3.short))
HasFirstFault-longer set text more line TooLong long fault =
    let longer : 8388608 < length (text ++ more) = omega (arith, long, length-append text more) in
    (longer, fault.1 ∙ sym (line_of_byte-longer text more long))
