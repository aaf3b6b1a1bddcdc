use Rattle.std.proofs.Common.{ℕ, List, Option, sym, subst}
use Rattle.std.specs.Prelude.{IfSome}
use Rattle.apdu_codec.specs.declared.answers.Answer.{Answer}
use Rattle.card_core.specs.declared.script.Script.{Script}
use Rattle.script_text.specs.Ports.{statements_of}
use Rattle.script_text.specs.Script.{IsScript}
use Rattle.script_text.specs.declared.line_set.LineSet.TheVariants.{PortOne}
use Rattle.script_text.proofs.FaultLemmas.{IsScript-same}
use Rattle.card_run.proofs.LoadLemmas.{IfSome-follows}
use Rattle.card_run.specs.Demo.{IsAnswerText, IsRun, WritesPrefix, demo_text}

-- the answers to the script that was read are those to the script of the text
pub prefix_of : (left before after : Option (List ℕ)) (script : Script) → IfSome left (λ text. IsScript PortOne text script)
    → ((answers : List Answer) → IsRun (statements_of script) answers → WritesPrefix before after (demo_text answers))
    → IfSome left (λ text. (printed : List ℕ) → IsAnswerText text printed → WritesPrefix before after printed)
prefix_of left before after script h written =
    IfSome-follows (λ (text : List ℕ). IsScript PortOne text script) (λ (text : List ℕ). (printed : List ℕ) → IsAnswerText text printed → WritesPrefix before after printed) left
    (λ text read printed a.
    subst (WritesPrefix before after) (sym a.4) (written a.1 (subst (λ (its : Script). IsRun (statements_of its) a.1) (IsScript-same PortOne text a.0 script a.2 read) a.3)))
    h
