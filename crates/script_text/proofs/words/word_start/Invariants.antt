use Rattle.std.proofs.Common.{[], ◌∷◌}
use Rattle.bstr.specs.Bytes.{not_in}
use Rattle.bstr.specs.Find.{Nowhere, Passes}
use Rattle.script_text.proofs.words.word_start.Given as goal

abbrev pub invariant-loop-place : goal.invariant-loop-place
invariant-loop-place l = Nowhere (Passes (not_in (32 ∷ [])) l.line) 0 l.place
