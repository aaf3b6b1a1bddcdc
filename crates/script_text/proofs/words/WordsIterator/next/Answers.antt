use Rattle.std.proofs.Common.{◌≡◌, ◌∷◌, sym, ◌∙◌}
use Rattle.std.proofs.lemmas.List.{take_rest}
use Rattle.bstr.proofs.lemmas.MatchListLemmas.{goes-ref}
use Rattle.script_text.specs.Words.{words}
use Rattle.script_text.proofs.WordLemmas.{words-none, words-some}
use Rattle.script_text.proofs.words.WordsIterator.next.Goals as goal

pub returns-in_err-start-clause-steps : goal.returns-in_err-start-clause-steps
returns-in_err-start-clause-steps c =
    let none = words-none _ c.in_err-start.ensures in
    rw c.from_residual.ensures (sym c.self.view_is ∙ none, sym c.self.view_is ∙ none)

-- the words that were left begin with this one, and those after it are left
taken : (c : goal.After-rest-2-1) → c.args.self.now ≡ c.split_at.result.0.now ∷ words c.split_at.result.1.now
taken c =
    let line = c.self.inside.0.now in
    let word = words-some line _ c.in_ok-start.start c.find_byte.result c.in_ok-start.ensures (take_rest line c.in_ok-start.start) c.find_byte.ensures in
    sym c.self.view_is ∙ rw (c.split_at.ensures.front, c.split_at.ensures.back, c.unwrap_or-end.ensures) word

pub returns-clause-steps : goal.returns-clause-steps
returns-clause-steps c = taken c

pub returns-clause-goes : goal.returns-clause-goes
returns-clause-goes c = goes-ref _ (λ _. tt) _ _ _ (taken c)
