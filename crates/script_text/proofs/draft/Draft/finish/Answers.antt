use Rattle.script_text.proofs.CutLemmas.{script_of-fold}
use Rattle.script_text.proofs.draft.Draft.finish.Goals as goal

pub returns : goal.returns
returns c = script_of-fold c.args.self.script
