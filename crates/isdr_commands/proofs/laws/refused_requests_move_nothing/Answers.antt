use Rattle.isdr_commands.proofs.RefusedLemmas.{managed_quiet}
use Rattle.isdr_commands.proofs.laws.refused_requests_move_nothing.Goals as goal

pub returns : goal.returns
returns c = λ heads busy came request. managed_quiet heads busy came request
