use Rattle.std.proofs.Common.{◌≡◌, ◌∷◌, replicate, Some, None}
use Rattle.uicc_channels.specs.Chan.{at_master}
use Rattle.uicc_channels.proofs.session.reset_session.Given as goal

-- so many closed places follow the basic channel
abbrev pub invariant-loop : goal.invariant-loop
invariant-loop l = l.channels ≡ Some at_master ∷ replicate l.counter None
