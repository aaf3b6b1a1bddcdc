use Rattle.std.proofs.Common.{◌<◌, ◌≤◌, ℕ}
use Rattle.uicc_channels.specs.Session.{IsOpen}
use Rattle.uicc_channels.proofs.manage_channel_command.lowest_closed.Given as goal

-- the channels so far are open
abbrev pub invariant-loop-number : goal.invariant-loop-number
invariant-loop-number l = (k : ℕ) → 1 ≤ k → k < l.number → IsOpen l.session k
