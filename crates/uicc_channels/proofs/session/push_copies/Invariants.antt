use Rattle.std.proofs.Common.{◌≡◌, ◌++◌, take}
use Rattle.uicc_channels.proofs.session.push_copies.Given as goal

-- the first places are copied
abbrev pub invariant-loop-place : goal.invariant-loop-place
invariant-loop-place l = l.channels ≡ l.initial.channels ++ take l.place-index l.places
