use Rattle.std.proofs.Common.{◌≡◌, take}
use Rattle.card_journal.proofs.held_copy.copy_contents.Given as goal

abbrev pub invariant-loop-head : goal.invariant-loop-head
invariant-loop-head g l =
    (l.store ≡ l.fn.store) × (l.contents.items ≡ take l.head-index (g.St.CardStore.state l.fn.store).held.contents)
