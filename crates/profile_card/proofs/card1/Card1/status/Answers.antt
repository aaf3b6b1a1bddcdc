use Rattle.profile_card.proofs.card1.Card1.status.Goals as goal

pub returns : goal.returns
returns c = rw (← c.self.view_is) (rw c.deref.ensures.value at c.status.ensures.value)
