use Rattle.profile_card.proofs.card1.Card1.select.Goals as goal

pub returns : goal.returns
returns c = rw (← c.self.view_is) (rw (c.has_isdr-isdr_here.ensures, c.deref.ensures.value) at c.select.ensures.value)
