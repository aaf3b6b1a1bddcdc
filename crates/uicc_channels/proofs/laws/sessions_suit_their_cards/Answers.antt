use Rattle.std.proofs.Common.{Some, None, refl}
use Rattle.uicc_channels.proofs.SessionLemmas.{Suits-fresh_session, Suits-waiting}
use Rattle.uicc_channels.proofs.SessionLemmas.{Suits-with_channel}
use Rattle.uicc_channels.proofs.laws.sessions_suit_their_cards.Goals as goal

pub returns-clause-fresh : goal.returns-clause-fresh
returns-clause-fresh c = Suits-fresh_session

pub returns-clause-delivered : goal.returns-clause-delivered
returns-clause-delivered c session rows command body suits = Suits-waiting command.le session rows command.channel body suits

pub returns-clause-opened : goal.returns-clause-opened
returns-clause-opened c session rows number chan suits stands =
    Suits-with_channel session rows number (Some chan) suits stands (λ e. refl)

pub returns-clause-closed : goal.returns-clause-closed
returns-clause-closed c session rows number suits other =
    Suits-with_channel session rows number None suits tt (λ e. absurd (other e))
