use Rattle.std.proofs.Common.{◌≡◌}
use Rattle.apdu_codec.specs.Command.{apdu_of}
use Rattle.lsi_refresh.specs.Announcement.{announced}
use Rattle.uicc_channels.specs.CommandOutcome.{CommandOutcome, outcome_of}
use Rattle.profile_card.proofs.FollowLemmas.{MayFollow-announced}
use Rattle.profile_card.specs.Card.{Card, IsSound, outcome_at}
use Rattle.profile_card.specs.CardState.{card_of}
use Rattle.profile_card.proofs.card1.Card1.decide_into.Goals as goal

pub returns-clause-may_follow : goal.returns-clause-may_follow
returns-clause-may_follow c =
    let card : Card = card_of c.args.self.now in
    let sound : IsSound card = rw (← c.self.view_is) (record { content = c.self.invariant.0; session = c.self.invariant.1 }) in
    let by_row : CommandOutcome = outcome_of c.args.self.now.session c.answer_where_open.new.into in
    let with_it : outcome_at (card_of c.args.self.now) c.announce.new.into ≡ announced (outcome_of c.args.self.now.session c.answer_where_open.new.into) =
    rw (← c.self.view_is) c.announce.ensures in
    MayFollow-announced card sound (apdu_of c.args.command.now) by_row (outcome_at card c.announce.new.into) c.answer_where_open.ensures with_it
