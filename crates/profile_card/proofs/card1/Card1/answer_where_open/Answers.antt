use Rattle.std.proofs.Common.{◌≡◌, ◌∙◌, None, ap, sym}
use Rattle.std.specs.Prelude.{option_copied}
use Rattle.apdu_codec.specs.Command.{apdu_of}
use Rattle.uicc_channels.specs.Session.{channel_at}
use Rattle.profile_card.proofs.ClosedLemmas.{refused_where_closed}
use Rattle.profile_card.specs.CardState.{card_of}
use Rattle.profile_card.proofs.card1.Card1.answer_where_open.Goals as goal

pub returns-in_default : goal.returns-in_default
returns-in_default c =
    let closed : channel_at (card_of c.args.self.now).session c.args.command.now.channel ≡ None =
    rw (← c.self.view_is) (sym c.channel_at.ensures ∙ ap option_copied c.in_default.is) in
    rw c.set_status.ensures (sym (refused_where_closed (card_of c.args.self.now) (apdu_of c.args.command.now) closed))
