use Rattle.apdu_codec.specs.Command.{apdu_of}
use Rattle.profile_card.specs.PinCommands.{pin_row}
use Rattle.profile_card.proofs.pin_commands.answer_pin_command.Goals as goal

pub returns : goal.returns
returns c =
    c.conclude.ensures c.args.session.now (pin_row c.args.instruction c.args.pins.now c.args.session.now (apdu_of c.args.command.now)) c.try_pin_command-outcome.ensures
