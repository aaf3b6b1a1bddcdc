use Rattle.std.proofs.Common.{inl, refl}
use Rattle.apdu_codec.specs.Command.{apdu_of}
use Rattle.card_core.proofs.CameLemmas.{on_ok}
use Rattle.card_core.specs.Statements.{command_made}
use Rattle.card_core.specs.Whole.{world_state}
use Rattle.card_core.proofs.world.World.answer_bytes.Goals as goal

pub returns-in-Ok : goal.returns-in-Ok
returns-in-Ok c =
    let command = apdu_of c.in-Ok.command in
    on_ok c.command.result c.command.ensures (λ came. (
      command_made (world_state c.args.self.now) c.args.came command,
      inl (command, c.in-Ok.ensures.spelled, refl),
      came,
    ))
