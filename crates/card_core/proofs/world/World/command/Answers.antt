use Rattle.std.proofs.Common.{◌∙◌, subst, sym}
use Rattle.apdu_codec.specs.Command.{apdu_of}
use Rattle.card_core.proofs.CameLemmas.{on_ok, port_is}
use Rattle.card_core.proofs.RunLemmas.{isdr_command}
use Rattle.card_core.specs.AtPort.{port_state}
use Rattle.card_core.specs.Whole.{Came, world_state}
use Rattle.card_core.specs.World.{Made}
use Rattle.card_core.specs.declared.world.World.{World}
use Rattle.card_core.proofs.world.World.command.Goals as goal

pub returns-else-command-eq-MANAGE_LSI : goal.returns-else-command-eq-MANAGE_LSI
returns-else-command-eq-MANAGE_LSI c =
    let before : World = c.args.self.now in
    on_ok c.isdr.result c.isdr.ensures (λ came.
    subst (λ (made : Made). Came before c.isdr.new.self made)
    (isdr_command (world_state before) c.args.came (apdu_of c.args.command.now)
    (port_state c.index.result.now)
    (port_is before c.args.came c.requires.whole c.requires.may c.from.result c.index.result.now
    c.from.ensures c.index.ensures)
    (sym c.is_common.ensures ∙ c.if-not-is_common.false) c.if-command-eq-MANAGE_LSI.false) came)
