use Rattle.std.proofs.Common.{refl, sym, subst}
use Rattle.apdu_codec.specs.Command.{apdu_of}
use Rattle.uicc_channels.specs.CommandOutcome.{CommandOutcome}
use Rattle.uicc_tree.specs.Files.{rows_of}
use Rattle.uicc_data.proofs.DataLemmas.{CanCarryOut-data}
use Rattle.uicc_channels.specs.CarriesOut.{CanCarryOut}
use Rattle.uicc_data.proofs.tests.ask.Goals as goal

pub carry_out-requires : goal.carry_out-requires
carry_out-requires c = (
  c.requires.0,
  subst (λ (outcome : CommandOutcome). CanCarryOut (record { rows = rows_of c.args.tree.now; pins = c.requires.0 }) outcome)
      (sym (c.data_command.ensures (λ path mode. c.args.guard.now.0) (λ node mode live. refl)))
      (CanCarryOut-data (record { rows = rows_of c.args.tree.now; pins = c.requires.0 }) c.requires.1 c.args.session.now c.requires.2 (λ path mode. c.args.guard.now.0)
      (apdu_of c.in_ok-command.command)),
  c.requires.1,
)
