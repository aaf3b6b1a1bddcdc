use Rattle.std.proofs.Common.{◌∙◌, sym, refl}
use Rattle.apdu_codec.specs.Command.{apdu_of}
use Rattle.uicc_channels.specs.CommandRow.{CommandRow}
use Rattle.uicc_tree.specs.Files.{rows_of}
use Rattle.uicc_select.specs.Status.{status_row}
use Rattle.uicc_channels.proofs.NeedsLemmas.{class_refused, parameters_refused, lengths_refused}
use Rattle.uicc_channels.proofs.RowLemmas.{Follows-refused}
use Rattle.uicc_select.proofs.status_command.try_status.Goals as goal

pub returns-in_err-require : goal.returns-in_err-require
returns-in_err-require c =
    let row : CommandRow = status_row (rows_of c.args.tree.now) c.args.pins.now c.args.session.now (apdu_of c.args.command.now) in
    let e = c.in_err-require.ensures in
    Follows-refused c.args.session.now row c.args.into.now _ _ _ c.from_residual.ensures.1 e.1
    (class_refused row.needs (record { channel = c.requires.open; instruction = refl }) (sym c.class_fits.ensures ∙ e.0))

pub returns-in_err-require-2 : goal.returns-in_err-require-2
returns-in_err-require-2 c =
    let row : CommandRow = status_row (rows_of c.args.tree.now) c.args.pins.now c.args.session.now (apdu_of c.args.command.now) in
    let e = c.in_err-require-2.ensures in
    Follows-refused c.args.session.now row c.args.into.now _ _ _ c.from_residual-in_err-require-2.ensures.1 e.1
    (parameters_refused row.needs (record { channel = c.requires.open; instruction = refl })
    (sym c.class_fits.ensures ∙ c.in_ok-require.ensures)
    (sym c.are_of_status.ensures ∙ e.0))

pub returns-in_err-require-3 : goal.returns-in_err-require-3
returns-in_err-require-3 c =
    let row : CommandRow = status_row (rows_of c.args.tree.now) c.args.pins.now c.args.session.now (apdu_of c.args.command.now) in
    let e = c.in_err-require-3.ensures in
    Follows-refused c.args.session.now row c.args.into.now _ _ _ c.from_residual-in_err-require-3.ensures.1 e.1
    (lengths_refused row.needs (record { channel = c.requires.open; instruction = refl })
    (sym c.class_fits.ensures ∙ c.in_ok-require.ensures)
    (sym c.are_of_status.ensures ∙ c.in_ok-require-2.ensures)
    (sym c.is_empty.ensures ∙ e.0))
