use Rattle.std.proofs.Common.{◌∙◌, sym}
use Rattle.apdu_codec.specs.Command.{apdu_of}
use Rattle.uicc_channels.proofs.NeedsLemmas.{parameters_refused}
use Rattle.uicc_channels.proofs.RowLemmas.{Follows-refused}
use Rattle.uicc_channels.specs.CommandRow.{CommandRow}
use Rattle.uicc_tree.specs.Files.{rows_of}
use Rattle.uicc_admin.proofs.ResizeRowLemmas.{resize_begins}
use Rattle.uicc_admin.specs.Resize.{resize_row}
use Rattle.uicc_admin.proofs.resize.try_resize.Goals as goal

pub returns-in_err-require-2 : goal.returns-in_err-require-2
returns-in_err-require-2 g c allowed answers =
    let row : CommandRow = resize_row (rows_of c.args.tree.now) allowed c.args.session.now (apdu_of c.args.command.now) in
    let begins = resize_begins (rows_of c.args.tree.now) allowed c.args.session.now (apdu_of c.args.command.now) in
    let e = c.in_err-require-2.ensures in
    Follows-refused c.args.session.now row c.args.into.now _ _ _ c.from_residual-in_err-require-2.ensures.1 e.1
    (parameters_refused row.needs (record { channel = begins.channel ∙ c.requires.open; instruction = begins.instruction })
    (begins.class ∙ (sym c.class_fits.ensures ∙ c.in_ok-require.ensures))
    (begins.parameters ∙ (sym c.has_no_parameters.ensures ∙ e.0)))
