use Rattle.std.proofs.Common.{◌≡◌, ◌∙◌, ap, subst, sym}
use Rattle.apdu_codec.specs.Command.{apdu_of}
use Rattle.uicc_channels.specs.CommandOutcome.{CommandOutcome, outcome_of}
use Rattle.uicc_channels.specs.CommandRow.{CommandRow, decided}
use Rattle.uicc_channels.specs.Session.{Suits}
use Rattle.uicc_tree.specs.Files.{rows_of}
use Rattle.uicc_select.proofs.SelectionLemmas.{change-select}
use Rattle.uicc_select.proofs.SuitsLemmas.{Suits-select}
use Rattle.uicc_select.specs.Select.{select_row}
use Rattle.uicc_select.proofs.selection.select.Goals as goal

pub returns-clause-value : goal.returns-clause-value
returns-clause-value c =
    c.conclude.ensures c.args.session.now (select_row (rows_of c.args.tree.now) c.args.pins.now c.args.session.now c.args.isdr_here (apdu_of c.args.command.now)) c.try_select-outcome.ensures

pub returns-clause-suits : goal.returns-clause-suits
returns-clause-suits c suits =
    let row : CommandRow = select_row (rows_of c.args.tree.now) c.args.pins.now c.args.session.now c.args.isdr_here (apdu_of c.args.command.now) in
    let value : outcome_of c.args.session.now c.conclude.new.into ≡ decided c.args.session.now row =
    c.conclude.ensures c.args.session.now row c.try_select-outcome.ensures in
    subst (λ (outcome : CommandOutcome). Suits outcome.session (rows_of c.args.tree.now)) (sym value)
    (Suits-select (rows_of c.args.tree.now) c.requires.files c.args.session.now suits c.args.pins.now c.args.isdr_here (apdu_of c.args.command.now))

pub returns-clause-content : goal.returns-clause-content
returns-clause-content c =
    let row : CommandRow = select_row (rows_of c.args.tree.now) c.args.pins.now c.args.session.now c.args.isdr_here (apdu_of c.args.command.now) in
    let value : outcome_of c.args.session.now c.conclude.new.into ≡ decided c.args.session.now row =
    c.conclude.ensures c.args.session.now row c.try_select-outcome.ensures in
    ap (λ (outcome : CommandOutcome). outcome.change) value
    ∙ change-select (rows_of c.args.tree.now) c.args.pins.now c.args.session.now c.args.isdr_here (apdu_of c.args.command.now)
