use Rattle.std.proofs.Common.{◌∙◌, ap, arith}
use Rattle.apdu_codec.specs.Command.{apdu_of}
use Rattle.uicc_channels.specs.CommandRow.{CommandRow, decided}
use Rattle.uicc_tree.specs.Files.{rows_of}
use Rattle.uicc_data.proofs.DataLemmas.{row-increase, row-read_binary, row-read_record}
use Rattle.uicc_data.proofs.DataLemmas.{row-search_record, row-update_binary, row-update_record}
use Rattle.uicc_data.proofs.dispatch.data_command.Goals as goal

pub returns-in-176 : goal.returns-in-176
returns-in-176 g c allowed answers =
    c.read_binary.ensures allowed answers
    ∙ ap (λ (row : CommandRow). decided c.args.session.now row) (row-read_binary (rows_of c.args.tree.now) allowed c.args.session.now (apdu_of c.args.command.now) c.in-176.is)

pub returns-in-214 : goal.returns-in-214
returns-in-214 g c allowed answers =
    c.update_binary.ensures allowed answers
    ∙ ap (λ (row : CommandRow). decided c.args.session.now row) (row-update_binary (rows_of c.args.tree.now) allowed c.args.session.now (apdu_of c.args.command.now) c.in-214.is)

pub returns-in-178 : goal.returns-in-178
returns-in-178 g c allowed answers =
    c.read_record.ensures allowed answers
    ∙ ap (λ (row : CommandRow). decided c.args.session.now row) (row-read_record (rows_of c.args.tree.now) allowed c.args.session.now (apdu_of c.args.command.now) c.in-178.is)

pub returns-in-220 : goal.returns-in-220
returns-in-220 g c allowed answers =
    c.update_record.ensures allowed answers
    ∙ ap (λ (row : CommandRow). decided c.args.session.now row) (row-update_record (rows_of c.args.tree.now) allowed c.args.session.now (apdu_of c.args.command.now) c.in-220.is)

pub returns-in-162 : goal.returns-in-162
returns-in-162 g c allowed answers =
    c.search_record.ensures allowed answers
    ∙ ap (λ (row : CommandRow). decided c.args.session.now row) (row-search_record (rows_of c.args.tree.now) allowed c.args.session.now (apdu_of c.args.command.now) c.in-162.is)

pub returns-in_default : goal.returns-in_default
returns-in_default g c allowed answers =
    c.increase.ensures allowed answers
    ∙ ap (λ (row : CommandRow). decided c.args.session.now row)
    (row-increase (rows_of c.args.tree.now) allowed c.args.session.now (apdu_of c.args.command.now)
    (λ e. omega (arith, e)) (λ e. omega (arith, e)) (λ e. omega (arith, e)) (λ e. omega (arith, e)) (λ e. omega (arith, e)))
