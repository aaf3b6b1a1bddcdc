use Rattle.std.proofs.Common.{◌∙◌, ap, arith}
use Rattle.apdu_codec.specs.Command.{apdu_of}
use Rattle.uicc_channels.specs.CommandRow.{CommandRow, decided}
use Rattle.uicc_tree.specs.Files.{rows_of}
use Rattle.uicc_admin.proofs.AdministrationLemmas.{row-activate, row-create, row-deactivate}
use Rattle.uicc_admin.proofs.AdministrationLemmas.{row-delete, row-resize, row-terminate}
use Rattle.uicc_admin.proofs.dispatch.admin_command.Goals as goal

pub returns-in-224 : goal.returns-in-224
returns-in-224 g c allowed answers =
    c.create_file.ensures allowed answers
    ∙ ap (λ (row : CommandRow). decided c.args.session.now row) (row-create (rows_of c.args.tree.now) allowed c.args.session.now (apdu_of c.args.command.now) c.in-224.is)

pub returns-in-228 : goal.returns-in-228
returns-in-228 g c allowed answers =
    c.delete_file.ensures allowed answers
    ∙ ap (λ (row : CommandRow). decided c.args.session.now row) (row-delete (rows_of c.args.tree.now) allowed c.args.session.now (apdu_of c.args.command.now) c.in-228.is)

pub returns-in-212 : goal.returns-in-212
returns-in-212 g c allowed answers =
    c.resize_file.ensures allowed answers
    ∙ ap (λ (row : CommandRow). decided c.args.session.now row) (row-resize (rows_of c.args.tree.now) allowed c.args.session.now (apdu_of c.args.command.now) c.in-212.is)

pub returns-in-68 : goal.returns-in-68
returns-in-68 g c allowed answers =
    c.activate_file.ensures allowed answers
    ∙ ap (λ (row : CommandRow). decided c.args.session.now row) (row-activate (rows_of c.args.tree.now) allowed c.args.session.now (apdu_of c.args.command.now) c.in-68.is)

pub returns-in-4 : goal.returns-in-4
returns-in-4 g c allowed answers =
    c.deactivate_file.ensures allowed answers
    ∙ ap (λ (row : CommandRow). decided c.args.session.now row) (row-deactivate (rows_of c.args.tree.now) allowed c.args.session.now (apdu_of c.args.command.now) c.in-4.is)

pub returns-in_default : goal.returns-in_default
returns-in_default g c allowed answers =
    c.terminate_ef.ensures allowed answers
    ∙ ap (λ (row : CommandRow). decided c.args.session.now row)
    (row-terminate (rows_of c.args.tree.now) allowed c.args.session.now (apdu_of c.args.command.now) (λ e. omega (arith, e)) (λ e. omega (arith, e)) (λ e. omega (arith, e)) (λ e. omega (arith, e)) (λ e. omega (arith, e)))
