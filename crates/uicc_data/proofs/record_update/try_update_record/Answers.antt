use Rattle.std.proofs.Common.{refl, sym, ◌∙◌, ap}
use Rattle.std.specs.Prelude.{◌&&◌, ◌||◌}
use Rattle.apdu_codec.specs.Command.{Apdu, apdu_of}
use Rattle.uicc_channels.proofs.RowLemmas.{Follows-refused}
use Rattle.uicc_tree.specs.Files.{file_of, rows_of}
use Rattle.file_rows.specs.FileHead.{is_cyclic, is_linear}
use Rattle.file_rows.specs.declared.head.FileHead.{FileHead}
use Rattle.file_rows.specs.declared.mode.Mode.TheVariants.{Bit}
use Rattle.uicc_channels.specs.declared.chan.Chan.{Chan}
use Rattle.uicc_data.specs.FileReference.{file_named}
use Rattle.uicc_data.proofs.UsageLemmas.{named_refused, usable_refused}
use Rattle.uicc_data.specs.Record.{is_previous, record_place, update_record_row, writing_record}
use Rattle.uicc_data.specs.FileUse.{needs_of_writing}
use Rattle.uicc_data.proofs.record_update.try_update_record.Goals as goal

pub returns-in_err-place : goal.returns-in_err-place
returns-in_err-place g c allowed answers =
    let command : Apdu = apdu_of c.args.command.now in
    Follows-refused c.args.session.now (update_record_row (rows_of c.args.tree.now) allowed c.args.session.now command) c.args.into.now _ _ _ c.from_residual.ensures.1 refl
    (named_refused (rows_of c.args.tree.now) allowed c.args.session.now command (needs_of_writing c.args.session.now command) (λ place. place.file) (writing_record c.args.session.now command) (record_place command.p1 command.p2) _
    (record { channel = c.requires.open; instruction = refl }) refl refl
    (rw (← c.record_place-named.ensures, ← c.has_body.ensures) c.in_err-place.ensures))

pub returns-in_err-require_usable : goal.returns-in_err-require_usable
returns-in_err-require_usable g c allowed answers =
    let command : Apdu = apdu_of c.args.command.now in
    let named = c.in_ok-place.ensures in
    let found = c.in_ok-node.ensures in
    let kind = c.takes_update-kind.ensures
    ∙ ap (λ (head : FileHead). is_linear head.kind || (is_cyclic head.kind && is_previous c.in_ok-place.place.name)) c.head-head.ensures in
    Follows-refused c.args.session.now (update_record_row (rows_of c.args.tree.now) allowed c.args.session.now command) c.args.into.now _ _ _ c.from_residual-in_err-require_usable.ensures.1 refl
    (usable_refused (rows_of c.args.tree.now) allowed c.args.session.now command (needs_of_writing c.args.session.now command) (λ place. place.file) (writing_record c.args.session.now command) (record_place command.p1 command.p2)
    c.in_ok-place.place (file_of c.args.tree.now c.in_ok-node.node) _
    (sym c.record_place-named.ensures ∙ named.0)
    (record {
      form = record { known = record { channel = c.requires.open; instruction = refl }; class = named.1; parameters = refl; lengths = sym c.has_body.ensures ∙ named.2 };
      template = refl;
      file = refl;
      description = refl;
    })
    (sym (ap (λ (chan : Chan). file_named (rows_of c.args.tree.now) chan c.in_ok-place.place.file) c.open_channel-chan.ensures) ∙ found.1)
    (rw (← answers c.in_ok-node.node (Bit 0x02) found.0, ← kind) c.in_err-require_usable.ensures))
