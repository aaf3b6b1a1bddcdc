use Rattle.std.proofs.Common.{refl}
use Rattle.apdu_codec.specs.Command.{Apdu, apdu_of}
use Rattle.uicc_channels.proofs.RowLemmas.{Follows-refused}
use Rattle.uicc_tree.specs.Files.{rows_of}
use Rattle.uicc_data.proofs.UsageLemmas.{named_refused}
use Rattle.uicc_data.specs.Binary.{binary_place, read_binary_row, reading}
use Rattle.uicc_data.specs.FileUse.{needs_of_reading}
use Rattle.uicc_data.proofs.binary_read.try_read_binary.Goals as goal

pub returns-in_err-place : goal.returns-in_err-place
returns-in_err-place g c allowed answers =
    let command : Apdu = apdu_of c.args.command.now in
    Follows-refused c.args.session.now (read_binary_row (rows_of c.args.tree.now) allowed c.args.session.now command) c.args.into.now _ _ _ c.from_residual.ensures.1 refl
    (named_refused (rows_of c.args.tree.now) allowed c.args.session.now command (needs_of_reading c.args.session.now command) (λ place. place.file) (reading c.args.session.now command) (binary_place command.p1 command.p2) _
    (record { channel = c.requires.open; instruction = refl }) refl refl
    (rw (← c.binary_place-named.ensures, ← c.has_le_alone.ensures) c.in_err-place.ensures))
