use Rattle.std.proofs.Common.{refl}
use Rattle.apdu_codec.specs.Command.{Apdu, apdu_of}
use Rattle.uicc_channels.proofs.RowLemmas.{Follows-refused}
use Rattle.uicc_tree.specs.Files.{rows_of}
use Rattle.uicc_data.proofs.UsageLemmas.{named_refused}
use Rattle.uicc_data.specs.Search.{search_place, search_record_row, searching}
use Rattle.uicc_data.specs.FileUse.{needs_of_writing}
use Rattle.uicc_data.proofs.search.try_search_record.Goals as goal

pub returns-in_err-place : goal.returns-in_err-place
returns-in_err-place g c allowed answers =
    let command : Apdu = apdu_of c.args.command.now in
    Follows-refused c.args.session.now (search_record_row (rows_of c.args.tree.now) allowed c.args.session.now command) c.args.into.now _ _ _ c.from_residual.ensures.1 refl
    (named_refused (rows_of c.args.tree.now) allowed c.args.session.now command (needs_of_writing c.args.session.now command) (λ place. place.file) (searching c.args.session.now command) (search_place command.p1 command.p2) _
    (record { channel = c.requires.open; instruction = refl }) refl refl
    (rw (← c.search_place-named.ensures, ← c.has_body.ensures) c.in_err-place.ensures))
