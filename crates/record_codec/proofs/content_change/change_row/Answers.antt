use Rattle.std.proofs.Common.{◌≡◌, ◌∙◌, set, Option, sym, subst}
use Rattle.std.specs.Prelude.{IsSomeAnd, slice_get}
use Rattle.file_rows.specs.Change.{file_after}
use Rattle.file_rows.specs.declared.row.FileRow.{FileRow}
use Rattle.file_rows.proofs.EditLemmas.{some_is}
use Rattle.record_codec.specs.InPlace.{CanChange}
use Rattle.record_codec.proofs.RowLemmas.{IsAt, row_there, with_there}
use Rattle.record_codec.proofs.content_change.change_row.Goals as goal

pub change_row_at-requires-clause-can : goal.change_row_at-requires-clause-can
change_row_at-requires-clause-can c =
    subst (λ (o : Option FileRow). IsSomeAnd o (λ row. CanChange c.args.change.now row c.args.kept))
    (row_there c.args.path.now c.in-Some.place c.args.rows.now c.requires.paths c.in-Some.ensures.found) c.requires.can

pub returns-in-Some : goal.returns-in-Some
returns-in-Some c =
    let rows = c.args.rows.now in
    let place = c.in-Some.place in
    let path = c.args.path.now in
    let change = file_after c.args.change.now in
    let there = some_is (slice_get rows place) (λ row. c.change_row_at.new.rows ≡ set rows place (change row)) c.change_row_at.ensures in
    let at : there.0.head.path ≡ path = subst (λ (o : Option FileRow). IsSomeAnd o (IsAt path)) there.1 c.in-Some.ensures.found in
    there.2 ∙ sym (with_there path change place rows there.0 c.requires.paths there.1 at)
