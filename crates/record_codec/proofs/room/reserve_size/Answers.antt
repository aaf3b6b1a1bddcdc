use Rattle.std.proofs.Common.{◌≡◌, ◌∙◌, Some}
use Rattle.file_rows.specs.Content.{file_at}
use Rattle.record_codec.proofs.RowLemmas.{row_there, row_within}
use Rattle.record_codec.proofs.room.reserve_size.Goals as goal

pub row_in-requires : goal.row_in-requires
row_in-requires c = row_within c.args.path.now c.in-Some.place c.args.rows.now c.in-Some.ensures.found

pub returns-in-Some : goal.returns-in-Some
returns-in-Some c =
    let found : file_at c.args.path.now c.args.rows.now ≡ Some c.row_in.result.now =
    row_there c.args.path.now c.in-Some.place c.args.rows.now c.requires.paths c.in-Some.ensures.found ∙ c.row_in.ensures in
    rw found c.reserve_body.ensures
