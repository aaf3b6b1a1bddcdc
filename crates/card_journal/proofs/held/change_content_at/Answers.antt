use Rattle.std.proofs.Common.{◌≡◌, Option, set, subst, ap}
use Rattle.std.specs.Prelude.{IsSomeAnd, slice_get, slice_index_or}
use Rattle.std.proofs.lemmas.Option.{slice_get-get_or}
use Rattle.file_rows.specs.Change.{Fits, changed}
use Rattle.file_rows.specs.Content.{IsValid}
use Rattle.file_rows.specs.declared.content.Content.{Content}
use Rattle.file_rows.proofs.EditLemmas.{is_some_and}
use Rattle.card_journal.proofs.held.change_content_at.Goals as goal

pub apply-requires-clause-fits : goal.apply-requires-clause-fits
apply-requires-clause-fits c =
    let contents = c.args.contents.now in
    let there =
    slice_get-get_or contents c.args.place c.index-contents-place.result c.requires.within in
    let takes = subst (λ (o : Option Content). IsSomeAnd o
    (λ its. IsValid its × Fits its c.args.change.now)) there c.requires.takes in
    takes.1

pub returns : goal.returns
returns c =
    let contents = c.args.contents.now in
    let its = slice_index_or contents c.args.place c.index-contents-place.result in
    is_some_and (slice_get contents c.args.place)
    (λ its. set contents c.args.place c.apply.new.self
    ≡ set contents c.args.place (changed its c.args.change.now)) its
    (slice_get-get_or contents c.args.place c.index-contents-place.result c.requires.within)
    (ap (λ (now : Content). set contents c.args.place now) c.apply.ensures)
