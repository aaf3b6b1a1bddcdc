use Rattle.std.proofs.Common.{◌+◌, sym, ◌∙◌, subst}
use Rattle.std.proofs.lemmas.Bool.{false≢true}
use Rattle.std.specs.List.{AllByRecursion}
use Rattle.file_rows.specs.Apart.{AreFilesApart}
use Rattle.file_rows.specs.declared.row.FileRow.{FileRow}
use Rattle.file_rows.proofs.EachLemmas.{take_rest, two_more, two_refused}
use Rattle.file_rows.proofs.files.are_apart.Goals as goal

abbrev IsApart : FileRow → FileRow → Type 0
IsApart one other = AreFilesApart one.head other.head

pub returns-then-not-is_apart_from : goal.returns-then-not-is_apart_from
returns-then-not-is_apart_from c =
    two_refused IsApart c.args.rows.now c.loop-index.index c.index-rows-index.result c.loop-index-test.true c.index-rows-index.is c.loop-index.invariant
    (λ each. false≢true (sym c.if-not-is_apart_from.true
    ∙ c.is_apart_from.ensures.1 (subst (AllByRecursion (IsApart c.index-rows-index.result)) (sym (take_rest c.args.rows.now (c.loop-index.index + 1))) each)))

pub loop-index-preserved : goal.loop-index-preserved
loop-index-preserved c =
    two_more IsApart c.args.rows.now c.loop-index.index c.index-rows-index.result c.loop-index-test.true c.index-rows-index.is c.loop-index.invariant
    (subst (AllByRecursion (IsApart c.index-rows-index.result)) (take_rest c.args.rows.now (c.loop-index.index + 1)) (c.is_apart_from.ensures.0 c.if-not-is_apart_from.false))
