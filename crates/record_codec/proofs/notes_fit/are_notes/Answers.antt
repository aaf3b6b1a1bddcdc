use Rattle.std.proofs.Common.{◌≡◌, ◌∙◌, [], drop, refl, sym, subst, arith}
use Rattle.std.proofs.lemmas.Bool.{false≢true}
use Rattle.file_rows.proofs.EachLemmas.{refused}
use Rattle.std.proofs.lemmas.List.{drop_all}
use Rattle.record_codec.proofs.BehindLemmas.{AreBehind, behind_fails, behind_more, notes_are}
use Rattle.record_codec.proofs.notes_fit.are_notes.Goals as goal

pub returns-then-not-is_behind : goal.returns-then-not-is_behind
returns-then-not-is_behind c =
    let are = notes_are c.args.next c.args.list.now (omega arith) (omega arith) in
    refused (λ notes. behind_fails c.loop-note.previous c.args.next c.args.list.now c.loop-note.note-index c.note-item.result c.loop-note-test.true c.note-item.is
    c.loop-note.invariant (λ is. false≢true (sym c.if-not-is_behind.true ∙ c.is_behind.ensures.1 is)) (are.1 notes))

pub loop-note-preserved : goal.loop-note-preserved
loop-note-preserved c =
    behind_more c.loop-note.previous c.args.next c.args.list.now c.loop-note.note-index c.note-item.result c.loop-note-test.true c.note-item.is
    c.loop-note.invariant (c.is_behind.ensures.0 c.if-not-is_behind.false)

pub returns : goal.returns
returns c =
    let are = notes_are c.args.next c.args.list.now (omega arith) (omega arith) in
    let none : drop c.loop-note.note-index c.args.list.now ≡ [] = drop_all c.loop-note.note-index c.args.list.now c.loop-note-test.false in
    (λ _. are.0 (c.loop-note.invariant.0 (subst (AreBehind c.loop-note.previous c.args.next) (sym none) tt)), λ _. refl)
