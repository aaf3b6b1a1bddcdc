use Rattle.std.proofs.Common.{◌≡◌, ◌+◌, ◌∷◌, ◌∙◌, ℕ, List, drop, get_or, sym, ap, subst}
use Rattle.record_codec.specs.Heads.{head_of}
use Rattle.record_codec.specs.Noted.{count_of_each, count_where, noted_each, noted_where}
use Rattle.std.proofs.lemmas.List.{drop_more}
use Rattle.notify_list.specs.Notes.{HasNoteRoom, NoteList}
use Rattle.record_codec.proofs.GrowLemmas.{grows_where, head_is, room_rest}
use Rattle.record_codec.proofs.noting.note_each.Goals as goal

pub loop-number-preserved : goal.loop-number-preserved
loop-number-preserved c =
    let numbers = c.as_slice-number-items.result.now in
    let profiles = c.args.profiles.now in
    let notes = c.loop-number.notes in
    let i = c.loop-number.number-index in
    let rest : List ℕ = drop (i + 1) numbers in
    let number : ℕ = get_or numbers i 0 in
    let here : drop i numbers ≡ number ∷ rest = drop_more numbers i 0 c.loop-number-test.true in
    let its = head_of number profiles in
    record {
      so_far = ap (noted_each c.args.operation rest profiles) c.note_at.ensures
          ∙ sym (ap (λ (ns : List ℕ). noted_each c.args.operation ns profiles notes) here)
          ∙ c.loop-number.invariant.so_far;
      room = subst (λ (now : NoteList). HasNoteRoom now (count_of_each c.args.operation rest profiles)) (sym c.note_at.ensures)
          (room_rest (count_where c.args.operation its) (count_of_each c.args.operation rest profiles) notes (noted_where c.args.operation its notes)
          (grows_where c.args.operation its notes (head_is number profiles c.requires.heads))
          (subst (λ (ns : List ℕ). HasNoteRoom notes (count_of_each c.args.operation ns profiles)) here c.loop-number.invariant.room));
    }
