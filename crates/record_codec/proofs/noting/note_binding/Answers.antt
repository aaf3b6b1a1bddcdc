use Rattle.std.specs.Prelude.{option_and_then}
use Rattle.record_codec.specs.Heads.{head_of}
use Rattle.record_codec.specs.Noted.{count_where, noted_where}
use Rattle.notify_list.specs.declared.note.Operation.TheVariants.{Enable, Disable}
use Rattle.record_codec.proofs.GrowLemmas.{displaced_is, grows_where, room_rest}
use Rattle.record_codec.proofs.noting.note_binding.Goals as goal

pub note_at-requires : goal.note_at-requires
note_at-requires c =
    let profiles = c.args.profiles.now in
    let its = head_of c.args.profile profiles in
    let other = option_and_then (λ number. head_of number profiles) c.args.displaced in
    rw c.note_displaced.ensures
    (room_rest (count_where Disable other) (count_where Enable its) c.args.notes.now (noted_where Disable other c.args.notes.now)
    (grows_where Disable other c.args.notes.now (displaced_is c.args.displaced profiles c.requires.heads)) c.requires.room)
