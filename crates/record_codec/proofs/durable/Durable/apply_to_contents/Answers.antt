use Rattle.std.proofs.Common.{subst}
use Rattle.record_codec.specs.Heads.{held_content}
use Rattle.file_rows.specs.Change.{Fits}
use Rattle.record_codec.specs.FitsCard.{NamesWhatIsHeld}
use Rattle.record_codec.specs.Room.{IsKeptFor, KeepsChange}
use Rattle.record_codec.specs.declared.record.Record.{Record}
use Rattle.record_codec.specs.declared.record.Record.TheVariants as records
use Rattle.record_codec.proofs.HeldLemmas.{content_valid, said_of}
use Rattle.record_codec.proofs.durable.Durable.apply_to_contents.Goals as goal

pub change_one-requires-clause-takes : goal.change_one-requires-clause-takes
change_one-requires-clause-takes c =
    let held = c.args.self.now in
    let it = c.in-Content in
    let entry : Record = records.Content it.profile it.change in
    let place = subst (λ (e : Record). NamesWhatIsHeld held e) it.is c.requires.fits.place in
    let kept = subst (λ (e : Record). IsKeptFor held e c.args.kept) it.is c.requires.kept in
    said_of (held_content it.profile held) (λ its. Fits its it.change) (λ its. KeepsChange its it.change c.args.kept)
    (λ its found. content_valid it.profile held.heads.profiles held.contents its c.requires.are.contents.valid found) place kept
