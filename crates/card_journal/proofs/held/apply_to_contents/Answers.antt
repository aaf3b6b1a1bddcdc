use Rattle.card_journal.specs.Held.{held_in}
use Rattle.card_journal.proofs.HeldCardLemmas.{change_takes, put_after, put_room}
use Rattle.card_journal.proofs.held.apply_to_contents.Goals as goal

pub put_content-requires : goal.put_content-requires
put_content-requires c =
    put_room (held_in c.args.heads.now c.args.contents.now.items) c.args.entry.now _ _ _
    c.in-PutProfile.is c.requires.fits c.args.room c.requires.room _ c.requires.place

pub returns-in-PutProfile-clause-contents : goal.returns-in-PutProfile-clause-contents
returns-in-PutProfile-clause-contents c =
    put_after (held_in c.args.heads.now c.args.contents.now.items) c.args.entry.now _ _ _
    c.in-PutProfile.is c.requires.fits c.args.room c.requires.room _ c.put_content.ensures.items

pub change_content_of-requires : goal.change_content_of-requires
change_content_of-requires c =
    let held = held_in c.args.heads.now c.args.contents.now.items in
    let it = c.in-Content in
    rw (c.as_slice.ensures.value, c.as_mut_slice.ensures.value)
    (record {
      pairs = c.requires.are.contents.pairs;
      numbers = c.requires.are.heads.profiles.numbers;
      takes = change_takes held c.args.entry.now it.profile it.change it.is c.requires.are
          c.requires.fits;
    })
