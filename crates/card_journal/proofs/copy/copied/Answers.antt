use Rattle.std.proofs.Common.{arith}
use Rattle.card_journal.proofs.CopyRowLemmas.{length-put_each}
use Rattle.card_journal.proofs.copy.copied.Goals as goal

pub copied_profile-requires-clause-place : goal.copied_profile-requires-clause-place
copied_profile-requires-clause-place c =
    let held = c.args.held.now in
    omega (arith, c.requires.place, c.in-Some.ensures, length-put_each held.heads.ports.on held.heads.profiles held.contents c.requires.are.contents.pairs)
