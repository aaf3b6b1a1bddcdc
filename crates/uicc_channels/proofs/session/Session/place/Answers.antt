use Rattle.std.proofs.Common.{None, refl}
use Rattle.std.proofs.lemmas.List.{set-set}
use Rattle.uicc_channels.proofs.session.Session.place.Goals as goal

pub returns-then-number-len : goal.returns-then-number-len
returns-then-number-len c =
    rw (c.set.ensures, c.replace-place.ensures.after, c.assign_place.ensures, c.from-number.ensures, set-set c.args.self.now.channels c.args.change.now.channel None) refl
