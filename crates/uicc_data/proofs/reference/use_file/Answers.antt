use Rattle.std.proofs.Common.{refl, sym}
use Rattle.uicc_data.proofs.ReferenceLemmas.{using_already}
use Rattle.uicc_data.proofs.reference.use_file.Goals as goal

pub returns-then-stands_on : goal.returns-then-stands_on
returns-then-stands_on c =
    rw c.requires.none
    (sym (using_already c.args.session.now c.args.channel c.args.path.now c.args.pointer c.requires.open
    (rw c.open_channel-chan.ensures at (c.if-stands_on.ensures refl))))
