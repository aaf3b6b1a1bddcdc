use Rattle.uicc_channels.specs.Session.{open_channel}
use Rattle.uicc_data.proofs.SearchLemmas.{waiting_moved}
use Rattle.uicc_data.specs.FileReference.{standing_on}
use Rattle.uicc_data.proofs.delivery.leave_waiting.Goals as goal

pub returns : goal.returns
returns c =
    rw (c.requires.none, c.standing_on-after.ensures, c.open_channel.ensures, c.from_slice-after.ensures)
    (waiting_moved c.args.session.now c.args.channel
    (standing_on c.args.path.now c.args.pointer (open_channel c.args.session.now c.args.channel)) c.args.bytes.now c.requires.open)
