use Rattle.flash_pages.proofs.MemoryCalls.{leaves_images}
use Rattle.flash_pages.proofs.laws.memory_leaves_images.Goals as goal

pub returns : goal.returns
returns c =
    let flash = c.args.flash.now in
    leaves_images flash.history.past flash.bytes.items flash.programmed flash.erased
    flash.power.faults flash.replays
