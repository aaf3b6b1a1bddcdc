use Rattle.std.proofs.Common.{◌*◌, arith, refl, rules, ◌∙◌}
use Rattle.flash_pages.proofs.Touched.{Touches-refl, Touches-trans}
use Rattle.card_journal.proofs.EraseLemmas.{block_erased, block_touches, none_erased}
use Rattle.card_journal.proofs.erase.erase_bank.Goals as goal

pub erased-init : goal.erased-init
erased-init g c =
    let state = g.F.Flash.state c.args.flash.now in
    record {
      erased = none_erased c.args.bank state;
      touches = Touches-refl 2433 (4096 * c.args.bank.first) (4096 * c.args.bank.blocks) state (g.met.F.Flash.lawful c.args.flash.now);
      programmed = refl;
    }

pub erased-preserved : goal.erased-preserved
erased-preserved g c =
    let start = g.F.Flash.state c.args.flash.now in
    let before = g.F.Flash.state c.erased.flash in
    let after = g.F.Flash.state c.erase.new.self in
    let so_far = c.erased.invariant in
    let was = g.met.F.Flash.lawful c.erased.flash in
    let now = g.met.F.Flash.lawful c.erase.new.self in
    record {
      erased = block_erased c.args.bank c.erased.block before after c.erase.result was (omega arith) (omega arith) c.requires c.erase.ensures.changes (search rules) so_far.erased;
      touches = Touches-trans 2433 (4096 * c.args.bank.first) (4096 * c.args.bank.blocks) start before after now so_far.touches
          (block_touches c.args.bank c.erased.block before after c.erase.result was (omega arith) (omega arith) c.requires c.erase.ensures.changes);
      programmed = c.erase.ensures.programmed ∙ so_far.programmed;
    }

pub returns-in_err-erase-clause-touches : goal.returns-in_err-erase-clause-touches
returns-in_err-erase-clause-touches g c =
    let start = g.F.Flash.state c.args.flash.now in
    let before = g.F.Flash.state c.erased.flash in
    let after = g.F.Flash.state c.erase.new.self in
    let was = g.met.F.Flash.lawful c.erased.flash in
    let now = g.met.F.Flash.lawful c.erase.new.self in
    Touches-trans 2433 (4096 * c.args.bank.first) (4096 * c.args.bank.blocks) start before after now c.erased.invariant.touches
    (block_touches c.args.bank c.erased.block before after c.erase.result was (omega arith) (omega arith) c.requires c.erase.ensures.changes)
