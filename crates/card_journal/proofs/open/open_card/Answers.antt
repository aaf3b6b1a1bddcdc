use Rattle.std.proofs.Common.{sym, ◌∙◌}
use Rattle.std.proofs.lemmas.Bool.{false≢true}
use Rattle.card_journal.proofs.SwitchedLemmas.{clean_switched, row_read, row_torn, torn_switched}
use Rattle.card_journal.specs.Stored.{EndsTorn}
use Rattle.card_journal.specs.Stored.{EndsTorn, HoldsEither}
use Rattle.card_journal.specs.Switched.{copy_bodies}
use Rattle.card_journal.proofs.StoreLemmas.{clean_known, only_throughout, open_ends, open_kept}
use Rattle.card_journal.proofs.StoreLemmas.{open_throughout}
use Rattle.flash_pages.proofs.Touched.{GoesOn-trans, at_some, from_each}
use Rattle.card_journal.proofs.open.open_card.Goals as goal

pub returns-then-opened-clause-ends : goal.returns-then-opened-clause-ends
returns-then-opened-clause-ends g c =
    open_ends (g.F.Flash.state c.args.flash.now) (g.F.Flash.state c.read_card.new.flash) c.in-Ok.opened.held c.in-Ok.opened.live c.in-Ok.opened.end
    c.in-Ok.opened.is_clean c.read_card.ensures.reads c.if-opened.true c.in-Ok.ensures.clean

pub returns-then-opened-clause-kept : goal.returns-then-opened-clause-kept
returns-then-opened-clause-kept g c = λ settled.
    let start = g.F.Flash.state c.args.flash.now in
    open_kept start (g.F.Flash.state c.read_card.new.flash) c.in-Ok.opened.held c.in-Ok.opened.live c.in-Ok.opened.end c.read_card.ensures.reads settled
    (clean_known start c.in-Ok.opened.held c.in-Ok.opened.live c.in-Ok.opened.end c.in-Ok.opened.is_clean c.if-opened.true c.in-Ok.ensures.clean)

pub returns-then-opened-clause-throughout : goal.returns-then-opened-clause-throughout
returns-then-opened-clause-throughout g c = λ one other each.
    only_throughout (g.F.Flash.state c.args.flash.now) (g.F.Flash.state c.read_card.new.flash) (HoldsEither one other)
    (g.met.F.Flash.lawful c.args.flash.now) c.read_card.ensures.reads each

pub returns-in-Ok-switch-clause-throughout : goal.returns-in-Ok-switch-clause-throughout
returns-in-Ok-switch-clause-throughout g c =
    open_throughout (g.F.Flash.state c.args.flash.now) (g.F.Flash.state c.read_card.new.flash) (g.F.Flash.state c.switch.new.flash)
    (g.met.F.Flash.lawful c.args.flash.now) (g.met.F.Flash.lawful c.switch.new.flash) c.read_card.ensures.reads c.switch.ensures.time c.in-Ok.opened.held
    c.in-Ok.ensures.holds c.switch.ensures.throughout

pub returns-in-Err-Flash-clause-throughout : goal.returns-in-Err-Flash-clause-throughout
returns-in-Err-Flash-clause-throughout g c =
    open_throughout (g.F.Flash.state c.args.flash.now) (g.F.Flash.state c.read_card.new.flash) (g.F.Flash.state c.switch.new.flash)
    (g.met.F.Flash.lawful c.args.flash.now) (g.met.F.Flash.lawful c.switch.new.flash) c.read_card.ensures.reads c.switch.ensures.time c.in-Ok.opened.held
    c.in-Ok.ensures.holds c.switch.ensures.throughout

pub returns-clause-throughout : goal.returns-clause-throughout
returns-clause-throughout g c =
    open_throughout (g.F.Flash.state c.args.flash.now) (g.F.Flash.state c.read_card.new.flash) (g.F.Flash.state c.switch.new.flash)
    (g.met.F.Flash.lawful c.args.flash.now) (g.met.F.Flash.lawful c.switch.new.flash) c.read_card.ensures.reads c.switch.ensures.time c.in-Ok.opened.held
    c.in-Ok.ensures.holds c.switch.ensures.throughout

pub returns-in-Ok-switch-clause-time : goal.returns-in-Ok-switch-clause-time
returns-in-Ok-switch-clause-time g c =
    GoesOn-trans 2433 (g.F.Flash.state c.args.flash.now) (g.F.Flash.state c.read_card.new.flash) (g.F.Flash.state c.switch.new.flash)
    (g.met.F.Flash.lawful c.switch.new.flash) c.read_card.ensures.reads.time c.switch.ensures.time

pub returns-in-Err-Flash-clause-time : goal.returns-in-Err-Flash-clause-time
returns-in-Err-Flash-clause-time g c =
    GoesOn-trans 2433 (g.F.Flash.state c.args.flash.now) (g.F.Flash.state c.read_card.new.flash) (g.F.Flash.state c.switch.new.flash)
    (g.met.F.Flash.lawful c.switch.new.flash) c.read_card.ensures.reads.time c.switch.ensures.time

pub returns-in-Err-clause-row : goal.returns-in-Err-clause-row
returns-in-Err-clause-row g c =
    row_read (g.F.Flash.state c.args.flash.now) (g.F.Flash.state c.read_card.new.flash) c.read_card.ensures.reads.bytes

pub returns-then-opened-clause-row : goal.returns-then-opened-clause-row
returns-then-opened-clause-row g c =
    row_read (g.F.Flash.state c.args.flash.now) (g.F.Flash.state c.read_card.new.flash) c.read_card.ensures.reads.bytes

pub returns-then-opened-clause-only_reads : goal.returns-then-opened-clause-only_reads
returns-then-opened-clause-only_reads g c =
    let start = g.F.Flash.state c.args.flash.now in
    from_each start.bytes _ (λ image is held live end ends. c.read_card.ensures.reads)

pub returns-then-opened-clause-switched : goal.returns-then-opened-clause-switched
returns-then-opened-clause-switched g c =
    let start = g.F.Flash.state c.args.flash.now in
    clean_switched start (g.F.Flash.state c.read_card.new.flash) (copy_bodies c.in-Ok.opened.held) c.in-Ok.opened.held c.in-Ok.opened.live c.in-Ok.opened.end
    (clean_known start c.in-Ok.opened.held c.in-Ok.opened.live c.in-Ok.opened.end c.in-Ok.opened.is_clean c.if-opened.true c.in-Ok.ensures.clean)

pub returns-in-Ok-switch-clause-only_reads : goal.returns-in-Ok-switch-clause-only_reads
returns-in-Ok-switch-clause-only_reads g c =
    let start = g.F.Flash.state c.args.flash.now in
    let torn = c.in-Ok.ensures.torn (λ clean. false≢true (sym c.if-opened.false ∙ clean)) in
    from_each start.bytes _ (λ image is held live end ends. absurd (at_some start.bytes EndsTorn image is torn held live end ends))

pub returns-in-Ok-switch-clause-row : goal.returns-in-Ok-switch-clause-row
returns-in-Ok-switch-clause-row g c =
    row_torn (g.F.Flash.state c.args.flash.now) (g.F.Flash.state c.read_card.new.flash) (g.F.Flash.state c.switch.new.flash) c.read_card.ensures.reads.bytes
    (c.in-Ok.ensures.torn (λ clean. false≢true (sym c.if-opened.false ∙ clean))) c.switch.ensures.row

pub returns-in-Ok-switch-clause-switched : goal.returns-in-Ok-switch-clause-switched
returns-in-Ok-switch-clause-switched g c =
    torn_switched (g.F.Flash.state c.args.flash.now) (g.F.Flash.state c.read_card.new.flash) (g.F.Flash.state c.switch.new.flash) (copy_bodies c.in-Ok.opened.held)
    c.in-Ok-switch.live.bank c.in-Ok-switch.live.end c.read_card.ensures.reads.bytes c.in-Ok-switch.ensures.switched

pub returns-in-Err-Flash-clause-row : goal.returns-in-Err-Flash-clause-row
returns-in-Err-Flash-clause-row g c =
    row_torn (g.F.Flash.state c.args.flash.now) (g.F.Flash.state c.read_card.new.flash) (g.F.Flash.state c.switch.new.flash) c.read_card.ensures.reads.bytes
    (c.in-Ok.ensures.torn (λ clean. false≢true (sym c.if-opened.false ∙ clean))) c.switch.ensures.row

pub returns-clause-row : goal.returns-clause-row
returns-clause-row g c =
    row_torn (g.F.Flash.state c.args.flash.now) (g.F.Flash.state c.read_card.new.flash) (g.F.Flash.state c.switch.new.flash) c.read_card.ensures.reads.bytes
    (c.in-Ok.ensures.torn (λ clean. false≢true (sym c.if-opened.false ∙ clean))) c.switch.ensures.row

pub returns-in-Err-clause-throughout : goal.returns-in-Err-clause-throughout
returns-in-Err-clause-throughout g c = λ one other each.
    only_throughout (g.F.Flash.state c.args.flash.now) (g.F.Flash.state c.read_card.new.flash) (HoldsEither one other)
    (g.met.F.Flash.lawful c.args.flash.now) c.read_card.ensures.reads each
