use Rattle.std.proofs.Common.{refl, subst, rules, arith}
use Rattle.std.proofs.lemmas.Result.{err_from_is_err_and}
use Rattle.card_journal.specs.declared.make.NotMade.TheVariants.{Flash, NoMemory}
use Rattle.card_journal.proofs.BankLemmas.{reads_none}
use Rattle.card_journal.proofs.MakeLemmas.{blank_after, clean_kept, read_images, refused_by}
use Rattle.card_journal.proofs.MakeLemmas.{used_at, used_blank, used_read}
use Rattle.card_journal.specs.Made.{HoldsNoneOr, made_card}
use Rattle.flash_pages.specs.Flash.{LeavesOnly}
use Rattle.flash_pages.proofs.Touched.{GoesOn-trans, LeavesOnly-trans}
use Rattle.record_codec.specs.declared.durable.Durable.{Durable}
use Rattle.card_journal.proofs.make.make_card.Goals as goal

pub returns-in_err-held-clause-images : goal.returns-in_err-held-clause-images
returns-in_err-held-clause-images g c =
    read_images (g.F.Flash.state c.args.flash.now) (g.F.Flash.state c.args.flash.now) (made_card c.args.mode c.args.ports c.args.eid) (g.met.F.Flash.lawful c.args.flash.now)
    (reads_none (g.F.Flash.state c.args.flash.now) (g.met.F.Flash.lawful c.args.flash.now))

pub returns-in_err-used-clause-images : goal.returns-in_err-used-clause-images
returns-in_err-used-clause-images g c =
    read_images (g.F.Flash.state c.args.flash.now) (g.F.Flash.state c.first_used.new.flash) (made_card c.args.mode c.args.ports c.args.eid) (g.met.F.Flash.lawful c.args.flash.now)
    c.first_used.ensures.reads

pub returns-in-Some-clause-images : goal.returns-in-Some-clause-images
returns-in-Some-clause-images g c =
    read_images (g.F.Flash.state c.args.flash.now) (g.F.Flash.state c.first_used.new.flash) (made_card c.args.mode c.args.ports c.args.eid) (g.met.F.Flash.lawful c.args.flash.now)
    c.first_used.ensures.reads

pub returns-in-Some-clause-refused : goal.returns-in-Some-clause-refused
returns-in-Some-clause-refused g c =
    (used_at (g.F.Flash.state c.args.flash.now) 9965568 c.in-Some.place c.in_ok-used.used c.in-Some.is c.in_ok-used.ensures.first, c.first_used.ensures.reads)

pub append_first-requires-clause-begins : goal.append_first-requires-clause-begins
append_first-requires-clause-begins g c = (c.in_ok-held.held, c.in_ok-held.ensures.begun)

pub append_first-requires-clause-blank : goal.append_first-requires-clause-blank
append_first-requires-clause-blank g c =
    blank_after (g.F.Flash.state c.args.flash.now) (g.F.Flash.state c.first_used.new.flash) c.in_ok-used.used c.first_used.ensures.reads.bytes
    (first_of (search (rules, c.in_default.not-Some), grind (arith, c.in_default.not-Some))) c.in_ok-used.ensures.first

pub returns-in_err-end-clause-images : goal.returns-in_err-end-clause-images
returns-in_err-end-clause-images g c = λ blank.
    let images = subst (λ (d : Durable). LeavesOnly (g.F.Flash.state c.first_used.new.flash) (g.F.Flash.state c.append_first.new.flash) (HoldsNoneOr d))
    c.in_ok-held.ensures.held (c.append_first.ensures.images c.in_ok-held.held c.in_ok-held.ensures.begun) in
    LeavesOnly-trans (g.F.Flash.state c.args.flash.now) (g.F.Flash.state c.first_used.new.flash) (g.F.Flash.state c.append_first.new.flash) (HoldsNoneOr (made_card c.args.mode c.args.ports c.args.eid))
    c.first_used.ensures.reads.time c.append_first.ensures.time
    (read_images (g.F.Flash.state c.args.flash.now) (g.F.Flash.state c.first_used.new.flash) (made_card c.args.mode c.args.ports c.args.eid) (g.met.F.Flash.lawful c.args.flash.now) c.first_used.ensures.reads blank) images

pub returns-in_err-end-clause-time : goal.returns-in_err-end-clause-time
returns-in_err-end-clause-time g c =
    GoesOn-trans 2433 (g.F.Flash.state c.args.flash.now) (g.F.Flash.state c.first_used.new.flash) (g.F.Flash.state c.append_first.new.flash)
    (g.met.F.Flash.lawful c.append_first.new.flash) c.first_used.ensures.reads.time c.append_first.ensures.time

pub returns-clause-images : goal.returns-clause-images
returns-clause-images g c = λ blank.
    let images = subst (λ (d : Durable). LeavesOnly (g.F.Flash.state c.first_used.new.flash) (g.F.Flash.state c.append_first.new.flash) (HoldsNoneOr d))
    c.in_ok-held.ensures.held (c.append_first.ensures.images c.in_ok-held.held c.in_ok-held.ensures.begun) in
    LeavesOnly-trans (g.F.Flash.state c.args.flash.now) (g.F.Flash.state c.first_used.new.flash) (g.F.Flash.state c.append_first.new.flash) (HoldsNoneOr (made_card c.args.mode c.args.ports c.args.eid))
    c.first_used.ensures.reads.time c.append_first.ensures.time
    (read_images (g.F.Flash.state c.args.flash.now) (g.F.Flash.state c.first_used.new.flash) (made_card c.args.mode c.args.ports c.args.eid) (g.met.F.Flash.lawful c.args.flash.now) c.first_used.ensures.reads blank) images

pub returns-clause-time : goal.returns-clause-time
returns-clause-time g c =
    GoesOn-trans 2433 (g.F.Flash.state c.args.flash.now) (g.F.Flash.state c.first_used.new.flash) (g.F.Flash.state c.append_first.new.flash)
    (g.met.F.Flash.lawful c.append_first.new.flash) c.first_used.ensures.reads.time c.append_first.ensures.time

pub returns-clause-ends : goal.returns-clause-ends
returns-clause-ends g c = c.in_ok-end.ensures.ends c.in_ok-held.held c.in_ok-held.ensures.begun

pub returns-clause-valid : goal.returns-clause-valid
returns-clause-valid g c = c.in_ok-held.ensures.begun.valid

pub returns-clause-kept : goal.returns-clause-kept
returns-clause-kept g c =
    clean_kept (g.F.Flash.state c.append_first.new.flash) c.in_ok-held.held c.in_ok-end.end c.in_ok-end.ensures.settled
    (c.in_ok-end.ensures.ends c.in_ok-held.held c.in_ok-held.ensures.begun)

pub returns-clause-blank : goal.returns-clause-blank
returns-clause-blank g c =
    blank_after (g.F.Flash.state c.args.flash.now) (g.F.Flash.state c.args.flash.now) c.in_ok-used.used refl
    (first_of (search (rules, c.in_default.not-Some), grind (arith, c.in_default.not-Some))) c.in_ok-used.ensures.first

pub returns-in_err-held-clause-refused : goal.returns-in_err-held-clause-refused
returns-in_err-held-clause-refused g c =
    let p = err_from_is_err_and c.from_residual.result c.from_residual.ensures.1 in
    refused_by c.from_residual.result (g.F.Flash.state c.args.flash.now) (g.F.Flash.state c.args.flash.now) NoMemory
    (reads_none (g.F.Flash.state c.args.flash.now) (g.met.F.Flash.lawful c.args.flash.now)) p.0 p.1 p.2

pub returns-in_err-used-clause-refused : goal.returns-in_err-used-clause-refused
returns-in_err-used-clause-refused g c =
    let p = err_from_is_err_and c.from_residual-in_err-used.result c.from_residual-in_err-used.ensures.1 in
    refused_by c.from_residual-in_err-used.result (g.F.Flash.state c.args.flash.now) (g.F.Flash.state c.first_used.new.flash) Flash
    c.in_err-used.ensures.cause p.0 p.1 p.2

pub returns-in_err-end-clause-refused : goal.returns-in_err-end-clause-refused
returns-in_err-end-clause-refused g c =
    let p = err_from_is_err_and c.from_residual-in_err-end.result c.from_residual-in_err-end.ensures.1 in
    refused_by c.from_residual-in_err-end.result (g.F.Flash.state c.args.flash.now) (g.F.Flash.state c.append_first.new.flash) Flash
    (omega (arith, c.in_err-end.ensures.cause, c.first_used.ensures.reads.time.faults)) p.0 p.1 p.2

pub returns-in_err-held-clause-used : goal.returns-in_err-held-clause-used
returns-in_err-held-clause-used g c =
    used_read (g.F.Flash.state c.args.flash.now) (g.F.Flash.state c.args.flash.now) (reads_none (g.F.Flash.state c.args.flash.now) (g.met.F.Flash.lawful c.args.flash.now))

pub returns-in_err-used-clause-used : goal.returns-in_err-used-clause-used
returns-in_err-used-clause-used g c =
    used_read (g.F.Flash.state c.args.flash.now) (g.F.Flash.state c.first_used.new.flash) c.first_used.ensures.reads

pub returns-in-Some-clause-used : goal.returns-in-Some-clause-used
returns-in-Some-clause-used g c =
    used_read (g.F.Flash.state c.args.flash.now) (g.F.Flash.state c.first_used.new.flash) c.first_used.ensures.reads

pub returns-in_err-end-clause-used : goal.returns-in_err-end-clause-used
returns-in_err-end-clause-used g c =
    used_blank (g.F.Flash.state c.args.flash.now) (g.F.Flash.state c.append_first.new.flash)
    (blank_after (g.F.Flash.state c.args.flash.now) (g.F.Flash.state c.args.flash.now) c.in_ok-used.used refl
    (first_of (search (rules, c.in_default.not-Some), grind (arith, c.in_default.not-Some))) c.in_ok-used.ensures.first)

pub returns-clause-used : goal.returns-clause-used
returns-clause-used g c =
    used_blank (g.F.Flash.state c.args.flash.now) (g.F.Flash.state c.append_first.new.flash)
    (blank_after (g.F.Flash.state c.args.flash.now) (g.F.Flash.state c.args.flash.now) c.in_ok-used.used refl
    (first_of (search (rules, c.in_default.not-Some), grind (arith, c.in_default.not-Some))) c.in_ok-used.ensures.first)
