use Rattle.std.proofs.Common.{◌≡◌, ℕ, suc, ◌+◌, ◌*◌, ◌≤◌, List, length, Ok, IfSome, arith, ap}
use Rattle.std.proofs.Common.{subst, sym}
use Rattle.card_journal.proofs.CopyRowLemmas.{CopiedUpTo, copied_erased, copied_more, copy_short}
use Rattle.card_journal.proofs.CopyRowLemmas.{copy_sizes, length-put_each, none_copied}
use Rattle.card_journal.proofs.CopyRowLemmas.{whole_copied}
use Rattle.card_journal.specs.CopyBody.{copy_coding}
use Rattle.card_journal.specs.Image.{bank_of}
use Rattle.flash_pages.specs.Append.{AppendsRow}
use Rattle.flash_pages.specs.Bank.{end_of, start_of}
use Rattle.flash_pages.specs.Flash.{Touches}
use Rattle.flash_pages.specs.declared.bank.Bank.{Bank}
use Rattle.flash_pages.proofs.RowLemmas.{length-row_of}
use Rattle.flash_pages.proofs.Touched.{Touches-refl, Touches-trans, Touches-wider}
use Rattle.port_io.specs.declared.source.Failed.{Failed}
use Rattle.record_codec.specs.CopyRecord.{record_of}
use Rattle.record_codec.specs.Spelling.{spelling}
use Rattle.card_journal.proofs.copy.append_copy.Goals as goal

pub copies-init : goal.copies-init
copies-init g c =
    let start = g.F.Flash.state c.args.flash.now in
    let lawful = g.met.F.Flash.lawful c.args.flash.now in
    let first : 4096 * c.bank_of-bank.result.first ≡ start_of (bank_of c.args.idle) = ap (λ (b : Bank). 4096 * b.first) c.bank_of-bank.ensures in
    record {
      behind = omega (arith, first);
      few = omega (arith, first);
      so_far = none_copied start c.args.held.now c.args.idle (4096 * c.bank_of-bank.result.first) lawful c.requires.bank first c.requires.erased;
      settled = λ some. absurd (omega (arith, some));
      touches = Touches-refl 2433 (start_of (bank_of c.args.idle)) 4980736 start lawful;
    }

pub copied-requires-clause-place : goal.copied-requires-clause-place
copied-requires-clause-place g c =
    let held = c.args.held.now in
    omega (arith, c.copies-test.true, c.len-place-end.ensures.value, length-put_each held.heads.ports.on held.heads.profiles held.contents c.requires.are.contents.pairs)

pub new-body-requires-clause-sizes : goal.new-body-requires-clause-sizes
new-body-requires-clause-sizes g c = copy_sizes c.args.held.now c.requires.are c.copies.place (record_of c.copied.result) c.copied.ensures

pub new-body-requires-clause-few : goal.new-body-requires-clause-few
new-body-requires-clause-few g c = λ coding.
    let entry = record_of c.copied.result in
    omega (arith, copy_short c.args.held.now c.requires.are c.copies.place entry c.copied.ensures coding, length-row_of (spelling entry))

pub append_row-requires-clause-fits : goal.append_row-requires-clause-fits
append_row-requires-clause-fits g c =
    let held = c.args.held.now in
    let idle = c.args.idle in
    let entry = record_of c.copied.result in
    let coding = c.new-body.ensures.coding in
    let size = ap (λ (l : List ℕ). length l) coding in
    let short = copy_short held c.requires.are c.copies.place entry c.copied.ensures c.new-body.ensures.codes.values in
    let long = length-row_of (spelling entry) in
    let to : end_of c.bank_of-bank.result ≡ end_of (bank_of idle) = ap (λ (b : Bank). 4096 * (b.first + b.blocks)) c.bank_of-bank.ensures in
    let so_far = c.copies.invariant in
    let few = c.len-place-end.ensures.fits in
    let fits : c.copies.at + 5 + length (spelling entry) ≤ end_of (bank_of idle) = omega (arith, so_far.few, short, long, few, c.copies-test.true) in
    omega (arith, fits, size, to)

pub append_row-requires-clause-erased : goal.append_row-requires-clause-erased
append_row-requires-clause-erased g c =
    let held = c.args.held.now in
    let idle = c.args.idle in
    let entry = record_of c.copied.result in
    let coding = c.new-body.ensures.coding in
    let size = ap (λ (l : List ℕ). length l) coding in
    let short = copy_short held c.requires.are c.copies.place entry c.copied.ensures c.new-body.ensures.codes.values in
    let long = length-row_of (spelling entry) in
    let to : end_of c.bank_of-bank.result ≡ end_of (bank_of idle) = ap (λ (b : Bank). 4096 * (b.first + b.blocks)) c.bank_of-bank.ensures in
    let so_far = c.copies.invariant in
    let few = c.len-place-end.ensures.fits in
    let fits : c.copies.at + 5 + length (spelling entry) ≤ end_of (bank_of idle) = omega (arith, so_far.few, short, long, few, c.copies-test.true) in
    copied_erased (g.F.Flash.state c.copies.flash) held idle c.copies.place c.copies.at (5 + length (copy_coding c.new-body.result))
    (g.met.F.Flash.lawful c.copies.flash) c.requires.bank so_far.behind (omega (arith, fits, size)) so_far.so_far

pub returns-in_err-at-clause-touches : goal.returns-in_err-at-clause-touches
returns-in_err-at-clause-touches g c =
    let held = c.args.held.now in
    let idle = c.args.idle in
    let entry = record_of c.copied.result in
    let coding = c.new-body.ensures.coding in
    let size = ap (λ (l : List ℕ). length l) coding in
    let short = copy_short held c.requires.are c.copies.place entry c.copied.ensures c.new-body.ensures.codes.values in
    let long = length-row_of (spelling entry) in
    let to : end_of c.bank_of-bank.result ≡ end_of (bank_of idle) = ap (λ (b : Bank). 4096 * (b.first + b.blocks)) c.bank_of-bank.ensures in
    let so_far = c.copies.invariant in
    let few = c.len-place-end.ensures.fits in
    let fits : c.copies.at + 5 + length (spelling entry) ≤ end_of (bank_of idle) = omega (arith, so_far.few, short, long, few, c.copies-test.true) in
    let start = g.F.Flash.state c.args.flash.now in
    let before = g.F.Flash.state c.copies.flash in
    let after = g.F.Flash.state c.append_row.new.flash in
    let touched : Touches (start_of (bank_of idle)) 4980736 start after =
    Touches-trans 2433 (start_of (bank_of idle)) 4980736 start before after (g.met.F.Flash.lawful c.append_row.new.flash) so_far.touches
    (Touches-wider c.copies.at (5 + length (copy_coding c.new-body.result)) (start_of (bank_of idle)) 4980736 before after so_far.behind
    (omega (arith, fits, size)) c.append_row.ensures.appends.touches) in
    touched

pub copies-preserved : goal.copies-preserved
copies-preserved g c =
    let held = c.args.held.now in
    let idle = c.args.idle in
    let entry = record_of c.copied.result in
    let coding = c.new-body.ensures.coding in
    let size = ap (λ (l : List ℕ). length l) coding in
    let short = copy_short held c.requires.are c.copies.place entry c.copied.ensures c.new-body.ensures.codes.values in
    let long = length-row_of (spelling entry) in
    let to : end_of c.bank_of-bank.result ≡ end_of (bank_of idle) = ap (λ (b : Bank). 4096 * (b.first + b.blocks)) c.bank_of-bank.ensures in
    let so_far = c.copies.invariant in
    let few = c.len-place-end.ensures.fits in
    let fits : c.copies.at + 5 + length (spelling entry) ≤ end_of (bank_of idle) = omega (arith, so_far.few, short, long, few, c.copies-test.true) in
    let start = g.F.Flash.state c.args.flash.now in
    let before = g.F.Flash.state c.copies.flash in
    let after = g.F.Flash.state c.append_row.new.flash in
    let touched : Touches (start_of (bank_of idle)) 4980736 start after =
    Touches-trans 2433 (start_of (bank_of idle)) 4980736 start before after (g.met.F.Flash.lawful c.append_row.new.flash) so_far.touches
    (Touches-wider c.copies.at (5 + length (copy_coding c.new-body.result)) (start_of (bank_of idle)) 4980736 before after so_far.behind
    (omega (arith, fits, size)) c.append_row.ensures.appends.touches) in
    let appends : AppendsRow {T = ℕ} {E = Failed} c.copies.at (spelling entry) before after (Ok c.in_ok-at.at) =
    subst (λ (l : List ℕ). AppendsRow {T = ℕ} {E = Failed} c.copies.at l before after (Ok c.in_ok-at.at)) coding c.in_ok-at.ensures.appends in
    let next : c.in_ok-at.at ≡ c.copies.at + 5 + length (spelling entry) = omega (arith, c.in_ok-at.ensures.next, size) in
    let one : suc c.copies.place ≡ c.copies.place + 1 = omega arith in
    let more : IfSome after.bytes (CopiedUpTo held idle (suc c.copies.place) (c.copies.at + 5 + length (spelling entry))) =
    copied_more before after held idle c.copies.place c.copies.at entry (Ok c.in_ok-at.at) (g.met.F.Flash.lawful c.copies.flash) c.requires.bank c.copied.ensures
    c.new-body.ensures.codes so_far.behind fits so_far.so_far appends in
    record {
      behind = omega (arith, next, so_far.behind);
      few = omega (arith, next, so_far.few, short, long);
      so_far = subst (λ (k : ℕ). IfSome after.bytes (CopiedUpTo held idle (c.copies.place + 1) k)) (sym next)
          (subst (λ (k : ℕ). IfSome after.bytes (CopiedUpTo held idle k (c.copies.at + 5 + length (spelling entry)))) one more);
      settled = λ some. c.in_ok-at.ensures.appends.settled;
      touches = touched;
    }

pub returns-clause-copy : goal.returns-clause-copy
returns-clause-copy g c =
    let held = c.args.held.now in
    whole_copied (g.F.Flash.state c.copies.flash) held c.args.idle c.copies.place c.copies.at
    (omega (
      arith,
      c.copies-test.false,
      c.copies.auto.place-end,
      c.len-place-end.ensures.value,
      length-put_each held.heads.ports.on held.heads.profiles held.contents c.requires.are.contents.pairs,
    )) c.copies.invariant.so_far
