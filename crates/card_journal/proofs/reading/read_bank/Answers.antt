use Rattle.std.proofs.Common.{◌≡◌, ◌<◌, ◌≤◌, List, ℕ, Option, None, Err, IfSome, sym, ap, subst}
use Rattle.std.proofs.Common.{arith}
use Rattle.std.proofs.lemmas.Result.{err_from_is_err_and}
use Rattle.card_journal.specs.Read.{IsRowAt, ReadUpTo}
use Rattle.card_journal.specs.declared.fault.ReadFault.{ReadFault}
use Rattle.card_journal.specs.declared.fault.ReadFault.TheVariants.{NotACard}
use Rattle.card_journal.specs.declared.row.Row.{Row}
use Rattle.flash_pages.specs.Bank.{end_of}
use Rattle.flash_pages.proofs.Touched.{from_each}
use Rattle.record_codec.specs.Sizes.{Codes}
use Rattle.record_codec.specs.declared.durable.Durable.{Durable}
use Rattle.card_journal.proofs.BankLemmas.{end_found, end_none, entry_none, next_none, next_valid}
use Rattle.card_journal.proofs.BankLemmas.{overrun_none, read_on, read_start, reads_none}
use Rattle.card_journal.proofs.BankLemmas.{reads_then}
use Rattle.card_journal.proofs.reading.read_bank.Goals as goal

pub rows-init : goal.rows-init
rows-init g c =
    let start = g.F.Flash.state c.args.flash.now in
    record {
      place = record { from_start = omega arith; to_end = omega arith };
      valid = tt;
      read = from_each start.bytes (λ image. ReadUpTo c.args.bank image None _) (λ image is. read_start c.args.bank image);
      reads = reads_none start (g.met.F.Flash.lawful c.args.flash.now);
    }

pub returns-in_err-row-clause-card : goal.returns-in_err-row-clause-card
returns-in_err-row-clause-card g c = λ is.
    let so_far = c.rows.invariant in
    let p = err_from_is_err_and c.from_residual.result c.from_residual.ensures.1 in
    let fault : c.in_err-row.field-0.0 ≡ NotACard = cc (p.1, p.2, is) in
    overrun_none c.args.bank c.requires (g.F.Flash.state c.args.flash.now) (g.F.Flash.state c.rows.flash) so_far.reads c.rows.held c.rows.at so_far.place so_far.read
    (c.in_err-row.ensures.card (ap (λ (f : ReadFault). Err f) fault))

pub returns-in_err-entry-clause-card : goal.returns-in_err-entry-clause-card
returns-in_err-entry-clause-card g c = λ is.
    let so_far = c.rows.invariant in
    let now = g.F.Flash.state c.rows.flash in
    let row = c.in-Some.row in
    let seen = subst (λ (r : Option Row). IfSome now.bytes (λ image. IsRowAt c.args.bank image c.rows.at r)) c.in-Some.is c.in_ok-row.ensures.row in
    let within = subst (λ (r : Option Row). IfSome r (λ row. (c.rows.at < row.next) × (row.next ≤ end_of c.args.bank))) c.in-Some.is c.in_ok-row.ensures.next in
    let p = err_from_is_err_and c.from_residual-in_err-entry.result c.from_residual-in_err-entry.ensures.1 in
    let fault : c.in_err-entry.field-0.0 ≡ NotACard = cc (p.1, p.2, is) in
    let none = c.in_err-entry.ensures.card (ap (λ (f : ReadFault). Err f) fault) in
    entry_none c.args.bank c.requires (g.F.Flash.state c.args.flash.now) now so_far.reads c.rows.held c.rows.at so_far.place so_far.read row within.1 seen
    (λ entry codes. none entry (subst (λ (bytes : List ℕ). Codes bytes entry) (sym c.deref.ensures.value) codes))

pub returns-in_err-next-clause-card : goal.returns-in_err-next-clause-card
returns-in_err-next-clause-card g c = λ is.
    let so_far = c.rows.invariant in
    let now = g.F.Flash.state c.rows.flash in
    let row = c.in-Some.row in
    let entry = c.in_ok-entry.entry in
    let seen = subst (λ (r : Option Row). IfSome now.bytes (λ image. IsRowAt c.args.bank image c.rows.at r)) c.in-Some.is c.in_ok-row.ensures.row in
    let within = subst (λ (r : Option Row). IfSome r (λ row. (c.rows.at < row.next) × (row.next ≤ end_of c.args.bank))) c.in-Some.is c.in_ok-row.ensures.next in
    let codes = subst (λ (bytes : List ℕ). Codes bytes entry) c.deref.ensures.value c.in_ok-entry.ensures.found in
    let p = err_from_is_err_and c.from_residual-in_err-next.result c.from_residual-in_err-next.ensures.1 in
    let fault : c.in_err-next.field-0.0 ≡ NotACard = cc (p.1, p.2, is) in
    next_none c.args.bank c.requires (g.F.Flash.state c.args.flash.now) now so_far.reads c.rows.held c.rows.at so_far.place so_far.read row entry within.1 seen codes
    (c.in_err-next.ensures.none (ap (λ (f : ReadFault). Err f) fault))

pub rows-preserved : goal.rows-preserved
rows-preserved g c =
    let so_far = c.rows.invariant in
    let start = g.F.Flash.state c.args.flash.now in
    let now = g.F.Flash.state c.rows.flash in
    let row = c.in-Some.row in
    let entry = c.in_ok-entry.entry in
    let seen = subst (λ (r : Option Row). IfSome now.bytes (λ image. IsRowAt c.args.bank image c.rows.at r)) c.in-Some.is c.in_ok-row.ensures.row in
    let within = subst (λ (r : Option Row). IfSome r (λ row. (c.rows.at < row.next) × (row.next ≤ end_of c.args.bank))) c.in-Some.is c.in_ok-row.ensures.next in
    let codes = subst (λ (bytes : List ℕ). Codes bytes entry) c.deref.ensures.value c.in_ok-entry.ensures.found in
    record {
      place = record { from_start = omega (arith, so_far.place.from_start, within.0); to_end = within.1 };
      valid = next_valid c.rows.held entry c.next.new.held so_far.valid c.in_ok-next.ensures.ok;
      read = read_on c.args.bank c.requires start now so_far.reads c.rows.held c.rows.at so_far.place so_far.read row entry c.next.new.held within.1 seen codes c.in_ok-next.ensures.ok;
      reads = reads_then start now (g.F.Flash.state c.read_at.new.flash) (g.met.F.Flash.lawful c.read_at.new.flash) so_far.reads c.read_at.ensures.reads;
    }

pub returns-in-Some-held-clause-found : goal.returns-in-Some-held-clause-found
returns-in-Some-held-clause-found g c =
    let so_far = c.rows.invariant in
    let start = g.F.Flash.state c.args.flash.now in
    let now = g.F.Flash.state c.rows.flash in
    let seen = subst (λ (r : Option Row). IfSome now.bytes (λ image. IsRowAt c.args.bank image c.rows.at r)) c.in_default.is c.in_ok-row.ensures.row in
    end_found c.args.bank c.requires start now so_far.reads c.rows.at so_far.place seen c.in-Some-held.held
    (subst (λ (h : Option Durable). IfSome start.bytes (λ image. ReadUpTo c.args.bank image h c.rows.at)) c.in-Some-held.is so_far.read)

pub returns-in-None-clause-card : goal.returns-in-None-clause-card
returns-in-None-clause-card g c = λ is.
    let so_far = c.rows.invariant in
    let start = g.F.Flash.state c.args.flash.now in
    let now = g.F.Flash.state c.rows.flash in
    let seen = subst (λ (r : Option Row). IfSome now.bytes (λ image. IsRowAt c.args.bank image c.rows.at r)) c.in_default.is c.in_ok-row.ensures.row in
    end_none c.args.bank c.requires start now so_far.reads c.rows.at so_far.place seen
    (subst (λ (h : Option Durable). IfSome start.bytes (λ image. ReadUpTo c.args.bank image h c.rows.at)) c.in-None.is so_far.read)
