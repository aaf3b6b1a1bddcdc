use Rattle.std.proofs.Common.{◌≡◌, Err, ap}
use Rattle.std.proofs.lemmas.Result.{err_from_is_err_and}
use Rattle.card_journal.specs.declared.fault.ReadFault.{ReadFault}
use Rattle.card_journal.specs.declared.fault.ReadFault.TheVariants.{NotACard}
use Rattle.card_journal.proofs.OpenLemmas.{found_clean, found_holds, none_found}
use Rattle.card_journal.proofs.CleanLemmas.{found_torn}
use Rattle.card_journal.proofs.open.read_card.Goals as goal

pub returns-clause-clean : goal.returns-clause-clean
returns-clause-clean g c =
    let start = g.F.Flash.state c.args.flash.now in
    let read = g.F.Flash.state c.read_switch.new.flash in
    let mid = g.F.Flash.state c.load_bank.new.flash in
    found_clean start read c.bank_of-bank.result c.in_ok-live.field-0.live c.read_switch.ensures.reads c.bank_of-bank.ensures c.in_ok-live.ensures.live
    mid (g.met.F.Flash.lawful c.args.flash.now) c.load_bank.ensures.reads c.in_ok-found.found.held c.in_ok-found.found.end c.in_ok-is_clean.is_clean
    c.in_ok-live.ensures.range.0 c.in_ok-found.ensures.place c.in_ok-found.ensures.found c.in_ok-is_clean.ensures.erased

pub returns-clause-holds : goal.returns-clause-holds
returns-clause-holds g c =
    let start = g.F.Flash.state c.args.flash.now in
    let read = g.F.Flash.state c.read_switch.new.flash in
    found_holds start read c.bank_of-bank.result c.in_ok-live.field-0.live c.read_switch.ensures.reads c.bank_of-bank.ensures c.in_ok-live.ensures.live
    c.in_ok-found.found.held c.in_ok-found.found.end c.in_ok-found.ensures.found

pub returns-in_err-found-clause-card : goal.returns-in_err-found-clause-card
returns-in_err-found-clause-card g c = λ is.
    let start = g.F.Flash.state c.args.flash.now in
    let read = g.F.Flash.state c.read_switch.new.flash in
    let p = err_from_is_err_and c.from_residual-in_err-found.result c.from_residual-in_err-found.ensures.1 in
    let fault : c.in_err-found.field-0.0 ≡ NotACard = cc (p.1, p.2, is) in
    none_found start read c.bank_of-bank.result c.in_ok-live.field-0.live c.read_switch.ensures.reads c.bank_of-bank.ensures c.in_ok-live.ensures.live
    (c.in_err-found.ensures.card (ap (λ (f : ReadFault). Err f) fault))

pub returns-clause-torn : goal.returns-clause-torn
returns-clause-torn g c =
    let start = g.F.Flash.state c.args.flash.now in
    let read = g.F.Flash.state c.read_switch.new.flash in
    let mid = g.F.Flash.state c.load_bank.new.flash in
    found_torn start read mid c.bank_of-bank.result c.in_ok-live.field-0.live c.read_switch.ensures.reads c.bank_of-bank.ensures c.in_ok-live.ensures.live
    (g.met.F.Flash.lawful c.args.flash.now) c.load_bank.ensures.reads c.in_ok-found.found.held c.in_ok-found.found.end c.in_ok-is_clean.is_clean
    c.in_ok-live.ensures.range.0 c.in_ok-found.ensures.place c.in_ok-found.ensures.found c.in_ok-is_clean.ensures.erased
