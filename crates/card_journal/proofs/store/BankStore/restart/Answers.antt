use Rattle.std.proofs.Common.{◌≡◌, ℕ, refl, sym, ◌∙◌}
use Rattle.card_journal.specs.NotOpened.{fault_of}
use Rattle.card_journal.specs.declared.fault.ReadFault.TheVariants as reads
use Rattle.card_journal.specs.declared.open.NotOpened.{NotOpened}
use Rattle.card_journal.specs.declared.open.NotOpened.TheVariants.{Read, Worn}
use Rattle.card_journal.specs.declared.open_fault.OpenFault.TheVariants.{NotACard}
use Rattle.card_journal.proofs.StoreLemmas.{either_throughout, never_none, reopened}
use Rattle.card_journal.proofs.store.BankStore.restart.Goals as goal

-- only one reason is reported so
not_a_card : (before after : ℕ) (refused : NotOpened) → fault_of before after refused ≡ NotACard → refused ≡ Read reads.NotACard
not_a_card before after (Read reads.Flash) is = absurd (cc)
not_a_card before after (Read reads.NotACard) is = refl
not_a_card before after (Read reads.NoMemory) is = absurd (cc)
not_a_card before after Worn is = absurd (cc)

pub returns-in-Ok-clause-reopens : goal.returns-in-Ok-clause-reopens
returns-in-Ok-clause-reopens g c = λ kept.
    let store = c.args.self.now in
    reopened (g.F.Flash.state store.flash) store.held store.unrepaired c.in-Ok.opened.held kept c.in-Ok.ensures.is

pub returns-in-Ok-clause-throughout : goal.returns-in-Ok-clause-throughout
returns-in-Ok-clause-throughout g c = λ kept.
    let store = c.args.self.now in
    either_throughout (g.F.Flash.state store.flash) (g.F.Flash.state c.reopen_card.new.flash) store.held store.unrepaired kept
    (λ other. c.reopen_card.ensures.throughout store.held other)

pub returns-in-Err-clause-throughout : goal.returns-in-Err-clause-throughout
returns-in-Err-clause-throughout g c = λ kept.
    let store = c.args.self.now in
    either_throughout (g.F.Flash.state store.flash) (g.F.Flash.state c.reopen_card.new.flash) store.held store.unrepaired kept
    (λ other. c.reopen_card.ensures.throughout store.held other)

pub returns-in-Err-clause-kept : goal.returns-in-Err-clause-kept
returns-in-Err-clause-kept g c = λ kept.
    let store = c.args.self.now in
    (either_throughout (g.F.Flash.state store.flash) (g.F.Flash.state c.reopen_card.new.flash) store.held store.unrepaired kept
    (λ other. c.reopen_card.ensures.throughout store.held other)).may_leave

pub returns-in-Err-clause-never : goal.returns-in-Err-clause-never
returns-in-Err-clause-never g c = λ is kept some.
    let store = c.args.self.now in
    let same : c.into_fault.result ≡ NotACard = cc in
    let refused : c.in-Err.refused ≡ Read reads.NotACard =
    not_a_card c.faults-before.result c.faults.result c.in-Err.refused (sym c.into_fault.ensures ∙ same) in
    let through = either_throughout (g.F.Flash.state store.flash) (g.F.Flash.state c.reopen_card.new.flash) store.held store.unrepaired kept
    (λ other. c.reopen_card.ensures.throughout store.held other) in
    never_none (g.F.Flash.state c.reopen_card.new.flash) store.held store.unrepaired (g.met.F.Flash.lawful c.reopen_card.new.flash) through.may_leave
    (c.in-Err.ensures.card (cc)) (c.reopen_card.ensures.time.bytes_known.0 some)
