use Rattle.std.proofs.Common.{◌≡◌, Option, Some, sym, ◌∙◌, ap, subst}
use Rattle.card_journal.specs.Stored.{EndsClean, HoldsWith}
use Rattle.flash_pages.specs.Flash.{MayLeaveOnly}
use Rattle.record_codec.specs.declared.record.Record.{Record}
use Rattle.std.specs.Prelude.{unwrap_or}
use Rattle.card_journal.proofs.StoreLemmas.{either_throughout, failed_kept, reads_ends, reads_kept}
use Rattle.card_journal.proofs.store.BankStore.repair.Goals as goal

pub switch-requires : goal.switch-requires
switch-requires g c = c.requires.valid

pub returns-in-Ok-clause-usable : goal.returns-in-Ok-clause-usable
returns-in-Ok-clause-usable g c = record {
  valid = c.requires.valid;
  bank = c.in-Ok.ensures.bank;
  place = c.in-Ok.ensures.place;
  ends = λ none. c.in-Ok.ensures.stored.bytes;
}

pub returns-in-Ok-clause-throughout : goal.returns-in-Ok-clause-throughout
returns-in-Ok-clause-throughout g c = λ kept.
    let store = c.args.self.now in
    either_throughout (g.F.Flash.state store.flash) (g.F.Flash.state c.switch.new.flash) store.held store.unrepaired kept c.switch.ensures.throughout

pub returns-in-Err-Worn-clause-throughout : goal.returns-in-Err-Worn-clause-throughout
returns-in-Err-Worn-clause-throughout g c = λ kept.
    let store = c.args.self.now in
    either_throughout (g.F.Flash.state store.flash) (g.F.Flash.state c.switch.new.flash) store.held store.unrepaired kept c.switch.ensures.throughout

pub returns-in-Err-Worn-clause-kept : goal.returns-in-Err-Worn-clause-kept
returns-in-Err-Worn-clause-kept g c = λ kept.
    let store = c.args.self.now in
    reads_kept (g.F.Flash.state store.flash) (g.F.Flash.state c.switch.new.flash) (HoldsWith store.held store.unrepaired)
    (c.switch.ensures.worn_reads (cc)) kept

pub returns-in-Err-Worn-clause-usable : goal.returns-in-Err-Worn-clause-usable
returns-in-Err-Worn-clause-usable g c =
    let store = c.args.self.now in
    record {
      valid = c.requires.valid;
      bank = c.requires.bank;
      place = c.requires.place;
      ends = λ none. reads_ends (g.F.Flash.state store.flash) (g.F.Flash.state c.switch.new.flash) (EndsClean store.held store.live store.end)
          (c.switch.ensures.worn_reads (cc)) (c.requires.ends none);
    }

pub returns-in-Err-Flash-clause-throughout : goal.returns-in-Err-Flash-clause-throughout
returns-in-Err-Flash-clause-throughout g c = λ kept.
    let store = c.args.self.now in
    either_throughout (g.F.Flash.state store.flash) (g.F.Flash.state c.switch.new.flash) store.held store.unrepaired kept c.switch.ensures.throughout

pub returns-in-Err-Flash-clause-kept : goal.returns-in-Err-Flash-clause-kept
returns-in-Err-Flash-clause-kept g c = λ kept.
    let store = c.args.self.now in
    let before = g.F.Flash.state store.flash in
    let after = g.F.Flash.state c.switch.new.flash in
    let through = either_throughout before after store.held store.unrepaired kept c.switch.ensures.throughout in
    let same : c.unwrap_or-failed.result ≡ unwrap_or store.unrepaired c.args.copy =
    c.unwrap_or-failed.ensures ∙ ap (λ (o : Option Record). unwrap_or o c.args.copy) c.take.ensures.value in
    subst (λ (e : Record). MayLeaveOnly after (HoldsWith store.held (Some e))) (sym same)
    (failed_kept before after store.held store.unrepaired c.args.copy through)
