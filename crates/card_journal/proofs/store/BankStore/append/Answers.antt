use Rattle.std.proofs.Common.{◌≡◌, ◌+◌, ◌-◌, ℕ, length, Some, None, IfSome, refl, sym, ap, subst}
use Rattle.std.proofs.Common.{arith}
use Rattle.card_journal.proofs.StoreLemmas.{clean_erased, kept_of, some_first_erased, stored_of}
use Rattle.card_journal.specs.Image.{bank_of}
use Rattle.card_journal.specs.Store.{store_of}
use Rattle.card_journal.specs.StoreState.{KeepsCard}
use Rattle.card_journal.specs.Stored.{EndsClean, HoldsWith}
use Rattle.flash_pages.specs.Bank.{end_of}
use Rattle.flash_pages.specs.Flash.{MayLeaveOnly}
use Rattle.record_codec.proofs.SizeLemmas.{sizes_of}
use Rattle.record_codec.specs.Apply.{apply}
use Rattle.record_codec.specs.IsDurable.{IsDurable}
use Rattle.record_codec.specs.Spelling.{spelling}
use Rattle.record_codec.specs.declared.durable.Durable.{Durable}
use Rattle.record_codec.specs.declared.record.Record.{Record}
use Rattle.card_journal.proofs.store.BankStore.append.Goals as goal

some_none : (entry : Record) → Some entry ≡ None → ⊥
some_none entry is = absurd (cc)

pub append_record-requires : goal.append_record-requires
append_record-requires g c =
    let store = c.args.self.now in
    let usable = c.requires.usable in
    let len : ℕ = length (spelling c.args.entry.now) in
    let flash = g.F.Flash.state store.flash in
    record {
      bank = usable.bank;
      place = usable.place;
      sizes = sizes_of store.held c.args.entry.now c.requires.takes.fits;
      fits = c.requires.fits;
      erased = some_first_erased flash store.end (5 + len) (end_of (bank_of store.live) - store.end) (omega (arith, c.requires.fits))
          (clean_erased flash store.held store.live store.end (g.met.F.Flash.lawful store.flash) usable.bank usable.place
          (usable.ends c.requires.repaired));
    }

pub returns-in-Ok : goal.returns-in-Ok
returns-in-Ok g c =
    let store = c.args.self.now in
    let entry = c.args.entry.now in
    let usable = c.requires.usable in
    let before = g.F.Flash.state store.flash in
    let after = g.F.Flash.state c.append_record.new.flash in
    let next : ℕ = store.end + 5 + length (spelling entry) in
    let appends = c.in-Ok.ensures.appends in
    let here : c.in-Ok.next ≡ next = c.in-Ok.ensures.next in
    let ends = usable.ends c.requires.repaired in
    let stored = λ (kept : KeepsCard (store_of g.F.Flash.state store)). c.in-Ok.ensures.stored store.held c.requires.takes.fits c.requires.takes.later
    (stored_of before store.held store.unrepaired store.live store.end c.requires.repaired ends kept) in
    let clean : IfSome after.bytes (EndsClean (apply store.held entry) store.live next)
    = c.in-Ok.ensures.ends store.held c.requires.takes.fits c.requires.takes.later ends in
    record {
      usable = record {
        valid = subst IsDurable (sym c.apply.ensures) c.requires.takes.fits.after;
        bank = usable.bank;
        place = record { from_start = omega (arith, usable.place.from_start, here); to_end = omega (arith, here, c.requires.fits) };
        ends = λ none. subst (λ (k : ℕ). IfSome after.bytes (EndsClean c.apply.new.self store.live k)) (sym here)
            (subst (λ (d : Durable). IfSome after.bytes (EndsClean d store.live next)) (sym c.apply.ensures) clean);
      };
      done = (c.apply.ensures, c.requires.repaired);
      refused = tt;
      live = refl;
      end = here;
      row = record { done = appends.done; settled = appends.settled; erased = appends.erased; touches = appends.touches };
      throughout = λ kept. (stored kept).throughout;
      kept = λ kept. kept_of after _ c.apply.new.self store.unrepaired c.requires.repaired c.apply.ensures (stored kept).done.may_leave;
      cause = tt;
    }

pub returns-in-Err : goal.returns-in-Err
returns-in-Err g c =
    let store = c.args.self.now in
    let entry = c.args.entry.now in
    let usable = c.requires.usable in
    let before = g.F.Flash.state store.flash in
    let after = g.F.Flash.state c.append_record.new.flash in
    let appends = c.in-Err.ensures.appends in
    let stored = λ (kept : KeepsCard (store_of g.F.Flash.state store)). c.in-Err.ensures.stored store.held c.requires.takes.fits c.requires.takes.later
    (stored_of before store.held store.unrepaired store.live store.end c.requires.repaired (usable.ends c.requires.repaired) kept) in
    record {
      usable = record { valid = usable.valid; bank = usable.bank; place = usable.place; ends = λ none. absurd (some_none c.args.copy none) };
      done = tt;
      refused = (refl, ap (λ (e : Record). Some e) c.requires.copied);
      live = refl;
      end = tt;
      row = record { done = tt; settled = tt; erased = appends.erased; touches = appends.touches };
      throughout = λ kept. (stored kept).throughout;
      kept = λ kept. subst (λ (e : Record). MayLeaveOnly after (HoldsWith store.held (Some e))) (sym c.requires.copied) (stored kept).throughout.may_leave;
      cause = c.in-Err.ensures.cause;
    }
