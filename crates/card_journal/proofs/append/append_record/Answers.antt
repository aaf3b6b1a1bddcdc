use Rattle.std.proofs.Common.{ℕ, List, subst}
use Rattle.card_journal.proofs.AppendLemmas.{AddsRow, adds_ends, adds_record}
use Rattle.flash_pages.specs.Append.{AppendsRow, LeavesTornRow}
use Rattle.card_journal.proofs.append.append_record.Goals as goal

pub returns-clause-ends : goal.returns-clause-ends
returns-clause-ends g c = λ held takes old ends.
    let start = g.F.Flash.state c.args.flash.now in
    let after = g.F.Flash.state c.append_row.new.flash in
    let adds : AddsRow start after c.args.live c.args.end c.args.entry.now c.append_row.result =
    record {
      was = g.met.F.Flash.lawful c.args.flash.now;
      lawful = g.met.F.Flash.lawful c.append_row.new.flash;
      bank = c.requires.bank;
      from_start = c.requires.place.from_start;
      fits = c.requires.fits;
      codes = c.new-body.ensures.codes;
      appends = subst (λ (l : List ℕ). AppendsRow c.args.end l start after c.append_row.result) c.new-body.ensures.coding c.append_row.ensures.appends;
      torn = subst (λ (l : List ℕ). LeavesTornRow c.args.end l start after) c.new-body.ensures.coding c.append_row.ensures.torn;
    } in
    adds_ends start after c.args.live c.args.end c.args.entry.now c.append_row.result adds held takes old ends

pub returns-clause-stored : goal.returns-clause-stored
returns-clause-stored g c = λ held takes old stored.
    let start = g.F.Flash.state c.args.flash.now in
    let after = g.F.Flash.state c.append_row.new.flash in
    let adds : AddsRow start after c.args.live c.args.end c.args.entry.now c.append_row.result =
    record {
      was = g.met.F.Flash.lawful c.args.flash.now;
      lawful = g.met.F.Flash.lawful c.append_row.new.flash;
      bank = c.requires.bank;
      from_start = c.requires.place.from_start;
      fits = c.requires.fits;
      codes = c.new-body.ensures.codes;
      appends = subst (λ (l : List ℕ). AppendsRow c.args.end l start after c.append_row.result) c.new-body.ensures.coding c.append_row.ensures.appends;
      torn = subst (λ (l : List ℕ). LeavesTornRow c.args.end l start after) c.new-body.ensures.coding c.append_row.ensures.torn;
    } in
    adds_record start after c.args.live c.args.end c.args.entry.now c.append_row.result adds held takes old stored.bytes stored.may_leave
