use Rattle.std.proofs.Common.{◌≡◌, ◌+◌, ℕ, length, sym, ◌∙◌, subst, arith}
use Rattle.card_journal.proofs.StoreLemmas.{commits_failed, commits_row}
use Rattle.card_journal.specs.Store.{store_of}
use Rattle.card_journal.specs.StoreState.{MayCommit, NeedsSwitch}
use Rattle.card_journal.specs.Switched.{FromTo, IsSwitched, bodies_with, copy_bodies}
use Rattle.card_journal.proofs.SwitchedLemmas.{row_behind, switched_behind}
use Rattle.record_codec.specs.Spelling.{spelling}
use Rattle.record_codec.specs.declared.durable.Durable.{Durable}
use Rattle.flash_pages.proofs.Touched.{GoesOn-trans}
use Rattle.card_journal.proofs.store.BankStore.commit_reserved.Goals as goal

pub append-requires : goal.append-requires
append-requires g c =
    let same = sym c.make_room.ensures.held in
    record {
      usable = c.make_room.ensures.usable;
      repaired = c.in_ok-kept.ensures.repaired;
      takes = subst (λ (d : Durable). MayCommit d c.args.entry.now) same c.requires.takes;
      room = c.requires.room;
      copied = c.in_ok-kept.ensures.copied ∙ c.requires.copied;
      fits = c.in_ok-kept.ensures.room;
    }

pub returns-in_err-kept-clause-atomic : goal.returns-in_err-kept-clause-atomic
returns-in_err-kept-clause-atomic g c = λ kept.
    commits_failed (store_of g.F.Flash.state c.args.self.now) (store_of g.F.Flash.state c.make_room.new.self) c.args.entry.now
    (c.make_room.ensures.throughout kept) (c.make_room.ensures.kept kept)

pub returns-in-Ok-clause-atomic : goal.returns-in-Ok-clause-atomic
returns-in-Ok-clause-atomic g c = λ kept.
    let mid = c.make_room.ensures.kept kept in
    commits_row (store_of g.F.Flash.state c.args.self.now) (store_of g.F.Flash.state c.make_room.new.self) (store_of g.F.Flash.state c.append.new.self)
    c.args.entry.now c.make_room.ensures.held (c.make_room.ensures.throughout kept) (c.append.ensures.throughout mid) (c.append.ensures.kept mid)

pub returns-in-Err-clause-atomic : goal.returns-in-Err-clause-atomic
returns-in-Err-clause-atomic g c = λ kept.
    let mid = c.make_room.ensures.kept kept in
    commits_row (store_of g.F.Flash.state c.args.self.now) (store_of g.F.Flash.state c.make_room.new.self) (store_of g.F.Flash.state c.append.new.self)
    c.args.entry.now c.make_room.ensures.held (c.make_room.ensures.throughout kept) (c.append.ensures.throughout mid) (c.append.ensures.kept mid)

pub returns-in-Ok-clause-time : goal.returns-in-Ok-clause-time
returns-in-Ok-clause-time g c =
    GoesOn-trans 2433 (g.F.Flash.state c.args.self.now.flash) (g.F.Flash.state c.make_room.new.self.flash) (g.F.Flash.state c.append.new.self.flash)
    (g.met.F.Flash.lawful c.append.new.self.flash) c.make_room.ensures.time c.append.ensures.row.touches.time

pub returns-in-Err-clause-time : goal.returns-in-Err-clause-time
returns-in-Err-clause-time g c =
    GoesOn-trans 2433 (g.F.Flash.state c.args.self.now.flash) (g.F.Flash.state c.make_room.new.self.flash) (g.F.Flash.state c.append.new.self.flash)
    (g.met.F.Flash.lawful c.append.new.self.flash) c.make_room.ensures.time c.append.ensures.row.touches.time

pub returns-in-Ok-clause-switch_row : goal.returns-in-Ok-clause-switch_row
returns-in-Ok-clause-switch_row g c =
    let store = c.args.self.now in
    let mid = c.make_room.new.self in
    row_behind (g.F.Flash.state store.flash) (g.F.Flash.state mid.flash) (g.F.Flash.state c.append.new.self.flash) mid.end (spelling c.args.entry.now)
    c.append.result (omega (arith, c.make_room.ensures.usable.place.from_start)) c.make_room.ensures.time c.append.ensures.row
    (NeedsSwitch (store_of g.F.Flash.state store) c.args.entry.now) c.make_room.ensures.row

pub returns-in-Err-clause-switch_row : goal.returns-in-Err-clause-switch_row
returns-in-Err-clause-switch_row g c =
    let store = c.args.self.now in
    let mid = c.make_room.new.self in
    row_behind (g.F.Flash.state store.flash) (g.F.Flash.state mid.flash) (g.F.Flash.state c.append.new.self.flash) mid.end (spelling c.args.entry.now)
    c.append.result (omega (arith, c.make_room.ensures.usable.place.from_start)) c.make_room.ensures.time c.append.ensures.row
    (NeedsSwitch (store_of g.F.Flash.state store) c.args.entry.now) c.make_room.ensures.row

pub returns-in-Ok-clause-switched : goal.returns-in-Ok-clause-switched
returns-in-Ok-clause-switched g c = λ needed.
    let store = c.args.self.now in
    let mid = c.make_room.new.self in
    let first = g.F.Flash.state store.flash in
    let last = g.F.Flash.state c.append.new.self.flash in
    let entry = c.args.entry.now in
    let next : ℕ = mid.end + 5 + length (spelling entry) in
    let bodies = bodies_with store.held entry in
    let switched : FromTo first last (IsSwitched bodies mid.live next) =
    switched_behind first (g.F.Flash.state mid.flash) last mid.end (spelling entry) c.append.result
    (omega (arith, c.make_room.ensures.usable.place.from_start)) c.make_room.ensures.time c.append.ensures.row (copy_bodies store.held) mid.live
    (g.met.F.Flash.lawful mid.flash) c.make_room.ensures.usable.bank c.make_room.ensures.usable.place.from_start c.in_ok-kept.ensures.room
    c.in-Ok.ensures.row.done (c.in_ok-kept.ensures.switched needed) in
    let end_is : c.append.new.self.end ≡ next = c.in-Ok.ensures.end in
    subst (λ (l : ℕ). FromTo first last (IsSwitched bodies l c.append.new.self.end)) (sym c.append.ensures.live)
    (subst (λ (k : ℕ). FromTo first last (IsSwitched bodies mid.live k)) (sym end_is) switched)

pub returns-in-Ok-clause-next : goal.returns-in-Ok-clause-next
returns-in-Ok-clause-next g c = c.in_ok-kept.ensures.next
