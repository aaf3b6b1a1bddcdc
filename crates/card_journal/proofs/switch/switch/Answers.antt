use Rattle.std.proofs.Common.{◌≡◌, ℕ, [], ◌∷◌, Option, IfSome, subst, rules, sym}
use Rattle.std.specs.Prelude.{⊤}
use Rattle.card_journal.proofs.SwitchLemmas.{copy_row, copy_throughout, flip_row, flip_stored}
use Rattle.card_journal.proofs.SwitchLemmas.{flip_switched, flip_throughout, has_next, next_blank}
use Rattle.card_journal.proofs.SwitchLemmas.{read_throughout, row_same, writes_copy}
use Rattle.card_journal.specs.Image.{switch_row}
use Rattle.flash_pages.specs.Bytes.{IsErased}
use Rattle.flash_pages.specs.Flash.{Changes}
use Rattle.flash_pages.specs.Switch.{IsNextByte}
use Rattle.flash_pages.proofs.Touched.{GoesOn-trans}
use Rattle.card_journal.proofs.switch.switch.Goals as goal

pub returns-in_err-row-clause-throughout : goal.returns-in_err-row-clause-throughout
returns-in_err-row-clause-throughout g c = λ other each.
    read_throughout (g.F.Flash.state c.args.flash.now) (g.F.Flash.state c.read_switch.new.flash) c.args.held.now other (g.met.F.Flash.lawful c.args.flash.now)
    (g.met.F.Flash.lawful c.read_switch.new.flash) c.read_switch.ensures.reads each

pub returns-in_err-row-clause-row : goal.returns-in_err-row-clause-row
returns-in_err-row-clause-row g c =
    row_same (g.F.Flash.state c.args.flash.now) (g.F.Flash.state c.read_switch.new.flash) ⊤ c.read_switch.ensures.reads.bytes

pub returns-in_default-clause-throughout : goal.returns-in_default-clause-throughout
returns-in_default-clause-throughout g c = λ other each.
    read_throughout (g.F.Flash.state c.args.flash.now) (g.F.Flash.state c.read_switch.new.flash) c.args.held.now other (g.met.F.Flash.lawful c.args.flash.now)
    (g.met.F.Flash.lawful c.read_switch.new.flash) c.read_switch.ensures.reads each

pub returns-in_default-clause-row : goal.returns-in_default-clause-row
returns-in_default-clause-row g c =
    row_same (g.F.Flash.state c.args.flash.now) (g.F.Flash.state c.read_switch.new.flash) ⊤ c.read_switch.ensures.reads.bytes

pub returns-in_err-end-clause-throughout : goal.returns-in_err-end-clause-throughout
returns-in_err-end-clause-throughout g c =
    copy_throughout (g.F.Flash.state c.args.flash.now) (g.F.Flash.state c.read_switch.new.flash) (g.F.Flash.state c.write_copy.new.flash) c.in_ok-row.row.live c.in-Some.next
    (writes_copy (g.F.Flash.state c.args.flash.now) (g.F.Flash.state c.read_switch.new.flash) (g.F.Flash.state c.write_copy.new.flash) c.in_ok-row.row.live c.in-Some.next c.in_ok-row.row.next (g.met.F.Flash.lawful c.args.flash.now)
    (g.met.F.Flash.lawful c.read_switch.new.flash) (g.met.F.Flash.lawful c.write_copy.new.flash) c.in_ok-row.ensures.range.0 c.in_ok-row.ensures.range.1
    c.in-Some.is c.in_ok-row.ensures.live c.in_ok-row.ensures.next c.read_switch.ensures.reads c.write_copy.ensures.touches) c.args.held.now

pub returns-in_err-end-clause-row : goal.returns-in_err-end-clause-row
returns-in_err-end-clause-row g c =
    copy_row (g.F.Flash.state c.args.flash.now) (g.F.Flash.state c.read_switch.new.flash) (g.F.Flash.state c.write_copy.new.flash) c.in_ok-row.row.live c.in-Some.next
    (writes_copy (g.F.Flash.state c.args.flash.now) (g.F.Flash.state c.read_switch.new.flash) (g.F.Flash.state c.write_copy.new.flash) c.in_ok-row.row.live c.in-Some.next c.in_ok-row.row.next (g.met.F.Flash.lawful c.args.flash.now)
    (g.met.F.Flash.lawful c.read_switch.new.flash) (g.met.F.Flash.lawful c.write_copy.new.flash) c.in_ok-row.ensures.range.0 c.in_ok-row.ensures.range.1
    c.in-Some.is c.in_ok-row.ensures.live c.in_ok-row.ensures.next c.read_switch.ensures.reads c.write_copy.ensures.touches)

pub returns-in_err-end-clause-time : goal.returns-in_err-end-clause-time
returns-in_err-end-clause-time g c =
    GoesOn-trans 2433 (g.F.Flash.state c.args.flash.now) (g.F.Flash.state c.read_switch.new.flash) (g.F.Flash.state c.write_copy.new.flash)
    (g.met.F.Flash.lawful c.write_copy.new.flash) c.read_switch.ensures.reads.time c.write_copy.ensures.touches.time

pub program-requires-clause-erased : goal.program-requires-clause-erased
program-requires-clause-erased g c =
    let copied = g.F.Flash.state c.write_copy.new.flash in
    let same : c.from.result ≡ c.in-Some.next = search rules in
    subst (λ (k : ℕ). IfSome copied.bytes (IsErased k 1)) (sym same)
    (next_blank (g.F.Flash.state c.args.flash.now) (g.F.Flash.state c.read_switch.new.flash) (g.F.Flash.state c.write_copy.new.flash) c.in_ok-row.row.live c.in-Some.next
    (writes_copy (g.F.Flash.state c.args.flash.now) (g.F.Flash.state c.read_switch.new.flash) (g.F.Flash.state c.write_copy.new.flash) c.in_ok-row.row.live c.in-Some.next c.in_ok-row.row.next (g.met.F.Flash.lawful c.args.flash.now)
    (g.met.F.Flash.lawful c.read_switch.new.flash) (g.met.F.Flash.lawful c.write_copy.new.flash) c.in_ok-row.ensures.range.0 c.in_ok-row.ensures.range.1
    c.in-Some.is c.in_ok-row.ensures.live c.in_ok-row.ensures.next c.read_switch.ensures.reads c.write_copy.ensures.touches))

pub returns-in_err-program-clause-throughout : goal.returns-in_err-program-clause-throughout
returns-in_err-program-clause-throughout g c =
    let same : c.from.result ≡ c.in-Some.next = search rules in
    let changes = subst (λ (k : ℕ). Changes k (0 ∷ []) (g.F.Flash.state c.write_copy.new.flash) (g.F.Flash.state c.program.new.self) c.program.result) same c.program.ensures.changes in
    flip_throughout (g.F.Flash.state c.args.flash.now) (g.F.Flash.state c.read_switch.new.flash) (g.F.Flash.state c.write_copy.new.flash) c.in_ok-row.row.live c.in-Some.next
    (writes_copy (g.F.Flash.state c.args.flash.now) (g.F.Flash.state c.read_switch.new.flash) (g.F.Flash.state c.write_copy.new.flash) c.in_ok-row.row.live c.in-Some.next c.in_ok-row.row.next (g.met.F.Flash.lawful c.args.flash.now)
    (g.met.F.Flash.lawful c.read_switch.new.flash) (g.met.F.Flash.lawful c.write_copy.new.flash) c.in_ok-row.ensures.range.0 c.in_ok-row.ensures.range.1
    c.in-Some.is c.in_ok-row.ensures.live c.in_ok-row.ensures.next c.read_switch.ensures.reads c.write_copy.ensures.touches)
    c.args.held.now c.requires c.in_ok-end.end
    (g.F.Flash.state c.program.new.self) (g.met.F.Flash.lawful c.program.new.self) c.in_ok-end.ensures.copy c.program.result changes

pub returns-in_err-program-clause-row : goal.returns-in_err-program-clause-row
returns-in_err-program-clause-row g c =
    let same : c.from.result ≡ c.in-Some.next = search rules in
    let changes = subst (λ (k : ℕ). Changes k (0 ∷ []) (g.F.Flash.state c.write_copy.new.flash) (g.F.Flash.state c.program.new.self) c.program.result) same c.program.ensures.changes in
    flip_row (g.F.Flash.state c.args.flash.now) (g.F.Flash.state c.read_switch.new.flash) (g.F.Flash.state c.write_copy.new.flash) c.in_ok-row.row.live c.in-Some.next
    (writes_copy (g.F.Flash.state c.args.flash.now) (g.F.Flash.state c.read_switch.new.flash) (g.F.Flash.state c.write_copy.new.flash) c.in_ok-row.row.live c.in-Some.next c.in_ok-row.row.next (g.met.F.Flash.lawful c.args.flash.now)
    (g.met.F.Flash.lawful c.read_switch.new.flash) (g.met.F.Flash.lawful c.write_copy.new.flash) c.in_ok-row.ensures.range.0 c.in_ok-row.ensures.range.1
    c.in-Some.is c.in_ok-row.ensures.live c.in_ok-row.ensures.next c.read_switch.ensures.reads c.write_copy.ensures.touches)
    c.args.held.now c.requires c.in_ok-end.end
    (g.F.Flash.state c.program.new.self) (g.met.F.Flash.lawful c.program.new.self) c.in_ok-end.ensures.copy c.program.result changes

pub returns-in_err-program-clause-time : goal.returns-in_err-program-clause-time
returns-in_err-program-clause-time g c =
    GoesOn-trans 2433 (g.F.Flash.state c.args.flash.now) (g.F.Flash.state c.write_copy.new.flash) (g.F.Flash.state c.program.new.self)
    (g.met.F.Flash.lawful c.program.new.self)
    (GoesOn-trans 2433 (g.F.Flash.state c.args.flash.now) (g.F.Flash.state c.read_switch.new.flash) (g.F.Flash.state c.write_copy.new.flash)
    (g.met.F.Flash.lawful c.write_copy.new.flash) c.read_switch.ensures.reads.time c.write_copy.ensures.touches.time)
    c.program.ensures.changes.time

pub returns-clause-throughout : goal.returns-clause-throughout
returns-clause-throughout g c =
    let same : c.from.result ≡ c.in-Some.next = search rules in
    let changes = subst (λ (k : ℕ). Changes k (0 ∷ []) (g.F.Flash.state c.write_copy.new.flash) (g.F.Flash.state c.program.new.self) c.program.result) same c.program.ensures.changes in
    flip_throughout (g.F.Flash.state c.args.flash.now) (g.F.Flash.state c.read_switch.new.flash) (g.F.Flash.state c.write_copy.new.flash) c.in_ok-row.row.live c.in-Some.next
    (writes_copy (g.F.Flash.state c.args.flash.now) (g.F.Flash.state c.read_switch.new.flash) (g.F.Flash.state c.write_copy.new.flash) c.in_ok-row.row.live c.in-Some.next c.in_ok-row.row.next (g.met.F.Flash.lawful c.args.flash.now)
    (g.met.F.Flash.lawful c.read_switch.new.flash) (g.met.F.Flash.lawful c.write_copy.new.flash) c.in_ok-row.ensures.range.0 c.in_ok-row.ensures.range.1
    c.in-Some.is c.in_ok-row.ensures.live c.in_ok-row.ensures.next c.read_switch.ensures.reads c.write_copy.ensures.touches)
    c.args.held.now c.requires c.in_ok-end.end
    (g.F.Flash.state c.program.new.self) (g.met.F.Flash.lawful c.program.new.self) c.in_ok-end.ensures.copy c.program.result changes

pub returns-clause-row : goal.returns-clause-row
returns-clause-row g c =
    let same : c.from.result ≡ c.in-Some.next = search rules in
    let changes = subst (λ (k : ℕ). Changes k (0 ∷ []) (g.F.Flash.state c.write_copy.new.flash) (g.F.Flash.state c.program.new.self) c.program.result) same c.program.ensures.changes in
    flip_row (g.F.Flash.state c.args.flash.now) (g.F.Flash.state c.read_switch.new.flash) (g.F.Flash.state c.write_copy.new.flash) c.in_ok-row.row.live c.in-Some.next
    (writes_copy (g.F.Flash.state c.args.flash.now) (g.F.Flash.state c.read_switch.new.flash) (g.F.Flash.state c.write_copy.new.flash) c.in_ok-row.row.live c.in-Some.next c.in_ok-row.row.next (g.met.F.Flash.lawful c.args.flash.now)
    (g.met.F.Flash.lawful c.read_switch.new.flash) (g.met.F.Flash.lawful c.write_copy.new.flash) c.in_ok-row.ensures.range.0 c.in_ok-row.ensures.range.1
    c.in-Some.is c.in_ok-row.ensures.live c.in_ok-row.ensures.next c.read_switch.ensures.reads c.write_copy.ensures.touches)
    c.args.held.now c.requires c.in_ok-end.end
    (g.F.Flash.state c.program.new.self) (g.met.F.Flash.lawful c.program.new.self) c.in_ok-end.ensures.copy c.program.result changes

pub returns-clause-time : goal.returns-clause-time
returns-clause-time g c =
    GoesOn-trans 2433 (g.F.Flash.state c.args.flash.now) (g.F.Flash.state c.write_copy.new.flash) (g.F.Flash.state c.program.new.self)
    (g.met.F.Flash.lawful c.program.new.self)
    (GoesOn-trans 2433 (g.F.Flash.state c.args.flash.now) (g.F.Flash.state c.read_switch.new.flash) (g.F.Flash.state c.write_copy.new.flash)
    (g.met.F.Flash.lawful c.write_copy.new.flash) c.read_switch.ensures.reads.time c.write_copy.ensures.touches.time)
    c.program.ensures.changes.time

pub returns-clause-next : goal.returns-clause-next
returns-clause-next g c =
    let start = g.F.Flash.state c.args.flash.now in
    has_next start c.in-Some.next
    (subst (λ (o : Option ℕ). IfSome start.bytes (λ bytes. IsNextByte (switch_row bytes) o)) c.in-Some.is c.in_ok-row.ensures.next)

pub returns-clause-stored : goal.returns-clause-stored
returns-clause-stored g c =
    let same : c.from.result ≡ c.in-Some.next = search rules in
    let changes = subst (λ (k : ℕ). Changes k (0 ∷ []) (g.F.Flash.state c.write_copy.new.flash) (g.F.Flash.state c.program.new.self) c.program.result) same c.program.ensures.changes in
    flip_stored (g.F.Flash.state c.args.flash.now) (g.F.Flash.state c.read_switch.new.flash) (g.F.Flash.state c.write_copy.new.flash) c.in_ok-row.row.live c.in-Some.next
    (writes_copy (g.F.Flash.state c.args.flash.now) (g.F.Flash.state c.read_switch.new.flash) (g.F.Flash.state c.write_copy.new.flash) c.in_ok-row.row.live c.in-Some.next c.in_ok-row.row.next (g.met.F.Flash.lawful c.args.flash.now)
    (g.met.F.Flash.lawful c.read_switch.new.flash) (g.met.F.Flash.lawful c.write_copy.new.flash) c.in_ok-row.ensures.range.0 c.in_ok-row.ensures.range.1
    c.in-Some.is c.in_ok-row.ensures.live c.in_ok-row.ensures.next c.read_switch.ensures.reads c.write_copy.ensures.touches)
    c.args.held.now c.requires c.in_ok-end.end
    (g.F.Flash.state c.program.new.self) (g.met.F.Flash.lawful c.program.new.self) c.in_ok-end.ensures.copy c.program.result changes (search rules)

pub returns-clause-switched : goal.returns-clause-switched
returns-clause-switched g c =
    let same : c.from.result ≡ c.in-Some.next = search rules in
    let changes = subst (λ (k : ℕ). Changes k (0 ∷ []) (g.F.Flash.state c.write_copy.new.flash) (g.F.Flash.state c.program.new.self) c.program.result) same c.program.ensures.changes in
    flip_switched (g.F.Flash.state c.args.flash.now) (g.F.Flash.state c.read_switch.new.flash) (g.F.Flash.state c.write_copy.new.flash) c.in_ok-row.row.live c.in-Some.next
    (writes_copy (g.F.Flash.state c.args.flash.now) (g.F.Flash.state c.read_switch.new.flash) (g.F.Flash.state c.write_copy.new.flash) c.in_ok-row.row.live c.in-Some.next c.in_ok-row.row.next (g.met.F.Flash.lawful c.args.flash.now)
    (g.met.F.Flash.lawful c.read_switch.new.flash) (g.met.F.Flash.lawful c.write_copy.new.flash) c.in_ok-row.ensures.range.0 c.in_ok-row.ensures.range.1
    c.in-Some.is c.in_ok-row.ensures.live c.in_ok-row.ensures.next c.read_switch.ensures.reads c.write_copy.ensures.touches)
    c.args.held.now c.requires c.in_ok-end.end
    (g.F.Flash.state c.program.new.self) (g.met.F.Flash.lawful c.program.new.self) c.in_ok-end.ensures.copy c.program.result changes (search rules)
