use Rattle.std.proofs.Common.{rules, Option, None, IfSome, List, ℕ, sym, subst}
use Rattle.card_journal.proofs.SwitchedLemmas.{came_back}
use Rattle.card_journal.proofs.StoreLemmas.{on_ok, on_ok_map, reopen_throughout, restart_opened}
use Rattle.card_journal.proofs.StoreLemmas.{restart_throughout}
use Rattle.card_journal.specs.Image.{HoldsCard, switch_row}
use Rattle.card_journal.specs.Stored.{EndsTorn, HoldsEither}
use Rattle.flash_pages.specs.Switch.{IsNextByte}
use Rattle.flash_pages.proofs.Touched.{GoesOn-trans}
use Rattle.record_codec.specs.declared.durable.Durable.{Durable}
use Rattle.card_journal.proofs.open.reopen_card.Goals as goal

pub returns-in-Ok-clause-kept : goal.returns-in-Ok-clause-kept
returns-in-Ok-clause-kept g c =
    on_ok_map c.open_card.result _ _ (λ opened kept. kept (c.in-Ok.ensures.restarts.settled (search rules))) c.open_card.ensures.kept

pub returns-in-Ok-clause-is : goal.returns-in-Ok-clause-is
returns-in-Ok-clause-is g c =
    on_ok_map c.open_card.result _ _ (λ opened holds. restart_opened (g.F.Flash.state c.args.flash.now) (g.F.Flash.state c.restart.new.self)
    (g.F.Flash.state c.open_card.new.flash) (g.met.F.Flash.lawful c.args.flash.now) (g.met.F.Flash.lawful c.restart.new.self)
    (g.met.F.Flash.lawful c.open_card.new.flash) c.restart.result c.restart.ensures.restarts opened.held holds) c.open_card.ensures.holds

pub returns-in-Ok-clause-throughout : goal.returns-in-Ok-clause-throughout
returns-in-Ok-clause-throughout g c = λ one other each.
    reopen_throughout (g.F.Flash.state c.args.flash.now) (g.F.Flash.state c.restart.new.self) (g.F.Flash.state c.open_card.new.flash)
    (g.met.F.Flash.lawful c.args.flash.now) (g.met.F.Flash.lawful c.restart.new.self) (g.met.F.Flash.lawful c.open_card.new.flash)
    c.restart.result c.restart.ensures.restarts (HoldsEither one other) each (λ mid. c.open_card.ensures.throughout one other mid)

pub returns-in-Ok-clause-card : goal.returns-in-Ok-clause-card
returns-in-Ok-clause-card g c = λ is.
    let none : Option (List ℕ) → Type 0 = λ o. IfSome o (λ image. (held : Durable) → HoldsCard image held → ⊥) in
    subst none (sym (c.open_card.ensures.unchanged is)) (c.open_card.ensures.card is)

pub returns-in-Ok-clause-worn : goal.returns-in-Ok-clause-worn
returns-in-Ok-clause-worn g c = λ is.
    let worn = c.open_card.ensures.worn is in
    let same = sym worn.reads.bytes in (
      subst (λ (o : Option (List ℕ)). IfSome o EndsTorn) same worn.needed,
      subst (λ (o : Option (List ℕ)). IfSome o (λ image. IsNextByte (switch_row image) None)) same worn.worn,
    )

pub returns-in-Ok-clause-time : goal.returns-in-Ok-clause-time
returns-in-Ok-clause-time g c =
    GoesOn-trans 2433 (g.F.Flash.state c.args.flash.now) (g.F.Flash.state c.restart.new.self) (g.F.Flash.state c.open_card.new.flash)
    (g.met.F.Flash.lawful c.open_card.new.flash) c.restart.ensures.restarts.time c.open_card.ensures.time

pub returns-in-Err-clause-throughout : goal.returns-in-Err-clause-throughout
returns-in-Err-clause-throughout g c = λ one other each.
    restart_throughout (g.F.Flash.state c.args.flash.now) (g.F.Flash.state c.restart.new.self) (g.F.Flash.state c.restart.new.self)
    (g.met.F.Flash.lawful c.args.flash.now) (g.met.F.Flash.lawful c.restart.new.self) (g.met.F.Flash.lawful c.restart.new.self)
    c.restart.result c.restart.ensures.restarts (HoldsEither one other) each

pub returns-in-Ok-clause-came : goal.returns-in-Ok-clause-came
returns-in-Ok-clause-came g c =
    on_ok c.open_card.result _ _ c.open_card.ensures.next
    (λ next. came_back (g.F.Flash.state c.args.flash.now) (g.F.Flash.state c.restart.new.self) c.restart.result c.restart.ensures.restarts next)
