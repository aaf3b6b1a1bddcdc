use Rattle.std.proofs.Common.{◌≡◌, ℕ, ◌+◌, List, [], ◌∷◌, ◌++◌, length, refl, sym, ap, ◌∙◌}
use Rattle.std.proofs.Common.{arith, length-append}
use Rattle.card_book.specs.History.{HasEntryRoom}
use Rattle.card_book.specs.Marks.{HasEachPass}
use Rattle.card_book.specs.Pass.{PassState}
use Rattle.card_book.specs.declared.entry.HistoryEntry.{HistoryEntry}
use Rattle.card_book.proofs.tests.section.Goals as goal

room_next : (history new : List HistoryEntry) (entry : HistoryEntry) (more : ℕ)
    → HasEntryRoom (more + 1) history → new ≡ history ++ entry ∷ [] → HasEntryRoom more new
room_next history new entry more room is =
    omega (arith, ap length is, length-append history (entry ∷ []), room)

only_pass : (count : ℕ) (pass : PassState) → count ≡ 1 → pass.port ≡ 0
    → HasEachPass count (pass ∷ [])
only_pass count pass one first port below =
    (0, pass, omega arith, refl, first ∙ omega (arith, one, below))

pub share-requires-clause-room : goal.share-requires-clause-room
share-requires-clause-room g c =
    c.commit_through-first.ensures.room 1 (omega (arith, ap length c.in-Ok.ensures.book.1))

pub share-requires-clause-lanes : goal.share-requires-clause-lanes
share-requires-clause-lanes g c =
    let book = c.commit_through-first.new.keeper in
    only_pass (g.St.CardStore.state book.store).held.heads.ports.count
    c.commit_through-first.new.pass
    (sym (ap (λ heads. heads.ports.count) c.heads.ensures) ∙ c.if-heads-ne1.false)
    (sym c.port.ensures ∙ c.if-port-ne0.false)

pub end_phase-requires-clause-room : goal.end_phase-requires-clause-room
end_phase-requires-clause-room g c =
    room_next _ _ _ 1
    (c.commit_through-first.ensures.room 2 (omega (arith, ap length c.in-Ok.ensures.book.1)))
    c.share.ensures.history

pub commit_through-second-requires : goal.commit_through-second-requires
commit_through-second-requires g c =
    room_next _ _ _ 1 (room_next _ _ _ 2
    (c.commit_through-first.ensures.room 3 (omega (arith, ap length c.in-Ok.ensures.book.1)))
    c.share.ensures.history) c.end_phase.ensures.history

pub commit_through-unfit-requires : goal.commit_through-unfit-requires
commit_through-unfit-requires g c =
    c.commit_through-second.ensures.room 1 (room_next _ _ _ 2 (room_next _ _ _ 3
    (c.commit_through-first.ensures.room 4 (omega (arith, ap length c.in-Ok.ensures.book.1)))
    c.share.ensures.history) c.end_phase.ensures.history)
