use Rattle.std.proofs.Common.{sym, subst}
use Rattle.record_codec.specs.Begin.{IsBegun}
use Rattle.record_codec.specs.declared.record.Record.{Record}
use Rattle.record_codec.proofs.FitLemmas.{begun}
use Rattle.record_codec.proofs.durable.Durable.begin.Goals as goal

pub returns-in_ok-held-in-PutCard : goal.returns-in_ok-held-in-PutCard
returns-in_ok-held-in-PutCard c =
    let it = c.in-PutCard in
    let held = c.in_ok-held-in-PutCard.held in
    let card = rw c.as_slice.ensures at (c.is_card.ensures.0 c.if-not-is_card.false) in
    let is = rw c.as_slice-notes.ensures at c.in_ok-held-in-PutCard.ensures in
    subst (λ (entry : Record). IsBegun entry held) (sym it.is)
    (begun it.mode it.ports it.eid it.next_number it.next_note it.notes held is card)
