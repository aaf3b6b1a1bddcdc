use Rattle.std.proofs.Common.{sym, subst}
use Rattle.record_codec.specs.FitsCard.{FitsCard}
use Rattle.record_codec.specs.IsDurable.{IsDurable}
use Rattle.record_codec.specs.declared.durable.Durable.{Durable}
use Rattle.record_codec.proofs.FitLemmas.{fits_where}
use Rattle.card_journal.specs.Held.{held_in}
use Rattle.card_journal.proofs.held.HeldCard.apply.Goals as goal

pub apply_to_contents-requires : goal.apply_to_contents-requires
apply_to_contents-requires c = record {
  are = subst IsDurable (sym c.self.view_is) c.requires.are;
  fits = subst (λ (d : Durable). FitsCard d c.args.entry.now) (sym c.self.view_is) c.requires.fits;
  room = c.requires.room;
  place = c.self.invariant;
}

pub apply-requires : goal.apply-requires
apply-requires c =
    let entry = c.args.entry.now in
    let are = subst IsDurable (sym c.self.view_is) c.requires.are in
    let fits = subst (λ (d : Durable). FitsCard d entry) (sym c.self.view_is) c.requires.fits in
    let held = held_in c.self.inside.heads c.self.inside.contents.items in
    record { are = are.heads; takes = ((fits_where held entry are).0 fits).heads }
