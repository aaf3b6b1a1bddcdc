use Rattle.std.proofs.Common.{Option, ◌∙◌, ap, subst}
use Rattle.record_codec.specs.Apply.{apply}
use Rattle.record_codec.specs.Begin.{HasBegun, IsBegun}
use Rattle.record_codec.specs.declared.durable.Durable.{Durable}
use Rattle.record_codec.specs.declared.record.Record.{Record}
use Rattle.card_journal.proofs.make.begin_card.Goals as goal

pub returns-clause-held : goal.returns-clause-held
returns-clause-held c =
    let begun : IsBegun c.args.entry.now c.in-Some.held =
    subst (λ (o : Option Durable). HasBegun c.args.entry.now o) c.in-Some.is c.in_ok-held.ensures in
    begun.after c.in-Some.held ∙ ap (λ (e : Record). apply c.in-Some.held e) c.requires.first
