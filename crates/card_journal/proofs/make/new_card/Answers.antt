use Rattle.std.proofs.Common.{◌∙◌, sym, subst}
use Rattle.record_codec.specs.Begin.{IsBegun}
use Rattle.record_codec.specs.declared.durable.Durable.{Durable}
use Rattle.card_journal.proofs.make.new_card.Goals as goal

pub from_durable-requires : goal.from_durable-requires
from_durable-requires c = c.in_ok-begun.ensures.begun.valid

pub returns-clause-held : goal.returns-clause-held
returns-clause-held c = c.in_ok-held.ensures ∙ c.in_ok-begun.ensures.held

pub returns-clause-begun : goal.returns-clause-begun
returns-clause-begun c =
    subst (λ (d : Durable). IsBegun c.args.entry.now d) (sym c.in_ok-held.ensures)
    c.in_ok-begun.ensures.begun
