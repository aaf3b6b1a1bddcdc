use Rattle.card_core.proofs.ToldLemmas.{told_in_order}
use Rattle.card_core.proofs.merge_laws.statements_are_told_in_order.Goals as goal

pub returns : goal.returns
returns c state port event failed made sound comes on happens =
    told_in_order state sound port event failed made comes on happens
