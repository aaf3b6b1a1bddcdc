use Rattle.profile_card.proofs.TableLemmas.{the_same_classes}
use Rattle.profile_card.proofs.laws.the_table_of_instructions_has_their_classes.Goals as goal

pub returns : goal.returns
returns c = the_same_classes
