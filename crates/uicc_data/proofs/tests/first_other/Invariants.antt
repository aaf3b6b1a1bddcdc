use Rattle.uicc_tree.specs.Files.{rows_of}
use Rattle.uicc_channels.specs.CarriesOut.{IsOfCard}
use Rattle.uicc_data.proofs.tests.first_other.Given as goal

-- a card holds the files, and the session suits them
abbrev pub invariant-loop-index : goal.invariant-loop-index
invariant-loop-index l = IsOfCard (rows_of l.tree) l.session
