use Rattle.std.specs.Prelude.{false, None}
use Rattle.uicc_channels.proofs.SessionLemmas.{Suits-fresh_session}
use Rattle.uicc_tree.specs.Files.{rows_of}
use Rattle.uicc_data.proofs.tests.first_other_of.Goals as goal

pub first_other-requires : goal.first_other-requires
first_other-requires c = (
  c.in_ok-tree.ensures.0,
  c.in_ok-tree.ensures.1,
  rw c.fresh-session.ensures
      (Suits-fresh_session (record { rows = rows_of c.in_ok-tree.tree; pins = c.in_ok-tree.ensures.0 }) false None c.in_ok-tree.ensures.1),
)
