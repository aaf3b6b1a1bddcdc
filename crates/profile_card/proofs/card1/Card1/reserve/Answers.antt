use Rattle.std.proofs.Common.{◌≡◌, List, refl, sym, subst}
use Rattle.file_rows.specs.Content.{IsValid}
use Rattle.file_rows.specs.declared.row.FileRow.{FileRow}
use Rattle.uicc_channels.specs.Session.{Suits}
use Rattle.uicc_tree.specs.Files.{rows_of}
use Rattle.profile_card.proofs.card1.Card1.reserve.Goals as goal

-- the files are as they were
pub invariant_of-self : goal.invariant_of-self
invariant_of-self c =
    let same : rows_of c.reserve.new.self ≡ rows_of c.self.inside.tree = rw (c.reserve.ensures.nodes, c.reserve.ensures.cells) refl in
    subst (λ (rows : List FileRow). IsValid (record { rows = rows; pins = c.self.inside.pins.items }) × Suits c.self.inside.session rows) (sym same) c.self.invariant
