-- A card of the tests carries out what a command comes to.
use Rattle.std.proofs.Common.{◌≡◌, List, sym, ◌∙◌, ap, subst, Option, Some, IfSome}
use Rattle.file_rows.specs.Change.{Fits, changed}
use Rattle.file_rows.specs.Content.{IsValid}
use Rattle.file_rows.specs.declared.change.Change.{Change}
use Rattle.file_rows.specs.declared.content.Content.{Content}
use Rattle.file_rows.specs.declared.pin.PinRow.{PinRow}
use Rattle.file_rows.specs.declared.row.FileRow.{FileRow}
use Rattle.uicc_channels.specs.CommandOutcome.{outcome_of}
use Rattle.uicc_channels.specs.Session.{Suits}
use Rattle.uicc_channels.specs.SessionChange.{session_after}
use Rattle.uicc_channels.specs.declared.decided.Decided.{Decided}
use Rattle.uicc_channels.specs.declared.session.Session.{Session}
use Rattle.uicc_tree.proofs.ApplyLemmas.{rows_alike}
use Rattle.uicc_tree.proofs.TestLemmas.{rows_kept}
use Rattle.uicc_tree.specs.Change.{FitsFiles, rows_after}
use Rattle.uicc_tree.specs.Files.{Files, rows_of}
use Rattle.uicc_channels.specs.CarriesOut.{CanCarryOut, IsOfCard, content_after}

module _ (old new : Files) (nodes : new.nodes ≡ old.nodes) (cells : new.cells ≡ old.cells) (pins : List PinRow) (session : Session) (decided : Decided) (change : Change)
    (can : CanCarryOut (record { rows = rows_of old; pins = pins }) (outcome_of session decided)) (is : decided.change ≡ Some change) where
  abbrev card : Content
  card = record { rows = rows_of old; pins = pins }

  fits : Fits card change
  fits = subst (λ (change : Option Change). IfSome change (Fits card)) is can.change

  -- the change fits the files with memory reserved
  pub fits_reserved : FitsFiles new change
  fits_reserved = (pins, subst (λ (rows : List FileRow). Fits (record { rows = rows; pins = pins }) change) (sym (rows_kept old new nodes cells)) fits)

  -- and with it made a card holds them
  pub held_after : (last : Files) → rows_of last ≡ rows_after (rows_of new) change → IsOfCard (rows_of last) (session_after session decided.session)
  held_after last made =
      let rows : rows_of last ≡ (changed card change).rows =
      made ∙ ap (λ (rows : List FileRow). rows_after rows change) (rows_kept old new nodes cells) ∙ sym (rows_alike (rows_of old) pins change) in
      let suits : Suits (session_after session decided.session) (changed card change).rows =
      subst (λ (change : Option Change). Suits (session_after session decided.session) (content_after card change).rows) is can.session in (
        (changed card change).pins,
        subst (λ (rows : List FileRow). IsValid (record { rows = rows; pins = (changed card change).pins })) (sym rows) fits.after,
        subst (λ (rows : List FileRow). Suits (session_after session decided.session) rows) (sym rows) suits,
      )
