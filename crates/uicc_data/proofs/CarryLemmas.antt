-- A card can carry out what a command on a file comes to.
use Rattle.std.proofs.Common.{List, sym, subst, ⊎_elim, Option}
use Rattle.std.specs.Prelude.{IsSomeAnd}
use Rattle.apdu_codec.specs.declared.status.Sw.{Sw}
use Rattle.file_rows.specs.Content.{IsValid, file_at}
use Rattle.file_rows.specs.declared.content.Content.{Content}
use Rattle.file_rows.specs.declared.row.FileRow.{FileRow}
use Rattle.uicc_channels.proofs.AmongLemmas.{AreApart, IsAmong}
use Rattle.uicc_channels.specs.CommandOutcome.{refused}
use Rattle.uicc_channels.specs.Session.{Suits}
use Rattle.uicc_channels.specs.declared.session.Session.{Session}
use Rattle.uicc_channels.specs.CarriesOut.{CanCarryOut}

-- no two files of a card have one path
pub apart_rows : (content : Content) → IsValid content → AreApart content.rows
apart_rows content valid = ⊎_elim (λ none. subst AreApart (sym none.rows) tt) (λ system. system.files.paths) valid.system

module _ (content : Content) (session : Session) (suits : Suits session content.rows) where
  -- a refusal changes nothing
  pub CanCarryOut-refused : (sw : Sw) → CanCarryOut content (refused session sw)
  CanCarryOut-refused sw = record { change = tt; session = suits }

-- what is said of a file holds of the one at its path
pub at_its_path : (P : FileRow → Type 0) (rows : List FileRow) (row : FileRow) → IsAmong rows row → P row → IsSomeAnd (file_at row.head.path rows) P
at_its_path P rows row among said = subst (λ (o : Option FileRow). IsSomeAnd o P) (sym among) said
