use Rattle.std.proofs.Common.{◌≡◌, List, [], ◌∷◌, ℕ, false, refl, sym, ◌∙◌, ap, inl, inr, Some}
use Rattle.std.proofs.Common.{None, IsTrue}
use Rattle.file_rows.proofs.EditLemmas.{is_some_and}
use Rattle.file_rows.specs.Content.{file_at}
use Rattle.file_rows.specs.FileHead.{holds_files}
use Rattle.file_rows.specs.declared.content.Content.{Content}
use Rattle.file_rows.specs.declared.head.FileHead.{FileHead}
use Rattle.file_rows.specs.declared.row.FileRow.{FileRow}
use Rattle.uicc_channels.proofs.SessionLemmas.{Suits-fresh_session, Suits-with_channel}
use Rattle.uicc_channels.specs.Chan.{StandsAmong, at_master}
use Rattle.uicc_channels.specs.Session.{fresh_session}
use Rattle.uicc_channels.specs.declared.chan.Chan.{Chan}
use Rattle.uicc_tree.specs.Files.{file_of, rows_of}
use Rattle.uicc_admin.proofs.tests.sample.session_of.Goals as goal

-- a channel at a directory of the card stands among its files
stands_at : (rows : List FileRow) (directory : List ℕ) (row : FileRow) → file_at directory rows ≡ Some row → IsTrue (holds_files row.head.kind) → StandsAmong rows (record at_master { dir = directory })
stands_at rows directory row at holds = record { app = tt; dir = inr (is_some_and (file_at directory rows) (λ row. IsTrue (holds_files row.head.kind)) row at holds); file = tt; pointer = inl refl }

pub returns : goal.returns
returns c =
    let rows : List FileRow = rows_of c.args.tree.now in
    let content : Content = record { rows = rows; pins = c.requires.card.0 } in
    let directory : List ℕ = 0x7F10 ∷ [] in
    let chan : Chan = record at_master { dir = directory } in
    let holds : IsTrue (holds_files (file_of c.args.tree.now c.in-Some.node).head.kind) =
    ap (λ (head : FileHead). holds_files head.kind) (sym c.head.ensures) ∙ (sym c.holds_files.ensures ∙ c.if-not-holds_files.false) in (
      c.requires.card.0,
      c.requires.card.1,
      rw (c.set.ensures, c.from-2.ensures, c.fresh-session.ensures, c.at_master.ensures, c.from_slice.ensures)
          (Suits-with_channel (fresh_session false None) rows c.args.number (Some chan) (Suits-fresh_session content false None c.requires.card.1)
          (stands_at rows directory (file_of c.args.tree.now c.in-Some.node) c.in-Some.ensures.1 holds) (λ e. refl)),
    )
