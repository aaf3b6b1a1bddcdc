use Rattle.std.proofs.Common.{◌≡◌, ◌≢◌, ◌≤◌, ◌↔◌, Bool, List, [], ◌∷◌, length, take, drop, get_or}
use Rattle.std.proofs.Common.{sym, ◌∙◌, ap, arith}
use Rattle.std.specs.Bool.{IsTrue}
use Rattle.std.specs.List.{AllByRecursion}
use Rattle.plain_lists.specs.EachTwo.{EachTwo}
use Rattle.file_rows.specs.Apart.{AreFilesApart}
use Rattle.file_rows.specs.Content.{AreFiles, AreTree, StandInEarlier, heads_of}
use Rattle.file_rows.specs.FileHead.{IsFile, ShareName, ShareSfi}
use Rattle.file_rows.specs.declared.head.FileHead.{FileHead}
use Rattle.file_rows.specs.declared.head.Kind.TheVariants.{Master}
use Rattle.file_rows.specs.declared.row.FileRow.{FileRow}
use Rattle.file_rows.proofs.EachLemmas.{each_both, each_of_map, each_weaker, two_both, two_of_map}
use Rattle.file_rows.proofs.EachLemmas.{two_weaker}

-- the first file is the root, and no other one is
pub root_and_rest : (rows : List FileRow) (first : FileRow) (r : Bool) → 1 ≤ length rows → first ≡ get_or rows 0 first → first.head.kind ≡ Master
    → AllByRecursion (λ row. row.head.kind ≢ Master) (drop 1 rows) → (IsTrue r ↔ StandInEarlier (heads_of (take 1 rows)) (heads_of (drop 1 rows)))
    → IsTrue r ↔ AreTree (heads_of rows)
root_and_rest [] first r some at root others test = absurd (omega (arith, some))
root_and_rest (row ∷ rows) first r some at root others test = (
  λ e. (ap (λ (x : FileRow). x.head.kind) (sym at) ∙ root, (each_of_map (λ (x : FileRow). x.head) (λ head. head.kind ≢ Master) rows).0 others, test.0 e),
  λ tree. test.1 tree.2,
)

-- what a tree of files has at its front
pub root_of : (rows : List FileRow) (first : FileRow) → first ≡ get_or rows 0 first → AreTree (heads_of rows)
    → (first.head.kind ≡ Master) × AllByRecursion (λ row. row.head.kind ≢ Master) (drop 1 rows)
root_of [] first at tree = absurd tree
root_of (row ∷ rows) first at tree =
    (ap (λ (x : FileRow). x.head.kind) at ∙ tree.0, (each_of_map (λ (x : FileRow). x.head) (λ head. head.kind ≢ Master) rows).1 tree.1)

abbrev IsFormed : FileRow → Type 0
IsFormed row = IsFile row.head × (length row.body ≡ row.head.size)

abbrev IsApart : FileRow → FileRow → Type 0
IsApart one other = AreFilesApart one.head other.head

-- the three parts of what files are
pub files_of_parts : (rows : List FileRow) → AreTree (heads_of rows) → AllByRecursion (λ row. IsFile row.head × (length row.body ≡ row.head.size)) rows
    → EachTwo (λ one other. AreFilesApart one.head other.head) rows → AreFiles rows
files_of_parts rows tree formed apart =
    let heads : FileRow → FileHead = λ row. row.head in
    let two : EachTwo AreFilesApart (heads_of rows) = (two_of_map heads AreFilesApart rows).0 apart in
    record {
      tree = tree;
      each = (each_of_map heads IsFile rows).0 (each_weaker IsFormed (λ row. IsFile row.head) (λ row both. both.0) rows formed);
      bodies = each_weaker IsFormed (λ row. length row.body ≡ row.head.size) (λ row both. both.1) rows formed;
      paths = two_weaker AreFilesApart (λ one other. one.path ≢ other.path) (λ one other both. both.path) (heads_of rows) two;
      sfis = two_weaker AreFilesApart (λ one other. ShareSfi one other → ⊥) (λ one other both. both.sfi) (heads_of rows) two;
      names = two_weaker AreFilesApart (λ one other. ShareName one other → ⊥) (λ one other both. both.name) (heads_of rows) two;
    }

pub formed_of : (rows : List FileRow) → AreFiles rows → AllByRecursion (λ row. IsFile row.head × (length row.body ≡ row.head.size)) rows
formed_of rows files =
    each_both (λ row. IsFile row.head) (λ row. length row.body ≡ row.head.size) rows
    ((each_of_map (λ (row : FileRow). row.head) IsFile rows).1 files.each) files.bodies

pub apart_of : (rows : List FileRow) → AreFiles rows → EachTwo (λ one other. AreFilesApart one.head other.head) rows
apart_of rows files =
    let Paths : FileHead → FileHead → Type 0 = λ one other. one.path ≢ other.path in
    let Sfis : FileHead → FileHead → Type 0 = λ one other. ShareSfi one other → ⊥ in
    let Names : FileHead → FileHead → Type 0 = λ one other. ShareName one other → ⊥ in
    (two_of_map (λ (row : FileRow). row.head) AreFilesApart rows).1
    (two_weaker (λ one other. (Paths one other × Sfis one other) × Names one other) AreFilesApart (λ one other both. record { path = both.0.0; sfi = both.0.1; name = both.1 }) (heads_of rows)
    (two_both (λ one other. Paths one other × Sfis one other) Names (heads_of rows) (two_both Paths Sfis (heads_of rows) files.paths files.sfis) files.names))
