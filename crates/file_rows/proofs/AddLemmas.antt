-- A new file.
use Rattle.std.proofs.Common.{◌≡◌, ◌≢◌, ◌↔◌, ℕ, ◌+◌, List, [], ◌∷◌, ◌++◌, length, refl, sym, ap}
use Rattle.std.proofs.Common.{subst, ⊎_elim, inr, arith}
use Rattle.std.proofs.lemmas.List.{length-replicate, map-append}
use Rattle.std.proofs.lemmas.List.Sums.{sum_by-append, sum_by-cons}
use Rattle.std.specs.Bool.{IsTrue}
use Rattle.std.specs.List.{Any, AllByRecursion}
use Rattle.std.specs.Prelude.{IsNone}
use Rattle.plain_lists.specs.EachTwo.{EachTwo}
use Rattle.file_rows.specs.Apart.{AreFilesApart}
use Rattle.file_rows.specs.Change.{Fits, new_file}
use Rattle.file_rows.specs.Conditions.{IsNewFile}
use Rattle.file_rows.specs.Content.{AreFiles, ArePins, AreTree, IsAtHome, IsFileSystem, IsValid}
use Rattle.file_rows.specs.Content.{file_at, heads_of, use_of}
use Rattle.file_rows.specs.FileHead.{Holds, IsFile, ShareName, ShareSfi, holds_files}
use Rattle.file_rows.specs.declared.change.Change.TheVariants.{FileAdd}
use Rattle.file_rows.specs.declared.content.Content.{Content}
use Rattle.file_rows.specs.declared.head.FileHead.{FileHead}
use Rattle.file_rows.specs.declared.pin.PinRow.{PinRow}
use Rattle.file_rows.specs.declared.row.FileRow.{FileRow}
use Rattle.file_rows.proofs.ChangeLemmas.{same_path-other}
use Rattle.file_rows.proofs.EachLemmas.{each_both, each_of_map, each_weaker}
use Rattle.file_rows.proofs.ListLemmas.{any_left, any_of_map, each_append, each_right, two_last}
use Rattle.file_rows.proofs.ListLemmas.{two_push}
use Rattle.file_rows.proofs.TreeLemmas.{tree_last, tree_push}

module _ (head : FileHead) where
  heads_more : (rows : List FileRow) → heads_of (rows ++ new_file head ∷ []) ≡ heads_of rows ++ head ∷ []
  heads_more rows = map-append (λ (row : FileRow). row.head) rows (new_file head ∷ [])

  pub use_more : (rows : List FileRow) → use_of (rows ++ new_file head ∷ []) ≡ use_of rows + (head.size + 32)
  use_more rows =
      omega (arith, sum_by-append (λ (row : FileRow). length row.body + 32) rows (new_file head ∷ []), sum_by-cons (λ (row : FileRow). length row.body + 32) (new_file head) [], length-replicate {A = ℕ} head.size 255)

  -- a path that each file has apart is that of none
  absent : (rows : List FileRow) → AllByRecursion (λ row. AreFilesApart row.head head) rows → IsNone (file_at head.path rows)
  absent [] each = refl
  absent (row ∷ rows) each = rw (same_path-other row.head.path head.path each.0.path) (absent rows each.1)

  -- what no file of the heads has
  heads_apart : (R : FileHead → Type 0) (rows : List FileRow) → ((h : FileHead) → AreFilesApart h head → R h) → AllByRecursion (λ row. AreFilesApart row.head head) rows
      → AllByRecursion R (heads_of rows)
  heads_apart R rows gives each =
      (each_of_map (λ (row : FileRow). row.head) R rows).0 (each_weaker (λ row. AreFilesApart row.head head) (λ row. R row.head) (λ row apart. gives row.head apart) rows each)

  two_more : (R : FileHead → FileHead → Type 0) (rows : List FileRow) → ((h : FileHead) → AreFilesApart h head → R h head) → AllByRecursion (λ row. AreFilesApart row.head head) rows
      → EachTwo R (heads_of rows) → EachTwo R (heads_of (rows ++ new_file head ∷ []))
  two_more R rows gives each two =
      subst (EachTwo R) (sym (heads_more rows)) (two_push R (heads_of rows) head two (heads_apart (λ h. R h head) rows gives each))

  files_more : (rows : List FileRow) → AreFiles rows → IsNewFile rows head → AreFiles (rows ++ new_file head ∷ [])
  files_more rows files new = record {
    tree = subst AreTree (sym (heads_more rows))
        (tree_push (heads_of rows) head files.tree new.below (any_of_map (λ (row : FileRow). row.head) (λ directory. Holds directory head) rows new.directory));
    each = subst (AllByRecursion IsFile) (sym (heads_more rows)) (each_append IsFile (heads_of rows) (head ∷ []) files.each (new.form, tt));
    bodies = each_append (λ (row : FileRow). length row.body ≡ row.head.size) rows (new_file head ∷ []) files.bodies (length-replicate {A = ℕ} head.size 255, tt);
    paths = two_more (λ one other. one.path ≢ other.path) rows (λ h apart. apart.path) new.apart files.paths;
    sfis = two_more (λ one other. ShareSfi one other → ⊥) rows (λ h apart. apart.sfi) new.apart files.sfis;
    names = two_more (λ one other. ShareName one other → ⊥) rows (λ h apart. apart.name) new.apart files.names;
  }

  pins_more : (rows : List FileRow) (pins : List PinRow) → ArePins (heads_of rows) pins → ArePins (heads_of (rows ++ new_file head ∷ [])) pins
  pins_more rows pins are = record {
    each = are.each;
    homes = each_weaker (IsAtHome (heads_of rows)) (IsAtHome (heads_of (rows ++ new_file head ∷ [])))
        (λ pin home. subst (λ (heads : List FileHead). IsAtHome heads pin) (sym (heads_more rows))
        (any_left (λ (h : FileHead). IsTrue (holds_files h.kind) × (h.path ≡ pin.home)) (heads_of rows) (head ∷ []) home))
        pins are.homes;
    numbers = are.numbers;
    keys = are.keys;
  }

  -- what the files of a card with one more show of the last
  two_of_last : (R : FileHead → FileHead → Type 0) (rows : List FileRow) → EachTwo R (heads_of (rows ++ new_file head ∷ [])) → AllByRecursion (λ row. R row.head head) rows
  two_of_last R rows two =
      (each_of_map (λ (row : FileRow). row.head) (λ h. R h head) rows).1 (two_last R (heads_of rows) head (subst (EachTwo R) (heads_more rows) two))

  apart_of : (rows : List FileRow) → AreFiles (rows ++ new_file head ∷ []) → AllByRecursion (λ row. AreFilesApart row.head head) rows
  apart_of rows files =
      let Paths : FileRow → Type 0 = λ row. row.head.path ≢ head.path in
      let Sfis : FileRow → Type 0 = λ row. ShareSfi row.head head → ⊥ in
      let Names : FileRow → Type 0 = λ row. ShareName row.head head → ⊥ in
      each_weaker (λ row. (Paths row × Sfis row) × Names row) (λ row. AreFilesApart row.head head) (λ row all. record { path = all.0.0; sfi = all.0.1; name = all.1 }) rows
      (each_both (λ row. Paths row × Sfis row) Names rows
      (each_both Paths Sfis rows (two_of_last (λ one other. one.path ≢ other.path) rows files.paths) (two_of_last (λ one other. ShareSfi one other → ⊥) rows files.sfis))
      (two_of_last (λ one other. ShareName one other → ⊥) rows files.names))

  system_there : (content : Content) → IsValid content → Any (λ row. Holds row.head head) content.rows → IsFileSystem content
  system_there content valid any = ⊎_elim (λ empty. absurd (omega (arith, any.2, ap length empty.rows))) (λ system. system) valid.system

  no_rows : (rows : List FileRow) → rows ++ new_file head ∷ [] ≡ [] → ⊥
  no_rows [] e = cc
  no_rows (row ∷ rows) e = cc

  -- a file may be added that is new in its directory, on a card with room
  pub fits_new_file : (content : Content) → IsValid content → Fits content (FileAdd head) ↔ IsNewFile content.rows head
  fits_new_file content valid = (
    λ fits.
        let system = system_there content valid fits.place.1 in
        let after : AreFiles (content.rows ++ new_file head ∷ []) = ⊎_elim (λ empty. absurd (no_rows content.rows empty.rows)) (λ s. s.files) fits.after.system in
        record {
          form = (each_right IsFile (heads_of content.rows) (head ∷ []) (subst (AllByRecursion IsFile) (heads_more content.rows) after.each)).0;
          below = tree_last (heads_of content.rows) head system.files.tree (subst AreTree (heads_more content.rows) after.tree);
          directory = fits.place.1;
          apart = apart_of content.rows after;
          quota = omega (arith, fits.after.quota, use_more content.rows);
        },
    λ new.
        let system = system_there content valid new.directory in
        record {
          place = (absent content.rows new.apart, new.directory);
          after = record {
            quota = omega (arith, new.quota, use_more content.rows);
            few_pins = valid.few_pins;
            system = inr (record {
              files = files_more content.rows system.files new;
              pins = pins_more content.rows content.pins system.pins;
            });
          };
        },
  )
