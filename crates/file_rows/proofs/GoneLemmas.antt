-- A file that goes, with all files below it and the PINs at home there.
use Rattle.std.proofs.Common.{◌≡◌, ◌≢◌, ◌⊎◌, ℕ, ◌+◌, Bool, true, false, not, List, [], ◌∷◌, ◌++◌}
use Rattle.std.proofs.Common.{length, filter, refl, sym, ◌∙◌, ap, subst, ⊎_elim, inl, inr, arith}
use Rattle.std.proofs.lemmas.Bool.{true≢false}
use Rattle.std.specs.Bool.{IsTrue}
use Rattle.std.specs.List.{AllByRecursion}
use Rattle.plain_lists.specs.EachTwo.{EachTwo}
use Rattle.file_rows.specs.Change.{changed}
use Rattle.file_rows.specs.Content.{AreFiles, ArePins, AreTree, IsAtHome, IsFileSystem, IsValid}
use Rattle.file_rows.specs.Content.{heads_of, use_of}
use Rattle.file_rows.specs.FileHead.{HasForm, Holds, IsFile, ShareName, ShareSfi, holds_files}
use Rattle.file_rows.specs.Path.{master, stands_below}
use Rattle.file_rows.specs.PinRow.{IsPin, ShareKey}
use Rattle.file_rows.specs.declared.change.Change.TheVariants.{FileGone}
use Rattle.file_rows.specs.declared.content.Content.{Content}
use Rattle.file_rows.specs.declared.head.FileHead.{FileHead}
use Rattle.file_rows.specs.declared.head.Kind.{Kind}
use Rattle.file_rows.specs.declared.head.Kind.TheVariants.{Master}
use Rattle.file_rows.specs.declared.pin.PinRow.{PinRow}
use Rattle.file_rows.specs.declared.row.FileRow.{FileRow}
use Rattle.file_rows.proofs.ListLemmas.{any_filter, each_filter, each_kept, filter_none}
use Rattle.file_rows.proofs.ListLemmas.{length-filter-le, map_of_filter, sum_by-filter, two_filter}
use Rattle.file_rows.proofs.PathLemmas.{below_is, below_more, is_below, is_false}
use Rattle.file_rows.proofs.TreeLemmas.{tree_filter}

from_not : (b : Bool) → not b ≡ true → b ≡ false
from_not true e = absurd (true≢false (sym e))
from_not false e = refl

-- all files stand below the MF
all_below : (path : List ℕ) → not (stands_below master path) ≡ false
all_below path = ap not (is_below master path path refl)

module _ (top : List ℕ) (some : top ≢ master) where
  abbrev stays : FileHead → Bool
  stays head = not (stands_below top head.path)

  -- the directory of a file that stays does too
  closed : (directory file : FileHead) → Holds directory file → stays file ≡ true → stays directory ≡ true
  closed directory file holds kept =
      ap not (is_false (stands_below top directory.path)
      (λ below.
      let file_below : stands_below top file.path ≡ true =
      ap (stands_below top) holds.path.1 ∙ below_more top directory.path (holds.path.0 ∷ []) below in
      true≢false (sym file_below ∙ from_not (stands_below top file.path) kept)))

  not_below_master : stands_below top master ≡ false
  not_below_master = is_false (stands_below top master) (λ below. some (nothing_more top _ (below_is top master below)))
    where
      nothing_more : (front rest : List ℕ) → [] ≡ front ++ rest → front ≡ []
      nothing_more [] rest e = refl
      nothing_more (x ∷ front) rest e = absurd (cc)

  root_stays : (first : FileHead) → IsFile first → first.kind ≡ Master → stays first ≡ true
  root_stays first file kind =
      let form : HasForm Master first = subst (λ (k : Kind). HasForm k first) kind file.form in
      ap (λ (p : List ℕ). not (stands_below top p)) form.path ∙ ap not not_below_master

  heads_left : (rows : List FileRow) → heads_of (filter (λ row. stays row.head) rows) ≡ filter stays (heads_of rows)
  heads_left rows = map_of_filter (λ (row : FileRow). row.head) stays rows

  two_left : (R : FileHead → FileHead → Type 0) (rows : List FileRow) → EachTwo R (heads_of rows) → EachTwo R (heads_of (filter (λ row. stays row.head) rows))
  two_left R rows two = subst (EachTwo R) (sym (heads_left rows)) (two_filter R stays (heads_of rows) two)

  files_left : (rows : List FileRow) → AreFiles rows → AreFiles (filter (λ row. stays row.head) rows)
  files_left rows files = record {
    tree = subst AreTree (sym (heads_left rows)) (tree_filter stays closed (heads_of rows) root_stays files.each files.tree);
    each = subst (AllByRecursion IsFile) (sym (heads_left rows)) (each_filter IsFile stays (heads_of rows) files.each);
    bodies = each_filter (λ (row : FileRow). length row.body ≡ row.head.size) (λ row. stays row.head) rows files.bodies;
    paths = two_left (λ one other. one.path ≢ other.path) rows files.paths;
    sfis = two_left (λ one other. ShareSfi one other → ⊥) rows files.sfis;
    names = two_left (λ one other. ShareName one other → ⊥) rows files.names;
  }

  -- the home of a PIN that stays does too
  home_left : (heads : List FileHead) (pin : PinRow) → IsAtHome heads pin → not (stands_below top pin.home) ≡ true → IsAtHome (filter stays heads) pin
  home_left heads pin home kept =
      any_filter (λ (head : FileHead). IsTrue (holds_files head.kind) × (head.path ≡ pin.home)) stays heads
      (λ head is. ap (λ (p : List ℕ). not (stands_below top p)) is.1 ∙ kept) home

  pins_left : (heads : List FileHead) (pins : List PinRow) → ArePins heads pins → ArePins (filter stays heads) (filter (λ pin. not (stands_below top pin.home)) pins)
  pins_left heads pins are =
      let keeps : PinRow → Bool = λ pin. not (stands_below top pin.home) in
      record {
        each = each_filter IsPin keeps pins are.each;
        homes = each_kept (IsAtHome heads) (IsAtHome (filter stays heads)) keeps (home_left heads) pins are.homes;
        numbers = two_filter (λ one other. one.number ≢ other.number) keeps pins are.numbers;
        keys = two_filter (λ one other. ShareKey one other → ⊥) keeps pins are.keys;
      }

  system_left : (content : Content) → IsFileSystem content → IsFileSystem (changed content (FileGone top))
  system_left content system = record {
    files = files_left content.rows system.files;
    pins = subst (λ (heads : List FileHead). ArePins heads (filter (λ pin. not (stands_below top pin.home)) content.pins)) (sym (heads_left content.rows))
        (pins_left (heads_of content.rows) content.pins system.pins);
  }

after_gone : (content : Content) → IsFileSystem content → (top : List ℕ) → IsValid (changed content (FileGone top)) ⊎ IsFileSystem (changed content (FileGone top))
after_gone content system [] = inl (record {
  quota = omega (arith, ap use_of rows);
  few_pins = omega (arith, ap length pins);
  system = inl (record { rows = rows; pins = pins });
})
  where
    rows : filter (λ (row : FileRow). not (stands_below master row.head.path)) content.rows ≡ []
    rows = filter_none (λ (row : FileRow). not (stands_below master row.head.path)) content.rows (λ row. all_below row.head.path)

    pins : filter (λ (pin : PinRow). not (stands_below master pin.home)) content.pins ≡ []
    pins = filter_none (λ (pin : PinRow). not (stands_below master pin.home)) content.pins (λ pin. all_below pin.home)
after_gone content system (id ∷ ids) = inr (system_left (id ∷ ids) (λ e. cc) content system)

-- a card is valid after a file went
pub gone_valid : (content : Content) → IsValid content → IsFileSystem content → (top : List ℕ) → IsValid (changed content (FileGone top))
gone_valid content valid system top = ⊎_elim
    (λ whole. whole)
    (λ left. record {
      quota = omega (arith, valid.quota, sum_by-filter (λ (row : FileRow). length row.body + 32) (λ row. not (stands_below top row.head.path)) content.rows);
      few_pins = omega (arith, valid.few_pins, length-filter-le (λ (pin : PinRow). not (stands_below top pin.home)) content.pins);
      system = inr left;
    })
    (after_gone content system top)
