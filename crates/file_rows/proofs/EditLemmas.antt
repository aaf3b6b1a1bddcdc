-- A change of one file of a card.
use Rattle.std.proofs.Common.{◌≡◌, ◌≢◌, ℕ, ◌+◌, ◌≤◌, Bool, true, false, cond, List, [], ◌∷◌, ◌++◌}
use Rattle.std.proofs.Common.{length, refl, sym, ◌∙◌, ap, subst, Option, Some, None, ⊎_elim, inr}
use Rattle.std.proofs.Common.{arith}
use Rattle.std.proofs.lemmas.List.{map-append}
use Rattle.std.proofs.lemmas.List.Sums.{sum_by-append, sum_by-cons}
use Rattle.std.proofs.lemmas.Slice.Eq.{bytes_eq-Decides}
use Rattle.std.specs.Bool.{IsTrue}
use Rattle.std.specs.List.{AllByRecursion}
use Rattle.std.specs.Prelude.{IsSomeAnd}
use Rattle.plain_lists.specs.EachTwo.{EachTwo}
use Rattle.file_rows.specs.Change.{with_file}
use Rattle.file_rows.specs.Content.{AreFiles, ArePins, AreTree, IsAtHome, IsFileSystem, IsValid}
use Rattle.file_rows.specs.Content.{file_at, heads_of, use_of}
use Rattle.file_rows.specs.FileHead.{IsFile, ShareName, ShareSfi, holds_files}
use Rattle.file_rows.specs.Path.{IsIn, same_path}
use Rattle.file_rows.specs.declared.content.Content.{Content}
use Rattle.file_rows.specs.declared.content.TheConstants.{QUOTA}
use Rattle.file_rows.specs.declared.head.FileHead.{FileHead}
use Rattle.file_rows.specs.declared.head.Kind.{Kind}
use Rattle.file_rows.specs.declared.pin.PinRow.{PinRow}
use Rattle.file_rows.specs.declared.row.FileRow.{FileRow}
use Rattle.file_rows.proofs.ChangeLemmas.{same_path-other}
use Rattle.file_rows.proofs.EachLemmas.{each_weaker}
use Rattle.file_rows.proofs.ListLemmas.{any_replaced, each_replaced, each_right, two_replaced}
use Rattle.file_rows.proofs.TreeLemmas.{tree_replaced}

-- what is said of a file that is there
pub some_is : {X : Type 0} (o : Option X) (P : X → Type 0) → IsSomeAnd o P → (x : X) × (o ≡ Some x) × P x
some_is None P said = absurd said
some_is (Some x) P said = (x, refl, said)

pub is_some_and : {X : Type 0} (o : Option X) (P : X → Type 0) (x : X) → o ≡ Some x → P x → IsSomeAnd o P
is_some_and o P x e p = subst (λ (o : Option _). IsSomeAnd o P) (sym e) p

-- a card on which a file is found has files
pub system_of : (content : Content) → IsValid content → (path : List ℕ) (row : FileRow) → file_at path content.rows ≡ Some row → IsFileSystem content
system_of content valid path row found =
    ⊎_elim (λ empty. absurd (let none : None ≡ Some row = sym (ap (file_at path) empty.rows) ∙ found in cc)) (λ system. system) valid.system

-- the file stands between others, which a change of it leaves alone
pub record Stands (rows : List FileRow) (path : List ℕ) (change : FileRow → FileRow) (row : FileRow) : Type 0 where
  pub before : List FileRow
  pub after : List FileRow
  pub was : rows ≡ before ++ row ∷ after
  pub is : with_file path change rows ≡ before ++ change row ∷ after
  pub at : row.head.path ≡ path

module _ (path : List ℕ) (change : FileRow → FileRow) where
  unchanged : (rows : List FileRow) → AllByRecursion (λ head. path ≢ head.path) (heads_of rows) → with_file path change rows ≡ rows
  unchanged [] each = refl
  unchanged (row ∷ rows) each =
      rw (same_path-other row.head.path path (λ e. each.0 (sym e))) (ap (λ (rest : List FileRow). row ∷ rest) (unchanged rows each.1))

  pub stands : (rows : List FileRow) (row : FileRow) → EachTwo (λ one other. one.path ≢ other.path) (heads_of rows) → file_at path rows ≡ Some row
      → Stands rows path change row
  stands [] row each found = absurd (cc)
  stands (r ∷ rows) row each found =
      let step : (b : Bool) → same_path r.head.path path ≡ b → cond b (Some r) (file_at path rows) ≡ Some row → Stands (r ∷ rows) path change row
      = λ b. elim b as (λ b. same_path r.head.path path ≡ b → cond b (Some r) (file_at path rows) ≡ Some row → Stands (r ∷ rows) path change row) [
        | true ↦ λ e f.
            let is : r ≡ row = cc in
            let at : r.head.path ≡ path = (bytes_eq-Decides r.head.path path).0 e in
            let rest : with_file path change rows ≡ rows =
            unchanged rows (each_weaker (λ head. r.head.path ≢ head.path) (λ head. path ≢ head.path) (λ head apart same. apart (at ∙ same)) (heads_of rows) each.0) in
            record {
              before = [];
              after = rows;
              was = ap (λ (x : FileRow). x ∷ rows) is;
              is = ap (λ (b : Bool). cond b (change r) r ∷ with_file path change rows) e ∙ ap (λ (x : FileRow). change x ∷ with_file path change rows) is
                  ∙ ap (λ (rest : List FileRow). change row ∷ rest) rest;
              at = ap (λ (x : FileRow). x.head.path) (sym is) ∙ at;
            }
        | false ↦ λ e f.
            let later = stands rows row each.1 f in
            record {
              before = r ∷ later.before;
              after = later.after;
              was = ap (λ (rest : List FileRow). r ∷ rest) later.was;
              is = ap (λ (b : Bool). cond b (change r) r ∷ with_file path change rows) e ∙ ap (λ (rest : List FileRow). r ∷ rest) later.is;
              at = later.at;
            }
      ]
      in step (same_path r.head.path path) refl found

-- the same files, but one in the place of another with its path, kind, SFI and name
module _ (before after : List FileRow) (row row' : FileRow) (path : row'.head.path ≡ row.head.path) (kind : row'.head.kind ≡ row.head.kind)
    (sfi : row'.head.sfi ≡ row.head.sfi) (name : row'.head.name ≡ row.head.name) where
  abbrev with_row : FileRow → List FileRow
  with_row x = before ++ x ∷ after

  abbrev with_head : FileHead → List FileHead
  with_head head = heads_of before ++ head ∷ heads_of after

  heads_split : (x : FileRow) → heads_of (with_row x) ≡ with_head x.head
  heads_split x = map-append (λ (r : FileRow). r.head) before (x ∷ after)

  pub use_replaced : use_of (with_row row') + length row.body ≡ use_of (with_row row) + length row'.body
  use_replaced = omega (
    arith,
    sum_by-append (λ (r : FileRow). length r.body + 32) before (row ∷ after),
    sum_by-append (λ (r : FileRow). length r.body + 32) before (row' ∷ after),
    sum_by-cons (λ (r : FileRow). length r.body + 32) row after,
    sum_by-cons (λ (r : FileRow). length r.body + 32) row' after,
  )

  inside_was : (directory : List ℕ) → IsIn directory row'.head.path → IsIn directory row.head.path
  inside_was directory inside = (inside.0, sym path ∙ inside.1)

  two_heads : (R : FileHead → FileHead → Type 0) → ((h : FileHead) → R h row.head → R h row'.head) → ((h : FileHead) → R row.head h → R row'.head h)
      → EachTwo R (heads_of (with_row row)) → EachTwo R (heads_of (with_row row'))
  two_heads R left right each =
      subst (EachTwo R) (sym (heads_split row')) (two_replaced R (heads_of before) (heads_of after) row.head row'.head left right (subst (EachTwo R) (heads_split row) each))

  pub files_replaced : IsFile row'.head → length row'.body ≡ row'.head.size → AreFiles (with_row row) → AreFiles (with_row row')
  files_replaced form body files = record {
    tree = subst AreTree (sym (heads_split row'))
        (tree_replaced row.head row'.head kind
        (λ directory holds. record { kind = holds.kind; path = (holds.path.0, path ∙ holds.path.1) })
        (λ file holds. record {
          kind = subst (λ (k : Kind). IsTrue (holds_files k)) (sym kind) holds.kind;
          path = (holds.path.0, holds.path.1 ∙ ap (λ (p : List ℕ). p ++ holds.path.0 ∷ []) (sym path));
        })
        (heads_of before) (heads_of after) (subst AreTree (heads_split row) files.tree));
    each = subst (AllByRecursion IsFile) (sym (heads_split row'))
        (each_replaced IsFile (heads_of before) (heads_of after) row.head row'.head (λ _. form) (subst (AllByRecursion IsFile) (heads_split row) files.each));
    bodies = each_replaced (λ (r : FileRow). length r.body ≡ r.head.size) before after row row' (λ _. body) files.bodies;
    paths = two_heads (λ one other. one.path ≢ other.path) (λ h apart e. apart (e ∙ path)) (λ h apart e. apart (sym path ∙ e)) files.paths;
    sfis = two_heads (λ one other. ShareSfi one other → ⊥)
        (λ h apart s. apart (record { given = s.given; same = s.same ∙ sfi; directory = (s.directory.0, s.directory.1, inside_was s.directory.0 s.directory.2) }))
        (λ h apart s. apart (record {
          given = λ e. s.given (sfi ∙ e);
          same = sym sfi ∙ s.same;
          directory = (s.directory.0, inside_was s.directory.0 s.directory.1, s.directory.2);
        }))
        files.sfis;
    names = two_heads (λ one other. ShareName one other → ⊥)
        (λ h apart s. apart (record { given = s.given; same = s.same ∙ name }))
        (λ h apart s. apart (record { given = λ e. s.given (name ∙ e); same = sym name ∙ s.same }))
        files.names;
  }

  pub pins_replaced : (pins : List PinRow) → ArePins (heads_of (with_row row)) pins → ArePins (heads_of (with_row row')) pins
  pins_replaced pins are = record {
    each = are.each;
    homes = each_weaker (IsAtHome (heads_of (with_row row))) (IsAtHome (heads_of (with_row row')))
        (λ pin home. subst (λ (heads : List FileHead). IsAtHome heads pin) (sym (heads_split row'))
        (any_replaced (λ (head : FileHead). IsTrue (holds_files head.kind) × (head.path ≡ pin.home)) (heads_of before) (heads_of after) row.head row'.head
        (λ is. (subst (λ (k : Kind). IsTrue (holds_files k)) (sym kind) is.0, path ∙ is.1))
        (subst (λ (heads : List FileHead). IsAtHome heads pin) (heads_split row) home)))
        pins are.homes;
    numbers = are.numbers;
    keys = are.keys;
  }

-- the content with one file changed is valid
pub edited_valid : (content : Content) → IsValid content → (path : List ℕ) (change : FileRow → FileRow) (row : FileRow) → file_at path content.rows ≡ Some row
    → ((change row).head.path ≡ row.head.path) × ((change row).head.kind ≡ row.head.kind) × ((change row).head.sfi ≡ row.head.sfi) × ((change row).head.name ≡ row.head.name)
    → IsFile (change row).head → length (change row).body ≡ (change row).head.size
    → use_of content.rows + length (change row).body ≤ QUOTA + length row.body
    → IsValid (record content { rows = with_file path change content.rows })
edited_valid content valid path change row found same form body quota =
    let system = system_of content valid path row found in
    let there = stands path change content.rows row system.files.paths found in
    let taken = use_replaced there.before there.after row (change row) same.0 same.1 same.2 same.3 in
    record {
      quota = omega (arith, quota, taken, ap use_of there.was, ap use_of there.is);
      few_pins = valid.few_pins;
      system = inr (record {
        files = subst AreFiles (sym there.is)
            (files_replaced there.before there.after row (change row) same.0 same.1 same.2 same.3 form body (subst AreFiles there.was system.files));
        pins = subst (λ (rows : List FileRow). ArePins (heads_of rows) content.pins) (sym there.is)
            (pins_replaced there.before there.after row (change row) same.0 same.1 same.2 same.3 content.pins
            (subst (λ (rows : List FileRow). ArePins (heads_of rows) content.pins) there.was system.pins));
      });
    }

-- what a valid content with one file changed shows of that file
pub edited_is : (content : Content) → IsValid content → (path : List ℕ) (change : FileRow → FileRow) (row : FileRow) → file_at path content.rows ≡ Some row
    → ((change row).head.path ≡ row.head.path) × ((change row).head.kind ≡ row.head.kind) × ((change row).head.sfi ≡ row.head.sfi) × ((change row).head.name ≡ row.head.name)
    → IsValid (record content { rows = with_file path change content.rows })
    → IsFile (change row).head × (use_of content.rows + length (change row).body ≤ QUOTA + length row.body)
edited_is content valid path change row found same after =
    let system = system_of content valid path row found in
    let there = stands path change content.rows row system.files.paths found in
    let taken = use_replaced there.before there.after row (change row) same.0 same.1 same.2 same.3 in
    let each : AllByRecursion (λ r. IsFile r.head) (there.before ++ change row ∷ there.after) = ⊎_elim
    (λ empty. absurd (no_rows there.before (change row) there.after (sym there.is ∙ empty.rows)))
    (λ files. each_file (there.before ++ change row ∷ there.after) (subst (λ (rows : List FileRow). AllByRecursion IsFile (heads_of rows)) there.is files.files.each))
    after.system in
    ((each_right (λ r. IsFile r.head) there.before (change row ∷ there.after) each).0, omega (arith, after.quota, taken, ap use_of there.was, ap use_of there.is))
  where
    no_rows : (before : List FileRow) (x : FileRow) (after : List FileRow) → before ++ x ∷ after ≡ [] → ⊥
    no_rows [] x after e = cc
    no_rows (y ∷ before) x after e = cc

    each_file : (rows : List FileRow) → AllByRecursion IsFile (heads_of rows) → AllByRecursion (λ r. IsFile r.head) rows
    each_file [] each = tt
    each_file (r ∷ rows) each = (each.0, each_file rows each.1)
