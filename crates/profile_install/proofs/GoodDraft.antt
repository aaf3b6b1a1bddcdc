-- A draft whose files and PINs are a valid content, and how files and their bytes keep it so.
use Rattle.std.proofs.Common.{◌≡◌, ◌⊎◌, ℕ, zero, suc, ◌+◌, ◌-◌, ◌≤◌, Bool, true, false, cond, not}
use Rattle.std.proofs.Common.{◌==◌, List, [], ◌∷◌, ◌++◌, length, refl, sym, ◌∙◌, ap, subst, inl}
use Rattle.std.proofs.Common.{inr, ⊎_elim, Option, Some, None, Ok, Err, slice_get, slice_set, arith}
use Rattle.std.specs.Prelude.{nat_le}
use Rattle.std.specs.Bool.{IsTrue}
use Rattle.std.specs.List.{AllByRecursion, Any}
use Rattle.std.proofs.lemmas.Bool.{true≢false}
use Rattle.std.proofs.lemmas.List.Sums.{sum_by-cons}
use Rattle.file_rows.specs.Change.{Fits, new_file, with_body, written}
use Rattle.file_rows.specs.Content.{AreFiles, ArePins, AreTree, IsFileSystem, IsValid, heads_of}
use Rattle.file_rows.specs.Content.{use_of}
use Rattle.file_rows.specs.FileHead.{IsFile, HasForm, ShareName, ShareSfi, holds_files}
use Rattle.file_rows.specs.PinRow.{AreTries}
use Rattle.file_rows.specs.declared.change.Change.TheVariants.{FileAdd}
use Rattle.file_rows.specs.declared.head.FileHead.{FileHead}
use Rattle.file_rows.specs.declared.head.Kind.{Kind}
use Rattle.file_rows.specs.declared.head.Kind.TheVariants.{Master}
use Rattle.file_rows.specs.declared.pin.PinRow.{PinRow}
use Rattle.file_rows.specs.declared.row.FileRow.{FileRow}
use Rattle.file_rows.proofs.AddLemmas.{use_more}
use Rattle.file_rows.proofs.ConditionLemmas.{length-written}
use Rattle.file_rows.proofs.ListLemmas.{any_first, any_left, any_of_map, any_right, map_of_any}
use Rattle.file_rows.proofs.PathLemmas.{not_zero}
use Rattle.plain_lists.specs.EachTwo.{EachTwo}
use Rattle.fcp_codec.specs.Creation.{HoldsFilesAt, created_with, in_use}
use Rattle.fcp_codec.specs.declared.creation.InUse.{InUse}
use Rattle.fcp_codec.specs.declared.fcp.Fcp.{Fcp}
use Rattle.fcp_codec.proofs.CreationFits.{made_fits}
use Rattle.fcp_codec.proofs.CreationLemmas.{le_of}
use Rattle.profile_install.specs.Draft.{content_in, filled, head_made, in_use_now, with_new_file}
use Rattle.profile_install.specs.Package.{content_of_draft}
use Rattle.profile_install.specs.State.{has_master}
use Rattle.profile_install.specs.declared.draft.Draft.{Draft}
use Rattle.profile_install.specs.declared.draft.Filled.{Filled}
use Rattle.profile_install.specs.declared.draft.OpenFile.{OpenFile}
use Rattle.profile_install.specs.declared.fault.ElementFault.TheVariants.{BadParameter}
use Rattle.profile_install.specs.declared.puk_entry.NamedPuk.{NamedPuk}
use Rattle.profile_install.proofs.FilesFit.{made_is}
use Rattle.profile_install.proofs.Oks.{if_ok, not_ok, ok_is}

-- the MF, or a directory that is there
abbrev pub IsThere : List FileRow → List ℕ → Type 0
IsThere rows directory = (directory ≡ []) ⊎ HoldsFilesAt rows directory

abbrev pub IsPuk : NamedPuk → Type 0
IsPuk named = AreTries named.puk.max named.puk.left

-- the content is valid, and what is left of the quota is what the files don't take
pub record IsGood (draft : Draft) : Type 0 where
  pub valid : IsValid (content_of_draft draft)
  pub left : draft.left + use_of draft.rows ≡ 65536
  pub home : IsThere draft.rows draft.home
  pub numbers : AllByRecursion (λ (pin : PinRow). pin.number ≤ length draft.pins) draft.pins
  pub puks : AllByRecursion IsPuk draft.puks

-- a good draft after a step that makes or fills files: directories stay
pub record Goes (old new : Draft) : Type 0 where
  pub good : IsGood new
  pub keeps : (directory : List ℕ) → HoldsFilesAt old.rows directory
      → HoldsFilesAt new.rows directory
  pub usim : new.usim ≡ old.usim

pub goes_nowhere : (draft : Draft) → IsGood draft → Goes draft draft
goes_nowhere draft good = record { good = good; keeps = λ directory there. there; usim = refl }

pub goes_on : (a b c : Draft) → Goes a b → Goes b c → Goes a c
goes_on a b c one other = record {
  good = other.good;
  keeps = λ directory there. other.keeps directory (one.keeps directory there);
  usim = other.usim ∙ one.usim;
}

pub stays_there : (old new : Draft) (directory : List ℕ) → Goes old new
    → IsThere old.rows directory → IsThere new.rows directory
stays_there old new directory goes there = ⊎_elim (λ none. inl none)
    (λ held. inr (goes.keeps directory held)) there

-- where the MF is, each directory that is there holds files
pub held : (rows : List FileRow) (directory : List ℕ) → HoldsFilesAt rows []
    → IsThere rows directory → HoldsFilesAt rows directory
held rows directory master there = ⊎_elim (λ none. subst (HoldsFilesAt rows) (sym none) master)
    (λ at. at) there

root_path : (head : FileHead) → HasForm head.kind head → head.kind ≡ Master → head.path ≡ []
root_path head form is = let f : HasForm Master head = subst (λ (k : Kind). HasForm k head) is form
    in f.path

root_there : (rows : List FileRow) → AreFiles rows → HoldsFilesAt rows []
root_there [] files = absurd files.tree
root_there (row ∷ rows) files =
    any_first (λ (row : FileRow). IsTrue (holds_files row.head.kind) × (row.head.path ≡ [])) row
    rows
    (ap holds_files files.tree.0, root_path row.head files.each.0.form files.tree.0)

-- the MF is there where there are files
pub master_there : (draft : Draft) → IsGood draft → has_master draft ≡ true
    → HoldsFilesAt draft.rows []
master_there draft good is = ⊎_elim
    (λ empty. absurd (true≢false
    (sym is ∙ ap (λ (rows : List FileRow). not (length rows == 0)) empty.rows)))
    (λ system. root_there draft.rows system.files)
    good.valid.system

no_rows : (rows : List FileRow) → not (length rows == 0) ≡ false → rows ≡ []
no_rows [] e = refl
no_rows (row ∷ rows) e =
    absurd (true≢false (sym (ap not (not_zero (length (row ∷ rows)) (λ z. omega (arith, z)))) ∙ e))

pub none_there : (draft : Draft) → has_master draft ≡ false → draft.rows ≡ []
none_there draft is = no_rows draft.rows is

-- without files there are no PINs
pub no_pins : (draft : Draft) → IsGood draft → draft.rows ≡ [] → draft.pins ≡ []
no_pins draft good none = ⊎_elim
    (λ empty. empty.pins)
    (λ system. absurd (let tree : AreTree [] = subst
    (λ (rows : List FileRow). AreTree (heads_of rows)) none system.files.tree in tree))
    good.valid.system

-- what is taken of the quota
pub bytes_used : (draft : Draft) → IsGood draft → 65536 - draft.left ≡ use_of draft.rows
bytes_used draft good = omega (arith, good.left)

-- the head of a new file fits
pub head_fits : (draft : Draft) (directory : List ℕ) (fcp : Fcp) (head : FileHead) → IsGood draft
    → HoldsFilesAt draft.rows directory
    → head_made draft directory fcp ≡ Ok head → Fits (content_of_draft draft) (FileAdd head)
head_fits draft directory fcp head good there e =
    let used : in_use_now draft directory fcp ≡ in_use draft.rows directory fcp =
    ap (λ (n : ℕ). let u : InUse = record (in_use draft.rows directory fcp) { bytes = n } in u)
    (bytes_used draft good) in
    made_fits (content_of_draft draft) directory fcp good.valid there head
    (ap (λ (u : InUse). created_with u directory fcp) (sym used) ∙ made_is
    (created_with (in_use_now draft directory fcp) directory fcp) head e)

pub new_there : (rows : List FileRow) (head : FileHead) → holds_files head.kind ≡ true
    → HoldsFilesAt (rows ++ new_file head ∷ []) head.path
new_there rows head is =
    let P : FileRow → Type 0 = λ row. IsTrue (holds_files row.head.kind) ×
    (row.head.path ≡ head.path) in
    any_right P rows (new_file head ∷ []) (any_first P (new_file head) [] (is, refl))

pub old_there : (rows : List FileRow) (head : FileHead) (directory : List ℕ)
    → HoldsFilesAt rows directory → HoldsFilesAt (rows ++ new_file head ∷ []) directory
old_there rows head directory there =
    any_left (λ (row : FileRow). IsTrue (holds_files row.head.kind) × (row.head.path ≡ directory))
    rows (new_file head ∷ []) there

-- one file more
pub goes_with : (draft : Draft) (head : FileHead) → IsGood draft
    → IsValid (content_of_draft (with_new_file draft head)) → Goes draft (with_new_file draft head)
goes_with draft head good valid = record {
  good = record {
    valid = valid;
    left = omega (arith, good.left, valid.quota, use_more head draft.rows);
    home = home_now (holds_files head.kind) refl;
    numbers = good.numbers;
    puks = good.puks;
  };
  keeps = λ directory there. old_there draft.rows head directory there;
  usim = refl;
}
  where
    home_now : (b : Bool) → holds_files head.kind ≡ b
        → IsThere (draft.rows ++ new_file head ∷ []) (cond b head.path draft.home)
    home_now true e = inr (new_there draft.rows head e)
    home_now false e = ⊎_elim (λ none. inl none)
        (λ at. inr (old_there draft.rows head draft.home at)) good.home

-- one file in the place of another with the same head and as long a body
module _ (row new : FileRow) (same : new.head ≡ row.head)
    (long : length new.body ≡ length row.body) where
  set_heads : (rows : List FileRow) (i : ℕ) → slice_get rows i ≡ Some row
      → heads_of (slice_set rows i new) ≡ heads_of rows
  set_heads [] i e = absurd (cc)
  set_heads (r ∷ rows) zero e =
      let is : r ≡ row = cc in
      ap (λ (h : FileHead). h ∷ heads_of rows) (same ∙ ap (λ (r : FileRow). r.head) (sym is))
  set_heads (r ∷ rows) (suc i) e = ap (λ (hs : List FileHead). r.head ∷ hs) (set_heads rows i e)

  set_use : (rows : List FileRow) (i : ℕ) → slice_get rows i ≡ Some row
      → use_of (slice_set rows i new) ≡ use_of rows
  set_use [] i e = absurd (cc)
  set_use (r ∷ rows) zero e =
      let is : r ≡ row = cc in
      omega (
        arith,
        sum_by-cons (λ (row : FileRow). length row.body + 32) new rows,
        sum_by-cons
            (λ (row : FileRow). length row.body + 32) r rows,
        long,
        ap
            (λ (r : FileRow). length r.body) is,
      )
  set_use (r ∷ rows) (suc i) e =
      omega (
        arith,
        sum_by-cons (λ (row : FileRow). length row.body + 32) r (slice_set rows i new),
        sum_by-cons (λ (row : FileRow). length row.body + 32) r rows,
        set_use rows i e,
      )

  set_bodies : (rows : List FileRow) (i : ℕ) → slice_get rows i ≡ Some row
      → AllByRecursion (λ (r : FileRow). length r.body ≡ r.head.size) rows
      → AllByRecursion (λ (r : FileRow). length r.body ≡ r.head.size) (slice_set rows i new)
  set_bodies [] i e each = absurd (cc)
  set_bodies (r ∷ rows) zero e each =
      let is : r ≡ row = cc in (
        long ∙ ap (λ (r : FileRow). length r.body) (sym is) ∙ each.0 ∙ ap
            (λ (r : FileRow). r.head.size) is ∙ ap (λ (h : FileHead). h.size) (sym same),
        each.1,
      )
  set_bodies (r ∷ rows) (suc i) e each = (each.0, set_bodies rows i e each.1)

  set_there : (rows : List FileRow) (i : ℕ) (directory : List ℕ) → slice_get rows i ≡ Some row
      → HoldsFilesAt rows directory → HoldsFilesAt (slice_set rows i new) directory
  set_there rows i directory e there =
      let P : FileHead → Type 0 = λ head. IsTrue (holds_files head.kind) × (head.path ≡ directory)
      in
      map_of_any (λ (r : FileRow). r.head) P (slice_set rows i new)
      (subst (Any P) (sym (set_heads rows i e)) (any_of_map (λ (r : FileRow). r.head) P rows there))

  set_system : (rows : List FileRow) (pins : List PinRow) (i : ℕ) → slice_get rows i ≡ Some row
      → IsFileSystem (record { rows = rows; pins = pins })
      → IsFileSystem (record { rows = slice_set rows i new; pins = pins })
  set_system rows pins i e system =
      let heads = sym (set_heads rows i e) in
      record {
        files = record {
          tree = subst AreTree heads system.files.tree;
          each = subst (AllByRecursion IsFile) heads system.files.each;
          bodies = set_bodies rows i e system.files.bodies;
          paths = subst (EachTwo (λ (one other : FileHead). one.path ≡ other.path → ⊥)) heads
              system.files.paths;
          sfis = subst (EachTwo (λ (one other : FileHead). ShareSfi one other → ⊥)) heads
              system.files.sfis;
          names = subst (EachTwo (λ (one other : FileHead). ShareName one other → ⊥)) heads
              system.files.names;
        };
        pins = subst (λ (hs : List FileHead). ArePins hs pins) heads system.pins;
      }

-- a file of the draft with other bytes
set_goes : (draft : Draft) (i : ℕ) (row new : FileRow) → new.head ≡ row.head
    → length new.body ≡ length row.body → slice_get draft.rows i ≡ Some row
    → IsGood draft → Goes draft (record draft { rows = slice_set draft.rows i new })
set_goes draft i row new same long e good = record {
  good = record {
    valid = record {
      quota = omega (arith, good.valid.quota, used);
      few_pins = good.valid.few_pins;
      system = ⊎_elim
          (λ empty. absurd (let none : None ≡ Some row = sym
          (ap (λ (rows : List FileRow). slice_get rows i) empty.rows) ∙ e in cc))
          (λ system. inr (set_system row new same long draft.rows draft.pins i e system))
          good.valid.system;
    };
    left = omega (arith, good.left, used);
    home = ⊎_elim (λ none. inl none)
        (λ at. inr (set_there row new same long draft.rows i draft.home e at)) good.home;
    numbers = good.numbers;
    puks = good.puks;
  };
  keeps = λ directory there. set_there row new same long draft.rows i directory e there;
  usim = refl;
}
  where
    used : use_of (slice_set draft.rows i new) ≡ use_of draft.rows
    used = set_use row new same long draft.rows i e

-- content goes into a file
pub fill_goes : (draft : Draft) (file : OpenFile) (bytes : List ℕ) (done : Filled) → IsGood draft
    → filled draft file bytes ≡ Ok done → Goes draft done.draft
fill_goes draft file bytes done good e =
    if_ok (length bytes == 0) (Ok (record { draft = draft; file = file }))
    (content_in draft file bytes (slice_get draft.rows file.index)) done e
    (λ none is. subst (λ (d : Filled). Goes draft d.draft)
    (ok_is (record { draft = draft; file = file }) done is) (goes_nowhere draft good))
    (λ some is. of_row (slice_get draft.rows file.index) refl is)
  where
    of_row : (o : Option FileRow) → slice_get draft.rows file.index ≡ o
        → content_in draft file bytes o ≡ Ok done → Goes draft done.draft
    of_row None at is = absurd (not_ok BadParameter done is)
    of_row (Some row) at is =
        let now : Filled = record {
          draft = record draft {
            rows = slice_set draft.rows file.index
                (with_body (written file.place bytes) row);
          };
          file = record file { place = file.place + length bytes };
        } in
        if_ok (nat_le (file.place + length bytes) (length row.body)) (Ok now) (Err BadParameter)
        done is
        (λ inside made. subst (λ (d : Filled). Goes draft d.draft) (ok_is now done made)
        (set_goes draft file.index row (with_body (written file.place bytes) row) refl
        (length-written file.place bytes row.body
        (le_of (file.place + length bytes) (length row.body) inside)) at good))
        (λ past made. absurd (not_ok BadParameter done made))
