-- The steps of a file management element keep a draft good, and stand at a directory that is there.
use Rattle.std.proofs.Common.{◌≡◌, ℕ, zero, suc, Bool, true, false, cond, ◌==◌, List, [], ◌∷◌, ◌++◌}
use Rattle.std.proofs.Common.{refl, sym, ◌∙◌, ap, subst, inr, ⊎_elim, append_assoc, Option, Some}
use Rattle.std.proofs.Common.{None, Result, Ok, Err, position, slice_get}
use Rattle.std.specs.Prelude.{unwrap_or}
use Rattle.std.specs.Bool.{IsTrue}
use Rattle.std.specs.List.{Any}
use Rattle.std.specs.Option.{option_map}
use Rattle.std.proofs.lemmas.Bool.{true≢false}
use Rattle.std.proofs.lemmas.List.Quantifiers.{position-Some}
use Rattle.std.proofs.lemmas.Option.{get_or_from_slice_get, slice_get-map}
use Rattle.std.proofs.lemmas.Slice.Eq.{bytes_eq-Decides}
use Rattle.file_rows.specs.Content.{AreFiles, StandInEarlier, heads_of}
use Rattle.file_rows.specs.FileHead.{Holds, holds_files}
use Rattle.file_rows.specs.Path.{parent_of, same_path}
use Rattle.file_rows.specs.declared.head.FileHead.{FileHead}
use Rattle.file_rows.specs.declared.row.FileRow.{FileRow}
use Rattle.file_rows.proofs.ListLemmas.{any_first, any_left, any_later, any_weaker, map_of_any}
use Rattle.file_rows.proofs.PathLemmas.{parent_is}
use Rattle.fcp_codec.specs.Creation.{HoldsFilesAt}
use Rattle.fcp_codec.specs.declared.fcp.Fcp.{Fcp}
use Rattle.profile_install.specs.Draft.{filled, head_made, last_file, skip_count, skipped}
use Rattle.profile_install.specs.Draft.{with_new_file}
use Rattle.profile_install.specs.ElementResult.{then_with}
use Rattle.profile_install.specs.Management.{at_new, with_content_step, gone_to, in_file}
use Rattle.profile_install.specs.Management.{path_below_master, selected, skip_at}
use Rattle.profile_install.specs.Management.{standing_at_place, standing_at_row, with_file_made}
use Rattle.profile_install.specs.Management.{with_step}
use Rattle.profile_install.specs.declared.draft.Draft.{Draft}
use Rattle.profile_install.specs.declared.draft.Filled.{Filled}
use Rattle.profile_install.specs.declared.draft.OpenFile.{OpenFile}
use Rattle.profile_install.specs.declared.fault.ElementFault.{ElementFault}
use Rattle.profile_install.specs.declared.fault.ElementFault.TheVariants.{Malformed, BadParameter}
use Rattle.profile_install.specs.declared.management.Managed.{Managed}
use Rattle.profile_install.specs.declared.management.Standing.{Standing}
use Rattle.profile_install.proofs.GoodDraft.{Goes, IsGood, IsThere, fill_goes, goes_nowhere}
use Rattle.profile_install.proofs.GoodDraft.{goes_with, head_fits, new_there, stays_there}
use Rattle.profile_install.proofs.Oks.{if_ok, not_ok, ok_is, then_ok}

-- each file below the MF stands in a directory that is there
stand_of : (earlier heads : List FileHead) (i : ℕ) (head : FileHead) → StandInEarlier earlier heads
    → slice_get heads i ≡ Some head → Any (λ directory. Holds directory head) (earlier ++ heads)
stand_of earlier [] i head stand e = absurd (cc)
stand_of earlier (h ∷ heads) zero head stand e =
    let same : h ≡ head = cc in
    any_left (λ directory. Holds directory head) earlier (h ∷ heads)
    (subst (λ (f : FileHead). Any (λ directory. Holds directory f) earlier) same stand.0)
stand_of earlier (h ∷ heads) (suc i) head stand e =
    subst (Any (λ directory. Holds directory head)) (append_assoc earlier (h ∷ []) heads)
    (stand_of (earlier ++ h ∷ []) heads i head stand.1 e)

parent_there : (rows : List FileRow) (i : ℕ) (row : FileRow) → AreFiles rows
    → slice_get rows i ≡ Some row → holds_files row.head.kind ≡ false
    → HoldsFilesAt rows (unwrap_or (parent_of row.head.path) [])
parent_there [] i row files e ef = absurd (cc)
parent_there (first ∷ rows) zero row files e ef =
    let same : first ≡ row = cc in
    absurd (true≢false (sym (ap holds_files
    (ap (λ (r : FileRow). r.head.kind) (sym same) ∙ files.tree.0)) ∙ ef))
parent_there (first ∷ rows) (suc i) row files e ef =
    let at : slice_get (heads_of rows) i ≡ Some row.head = slice_get-map (λ (r : FileRow). r.head)
    rows i ∙ ap (option_map (λ (r : FileRow). r.head)) e in
    let held = stand_of (first.head ∷ []) (heads_of rows) i row.head files.tree.2 at in
    map_of_any (λ (r : FileRow). r.head)
    (λ (head : FileHead). IsTrue (holds_files head.kind) ×
    (head.path ≡ unwrap_or (parent_of row.head.path) [])) (first ∷ rows)
    (any_weaker (λ (directory : FileHead). Holds directory row.head)
    (λ head. IsTrue (holds_files head.kind) ×
    (head.path ≡ unwrap_or (parent_of row.head.path) []))
    (λ directory holds. (
      holds.kind,
      sym
          (ap (λ (o : Option (List ℕ)). unwrap_or o [])
          ((parent_is directory.path row.head.path).1 holds.path)),
    ))
    (heads_of (first ∷ rows)) held)

row_there : (rows : List FileRow) (i : ℕ) (row : FileRow) → slice_get rows i ≡ Some row
    → holds_files row.head.kind ≡ true → HoldsFilesAt rows row.head.path
row_there [] i row e holds = absurd (cc)
row_there (first ∷ rows) zero row e holds =
    let same : first ≡ row = cc in
    any_first (λ (r : FileRow). IsTrue (holds_files r.head.kind) × (r.head.path ≡ row.head.path))
    first rows (
      ap (λ (r : FileRow). holds_files r.head.kind) same ∙ holds,
      ap (λ (r : FileRow). r.head.path)
          same,
    )
row_there (first ∷ rows) (suc i) row e holds =
    any_later (λ (r : FileRow). IsTrue (holds_files r.head.kind) × (r.head.path ≡ row.head.path))
    first rows (row_there rows i row e holds)

-- where there is a file, there is a file system
files_are : (draft : Draft) (i : ℕ) (row : FileRow) → IsGood draft
    → slice_get draft.rows i ≡ Some row → AreFiles draft.rows
files_are draft i row good e = ⊎_elim
    (λ empty. absurd (let none : None ≡ Some row = sym
    (ap (λ (rows : List FileRow). slice_get rows i) empty.rows) ∙ e in cc))
    (λ system. system.files)
    good.valid.system

abbrev at_path : List ℕ → FileRow → Bool
at_path path row = same_path row.head.path path

-- `80` goes to a directory that is there, or to the directory of an EF
gone_there : (draft : Draft) (path : List ℕ) (standing : Standing) → IsGood draft
    → gone_to draft.rows path ≡ Ok standing → HoldsFilesAt draft.rows standing.directory
gone_there draft path standing good e = by_place (position (at_path path) draft.rows) refl e
  where
    of_row : (i : ℕ) (row : FileRow) → slice_get draft.rows i ≡ Some row → row.head.path ≡ path
        → standing_at_row path i (Some row) ≡ Ok standing
        → HoldsFilesAt draft.rows standing.directory
    of_row i row at is e =
        if_ok (holds_files row.head.kind) (Ok (record { directory = path; file = None }))
        (Ok (record {
          directory = unwrap_or (parent_of path) [];
          file = Some
              (record { index = i; place = 0 });
        })) standing e
        (λ holds yes. subst (λ (s : Standing). HoldsFilesAt draft.rows s.directory)
        (ok_is (record { directory = path; file = None }) standing yes)
        (subst (HoldsFilesAt draft.rows) is (row_there draft.rows i row at holds)))
        (λ ef yes. subst (λ (s : Standing). HoldsFilesAt draft.rows s.directory)
        (ok_is (record {
          directory = unwrap_or (parent_of path) [];
          file = Some
              (record { index = i; place = 0 });
        }) standing yes)
        (subst (λ (p : List ℕ). HoldsFilesAt draft.rows (unwrap_or (parent_of p) [])) is
        (parent_there draft.rows i row (files_are draft i row good at) at ef)))

    by_row : (i : ℕ) (o : Option FileRow) → slice_get draft.rows i ≡ o
        → position (at_path path) draft.rows ≡ Some i → standing_at_row path i o ≡ Ok standing
        → HoldsFilesAt draft.rows standing.directory
    by_row i None at found e = absurd (not_ok BadParameter standing e)
    by_row i (Some row) at found e =
        let passes = (position-Some (at_path path) draft.rows i row found).1 in
        let is : row.head.path ≡ path = (bytes_eq-Decides row.head.path path).0
        (sym (ap (at_path path) (get_or_from_slice_get draft.rows i row row at)) ∙ passes) in
        of_row i row at is e

    by_place : (o : Option ℕ) → position (at_path path) draft.rows ≡ o
        → standing_at_place draft.rows path o ≡ Ok standing
        → HoldsFilesAt draft.rows standing.directory
    by_place None found e = absurd (not_ok BadParameter standing e)
    by_place (Some i) found e = by_row i (slice_get draft.rows i) refl found e

-- a good draft after a step, and where the next step stands
pub record StepGoes (draft : Draft) (done : Managed) : Type 0 where
  pub goes : Goes draft done.draft
  pub standing : IsThere done.draft.rows done.standing.directory

-- a new file
pub file_goes : (draft : Draft) (directory : List ℕ) (given : Option Fcp) (done : Managed)
    → IsGood draft → HoldsFilesAt draft.rows directory
    → with_file_made draft directory given ≡ Ok done → StepGoes draft done
file_goes draft directory None done good there e = absurd (not_ok BadParameter done e)
file_goes draft directory (Some fcp) done good there e =
    let made = then_ok (λ (head : FileHead). let r : Result Managed ElementFault = Ok
    (at_new (with_new_file draft head) directory head) in r) (head_made draft directory fcp)
    done e in
    let goes = goes_with draft made.0 good
    (head_fits draft directory fcp made.0 good there made.1).after in
    subst (λ (m : Managed). StepGoes draft m)
    (ok_is (at_new (with_new_file draft made.0) directory made.0) done made.2)
    (by_kind made.0 (holds_files made.0.kind) refl goes)
  where
    by_kind : (head : FileHead) (b : Bool) → holds_files head.kind ≡ b
        → Goes draft (with_new_file draft head)
        → StepGoes draft (cond b (record {
          draft = with_new_file draft head;
          standing = record
              { directory = head.path; file = None };
        })
        (record {
          draft = with_new_file draft head;
          standing = record
              { directory = directory; file = Some (last_file (with_new_file draft head)) };
        }))
    by_kind head true is goes = record
        { goes = goes; standing = inr (new_there draft.rows head is) }
    by_kind head false is goes = record { goes = goes; standing = inr (goes.keeps directory there) }

module _ (draft : Draft) (standing : Standing) (done : Managed) (good : IsGood draft)
    (there : IsThere draft.rows standing.directory) where
  content_goes : (value : List ℕ) (file : Option OpenFile)
      → with_content_step draft standing value file ≡ Ok done → StepGoes draft done
  content_goes value None e = absurd (not_ok BadParameter done e)
  content_goes value (Some file) e =
      let made = then_ok (λ (its : Filled). let r : Result Managed ElementFault = Ok
      (in_file standing its) in r) (filled draft file value) done e in
      let goes = fill_goes draft file value made.0 good made.1 in
      subst (λ (m : Managed). StepGoes draft m) (ok_is (in_file standing made.0) done made.2)
      (record {
        goes = goes;
        standing = stays_there draft made.0.draft standing.directory goes
            there;
      })

  skip_goes : (count : ℕ) (file : Option OpenFile) → skip_at draft standing file count ≡ Ok done
      → StepGoes draft done
  skip_goes count None e = absurd (not_ok BadParameter done e)
  skip_goes count (Some file) e =
      let now : Managed = record
      { draft = draft; standing = record standing { file = Some (skipped file count) } } in
      subst (λ (m : Managed). StepGoes draft m) (ok_is now done e)
      (record { goes = goes_nowhere draft good; standing = there })

  -- a step with a value
  pub step_goes : (tag : ℕ) (value : List ℕ) → with_step draft standing tag value ≡ Ok done
      → StepGoes draft done
  step_goes tag value e =
      let third : Result Managed ElementFault = cond (tag == 0x83)
      (with_content_step draft standing value standing.file) (Err Malformed) in
      let second : Result Managed ElementFault = cond (tag == 0x82)
      (then_with (skip_at draft standing standing.file) (skip_count value)) third in
      if_ok (tag == 0x80) (then_with (λ its. Ok (record { draft = draft; standing = its }))
      (selected draft value)) second done e
      (λ _ is.
      let made = then_ok (λ (its : Standing). let r : Result Managed ElementFault = Ok
      (record { draft = draft; standing = its }) in r) (selected draft value) done is in
      let gone = then_ok (gone_to draft.rows) (path_below_master value) made.0 made.1 in
      let now : Managed = record { draft = draft; standing = made.0 } in
      subst (λ (m : Managed). StepGoes draft m) (ok_is now done made.2)
      (record {
        goes = goes_nowhere draft good;
        standing = inr
            (gone_there draft gone.0 made.0 good gone.2);
      }))
      (λ _ rest. if_ok (tag == 0x82)
      (then_with (skip_at draft standing standing.file) (skip_count value)) third done rest
      (λ _ is.
      let made = then_ok (skip_at draft standing standing.file) (skip_count value) done is in
      skip_goes made.0 standing.file made.2)
      (λ _ last. if_ok (tag == 0x83) (with_content_step draft standing value standing.file)
      (Err Malformed) done last
      (λ _ is. content_goes value standing.file is)
      (λ _ no. absurd (not_ok Malformed done no))))
