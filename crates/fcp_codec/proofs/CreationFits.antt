-- A new file's head fits just where the parameters make it.
use Rattle.std.proofs.Common.{◌≡◌, ◌≢◌, ◌⊎◌, ℕ, ◌+◌, ◌≤◌, Bool, true, false, not, cond, ◌&&◌, ◌==◌}
use Rattle.std.proofs.Common.{List, [], ◌∷◌, ◌++◌, length, find, refl, sym, ◌∙◌, ap, subst, inl}
use Rattle.std.proofs.Common.{inr, ⊎_elim, Option, Some, None, Ok, Err, arith}
use Rattle.std.specs.Prelude.{nat_le, is_some, unwrap_or}
use Rattle.std.specs.Bool.{IsTrue}
use Rattle.std.specs.List.{AllByRecursion}
use Rattle.std.specs.Str.{bytes_eq}
use Rattle.std.proofs.lemmas.Bool.{true≢false}
use Rattle.std.proofs.lemmas.Bool.Decides.{Decides-eqb, nat_tests}
use Rattle.std.proofs.lemmas.List.{length-append}
use Rattle.std.proofs.lemmas.Slice.Eq.{bytes_eq-Decides}
use Rattle.file_rows.specs.Apart.{AreFilesApart}
use Rattle.file_rows.specs.Change.{Fits}
use Rattle.file_rows.specs.Conditions.{IsNewFile}
use Rattle.file_rows.specs.Content.{AreFiles, IsValid, file_at, use_of}
use Rattle.file_rows.specs.FileHead.{HasForm, Holds, IsFile, ShareName, ShareSfi, holds_files}
use Rattle.file_rows.specs.FileHead.{is_application}
use Rattle.file_rows.specs.Path.{IsIn, is_in, same_path}
use Rattle.file_rows.specs.declared.change.Change.TheVariants.{FileAdd}
use Rattle.file_rows.specs.declared.content.Content.{Content}
use Rattle.file_rows.specs.declared.head.FileHead.{FileHead}
use Rattle.file_rows.specs.declared.head.Kind.{Kind}
use Rattle.file_rows.specs.declared.head.Kind.TheVariants.{Master, Directory as DirectoryKind}
use Rattle.file_rows.specs.declared.head.Kind.TheVariants.{Application}
use Rattle.file_rows.specs.declared.head.Kind.TheVariants.{Transparent as TransparentKind}
use Rattle.file_rows.specs.declared.head.Kind.TheVariants.{Linear as LinearKind}
use Rattle.file_rows.specs.declared.head.Kind.TheVariants.{Cyclic as CyclicKind}
use Rattle.file_rows.specs.declared.row.FileRow.{FileRow}
use Rattle.file_rows.proofs.ConditionLemmas.{fits_where}
use Rattle.file_rows.proofs.EachLemmas.{each_both, each_of_map, each_weaker}
use Rattle.file_rows.proofs.FormLemmas.{directory_is}
use Rattle.file_rows.proofs.ListLemmas.{any_none, any_weaker}
use Rattle.file_rows.proofs.PathLemmas.{is_in-is}
use Rattle.fcp_codec.specs.Creation.{HoldsFilesAt, created, created_as, described_by, ef_sfi}
use Rattle.fcp_codec.specs.Creation.{head_told, in_use, is_good, is_id_reserved, is_name_of}
use Rattle.fcp_codec.specs.Creation.{is_sfi_of, is_size_of, kind_for, sfi_meant}
use Rattle.fcp_codec.specs.declared.creation.CreationFault.{CreationFault}
use Rattle.fcp_codec.specs.declared.creation.CreationFault.TheVariants.{BadParameters}
use Rattle.fcp_codec.specs.declared.creation.Described.{Described}
use Rattle.fcp_codec.specs.declared.creation.InUse.{InUse}
use Rattle.fcp_codec.specs.declared.fcp.Fcp.{Fcp}
use Rattle.fcp_codec.specs.declared.fcp.FileForm.{FileForm}
use Rattle.fcp_codec.specs.declared.fcp.FileForm.TheVariants.{Directory, Transparent, Linear}
use Rattle.fcp_codec.specs.declared.fcp.FileForm.TheVariants.{Cyclic}
use Rattle.fcp_codec.proofs.CreationLemmas.{described_id, form_is, found_passes, made_is}
use Rattle.fcp_codec.proofs.CreationLemmas.{none_passes, refused_is, sfi_is, two_hold, le_of}

not_master : (form : FileForm) (named : Bool) → kind_for form named ≢ Master
not_master Directory true e = cc
not_master Directory false e = cc
not_master Transparent named e = cc
not_master (Linear len) named e = cc
not_master (Cyclic len) named e = cc

-- a file with a name is an application
named_application : (kind : Kind) (head : FileHead) → HasForm kind head → head.name ≢ [] → is_application kind ≡ true
named_application Master head form named = absurd (named form.name)
named_application DirectoryKind head form named = absurd (named form.name)
named_application Application head form named = refl
named_application TransparentKind head form named = absurd (named form.name)
named_application LinearKind head form named = absurd (named form.name)
named_application CyclicKind head form named = absurd (named form.name)

application_named : (kind : Kind) (head : FileHead) → HasForm kind head → is_application kind ≡ true → head.name ≢ []
application_named Application head form is e = omega (arith, form.shortest, ap length e)
application_named Master head form is e = absurd (true≢false (sym is))
application_named DirectoryKind head form is e = absurd (true≢false (sym is))
application_named TransparentKind head form is e = absurd (true≢false (sym is))
application_named LinearKind head form is e = absurd (true≢false (sym is))
application_named CyclicKind head form is e = absurd (true≢false (sym is))

each_one : {X : Type 0} (P : X → Type 0) → ((x : X) → P x) → (xs : List X) → AllByRecursion P xs
each_one P each [] = tt
each_one P each (x ∷ xs) = (each x, each_one P each xs)

le_is : (a b : ℕ) → a ≤ b → nat_le a b ≡ true
le_is a b h = grind (arith, nat_tests)

-- where a directory stands, there are files
files_of : (content : Content) (directory : List ℕ) → IsValid content → HoldsFilesAt content.rows directory → AreFiles content.rows
files_of content directory valid there = ⊎_elim
    (λ empty. absurd (any_none _ (subst (λ (rows : List FileRow). HoldsFilesAt rows directory) empty.rows there)))
    (λ system. system.files)
    valid.system

each_file : (rows : List FileRow) → AreFiles rows → AllByRecursion (λ (row : FileRow). IsFile row.head) rows
each_file rows files = (each_of_map (λ (row : FileRow). row.head) IsFile rows).1 files.each

module _ (content : Content) (directory : List ℕ) (fcp : Fcp) (told : Described) (valid : IsValid content) (there : HoldsFilesAt content.rows directory) where
  abbrev rows : List FileRow
  rows = content.rows

  abbrev used : InUse
  used = in_use rows directory fcp

  abbrev head : FileHead
  head = head_told used directory fcp told

  abbrev id_test : FileRow → Bool
  id_test row = same_path row.head.path head.path

  abbrev sfi_test : ℕ → FileRow → Bool
  sfi_test sfi row = is_in directory row.head.path && (row.head.sfi == sfi)

  abbrev name_test : FileRow → Bool
  name_test row = is_application row.head.kind && bytes_eq row.head.name head.name

  path_apart : (row : FileRow) → id_test row ≡ false → row.head.path ≢ head.path
  path_apart row fails e = true≢false (sym ((bytes_eq-Decides row.head.path head.path).1 e) ∙ fails)

  name_apart : (row : FileRow) → IsFile row.head → name_test row ≡ false → ShareName row.head head → ⊥
  name_apart row file fails share =
      let application = named_application row.head.kind row.head file.form share.given in
      let same = (bytes_eq-Decides row.head.name head.name).1 share.same in
      true≢false (sym (rw (application, same) refl) ∙ fails)

  sfi_apart : (row : FileRow) → (head.sfi ≡ 0) ⊎ (sfi_test head.sfi row ≡ false) → ShareSfi row.head head → ⊥
  sfi_apart row either share = ⊎_elim
      (λ none. share.given (share.same ∙ none))
      (λ fails.
      let at : share.directory.0 ≡ directory = sym (directory_is share.directory.0 head.path share.directory.2) ∙ directory_is directory head.path (told.id, refl) in
      let inside = (is_in-is directory row.head.path).1 (subst (λ (d : List ℕ). IsIn d row.head.path) at share.directory.1) in
      let same = (Decides-eqb row.head.sfi head.sfi).1 share.same in
      true≢false (sym (rw (inside, same) refl) ∙ fails))
      either

  -- the SFI is none, or no file of the directory has it
  sfi_free : is_sfi_of used told.form fcp.sfi ≡ true → AllByRecursion (λ (row : FileRow). (head.sfi ≡ 0) ⊎ (sfi_test head.sfi row ≡ false)) rows
  sfi_free good = ⊎_elim
      (λ none. each_one (λ (row : FileRow). (head.sfi ≡ 0) ⊎ (sfi_test head.sfi row ≡ false)) (λ row. inl none) rows)
      (λ free.
      let step : (b : Bool) → (sfi_meant fcp == 0) ≡ b → is_some (cond b None (find (sfi_test (sfi_meant fcp)) rows)) ≡ false
      → AllByRecursion (λ (row : FileRow). (sfi_meant fcp ≡ 0) ⊎ (sfi_test (sfi_meant fcp) row ≡ false)) rows
      = λ b. elim b as (λ b. (sfi_meant fcp == 0) ≡ b → is_some (cond b None (find (sfi_test (sfi_meant fcp)) rows)) ≡ false
      → AllByRecursion (λ (row : FileRow). (sfi_meant fcp ≡ 0) ⊎ (sfi_test (sfi_meant fcp) row ≡ false)) rows) [
        | true ↦ λ zero f. each_one (λ (row : FileRow). (sfi_meant fcp ≡ 0) ⊎ (sfi_test (sfi_meant fcp) row ≡ false)) (λ row. inl ((Decides-eqb (sfi_meant fcp) 0).0 zero)) rows
        | false ↦ λ given f. each_weaker (λ (row : FileRow). sfi_test (sfi_meant fcp) row ≡ false) (λ row. (sfi_meant fcp ≡ 0) ⊎ (sfi_test (sfi_meant fcp) row ≡ false))
            (λ row fails. inr fails) rows (none_passes (sfi_test (sfi_meant fcp)) rows f)
      ]
      in subst (λ (sfi : ℕ). AllByRecursion (λ (row : FileRow). (sfi ≡ 0) ⊎ (sfi_test sfi row ≡ false)) rows) (sym free.1) (step (sfi_meant fcp == 0) refl free.0))
      (sfi_is told.form used.sfi fcp.sfi (unwrap_or fcp.id 0) good).1

  -- no file has the identifier in the directory, the SFI there or the name
  apart : is_sfi_of used told.form fcp.sfi ≡ true → used.id ≡ false → used.name ≡ false → fcp.id ≡ Some told.id
      → AllByRecursion (λ row. AreFilesApart row.head head) rows
  apart good id name given =
      let ids : is_some (file_at head.path rows) ≡ false = sym (ap (λ (o : Option ℕ). is_some (file_at (directory ++ unwrap_or o 0 ∷ []) rows)) given) ∙ id in
      each_weaker
      (λ (row : FileRow). ((id_test row ≡ false) × ((head.sfi ≡ 0) ⊎ (sfi_test head.sfi row ≡ false))) × ((name_test row ≡ false) × IsFile row.head))
      (λ row. AreFilesApart row.head head)
      (λ row parts. record { path = path_apart row parts.0.0; sfi = sfi_apart row parts.0.1; name = name_apart row parts.1.1 parts.1.0 })
      rows
      (each_both (λ (row : FileRow). (id_test row ≡ false) × ((head.sfi ≡ 0) ⊎ (sfi_test head.sfi row ≡ false))) (λ row. (name_test row ≡ false) × IsFile row.head) rows
      (each_both (λ (row : FileRow). id_test row ≡ false) (λ row. (head.sfi ≡ 0) ⊎ (sfi_test head.sfi row ≡ false)) rows (none_passes id_test rows ids) (sfi_free good))
      (each_both (λ (row : FileRow). name_test row ≡ false) (λ row. IsFile row.head) rows (none_passes name_test rows name) (each_file rows (files_of content directory valid there))))

  form : is_name_of told.form directory fcp.name ≡ true → is_size_of told.form told.size ≡ true → is_sfi_of used told.form fcp.sfi ≡ true
      → HasForm head.kind head
  form named sized good =
      form_is told.form fcp.name directory told.id told.size head.sfi head.life head.rule named sized
      (λ is. ap (λ (b : Bool). cond b 0 (ef_sfi used fcp)) is) (sfi_is told.form used.sfi fcp.sfi (unwrap_or fcp.id 0) good).0

  pub fits : is_good used directory fcp told ≡ true → used.id ≡ false → used.name ≡ false → nat_le (used.bytes + (told.size + 32)) 65536 ≡ true
      → fcp.id ≡ Some told.id → IsNewFile rows head
  fits good id name room given =
      let reserved = not (is_id_reserved told.id) in
      let named = is_name_of told.form directory fcp.name in
      let sized = is_size_of told.form told.size in
      let a = two_hold (reserved && nat_le (length directory) 3 && named && sized) (is_sfi_of used told.form fcp.sfi) good in
      let b = two_hold (reserved && nat_le (length directory) 3 && named) sized a.0 in
      let c = two_hold (reserved && nat_le (length directory) 3) named b.0 in
      let d = two_hold reserved (nat_le (length directory) 3) c.0 in
      record {
        form = record {
          depth = omega (arith, length-append directory (told.id ∷ []), le_of (length directory) 3 d.1);
          form = form c.1 b.1 a.1;
        };
        below = not_master told.form (is_some fcp.name);
        directory = any_weaker (λ (row : FileRow). IsTrue (holds_files row.head.kind) × (row.head.path ≡ directory)) (λ row. Holds row.head head)
            (λ row at. record { kind = at.0; path = (told.id, ap (λ (p : List ℕ). p ++ told.id ∷ []) (sym at.1)) }) rows there;
        apart = apart a.1 id name given;
        quota = le_of (use_of rows + (told.size + 32)) 65536 room;
      }

  -- what is in use can't be added again
  pub fits_not : (used.id ≡ true) ⊎ ((used.name ≡ true) ⊎ (nat_le (used.bytes + (told.size + 32)) 65536 ≡ false)) → fcp.id ≡ Some told.id → IsNewFile rows head → ⊥
  fits_not either given new = ⊎_elim
      (λ id.
      let ids : is_some (file_at head.path rows) ≡ true = sym (ap (λ (o : Option ℕ). is_some (file_at (directory ++ unwrap_or o 0 ∷ []) rows)) given) ∙ id in
      let found = found_passes (λ (row : FileRow). AreFilesApart row.head head) id_test rows new.apart ids in
      found.1.path ((bytes_eq-Decides found.0.head.path head.path).0 found.2))
      (λ others. ⊎_elim
      (λ name.
      let found = found_passes (λ (row : FileRow). AreFilesApart row.head head × IsFile row.head) name_test rows
      (each_both (λ (row : FileRow). AreFilesApart row.head head) (λ row. IsFile row.head) rows new.apart (each_file rows (files_of content directory valid there))) name in
      let both = two_hold (is_application found.0.head.kind) (bytes_eq found.0.head.name head.name) found.2 in
      found.1.0.name (record {
        given = application_named found.0.head.kind found.0.head found.1.1.form both.0;
        same = (bytes_eq-Decides found.0.head.name head.name).0 both.1;
      }))
      (λ full. true≢false (sym (le_is (use_of rows + (told.size + 32)) 65536 new.quota) ∙ full))
      others)
      either

module _ (content : Content) (directory : List ℕ) (fcp : Fcp) (valid : IsValid content) (there : HoldsFilesAt content.rows directory) where
  abbrev in_rows : InUse
  in_rows = in_use content.rows directory fcp

  made_as : (head : FileHead) (told : Option Described) → described_by fcp ≡ told → created_as in_rows directory fcp told ≡ Ok head → Fits content (FileAdd head)
  made_as head None is e = absurd (cc)
  made_as head (Some told) is e =
      let parts = made_is (is_good in_rows directory fcp told) in_rows.id in_rows.name (nat_le (in_rows.bytes + (told.size + 32)) 65536) (head_told in_rows directory fcp told) head e in
      let new = fits content directory fcp told valid there parts.0 parts.1 parts.2 parts.3 (described_id fcp told is) in
      subst (λ (h : FileHead). Fits content (FileAdd h)) parts.4 ((fits_where content (FileAdd (head_told in_rows directory fcp told)) valid).1 new)

  -- what is made may be added
  pub made_fits : (head : FileHead) → created content.rows directory fcp ≡ Ok head → Fits content (FileAdd head)
  made_fits head e = made_as head (described_by fcp) refl e

  -- and what is refused for what is in use may not
  pub refused_not : (told : Described) (fault : CreationFault) → described_by fcp ≡ Some told → created content.rows directory fcp ≡ Err fault → fault ≢ BadParameters
      → Fits content (FileAdd (head_told in_rows directory fcp told)) → ⊥
  refused_not told fault is e other new =
      let refused : created_as in_rows directory fcp (Some told) ≡ Err fault = ap (created_as in_rows directory fcp) (sym is) ∙ e in
      fits_not content directory fcp told valid there
      (refused_is (is_good in_rows directory fcp told) in_rows.id in_rows.name (nat_le (in_rows.bytes + (told.size + 32)) 65536) (head_told in_rows directory fcp told) fault refused other)
      (described_id fcp told is) ((fits_where content (FileAdd (head_told in_rows directory fcp told)) valid).0 new)
