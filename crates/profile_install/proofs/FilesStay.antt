-- Files are found by their keys with one more, and after one of them has got content.
use Rattle.std.proofs.Common.{◌≡◌, ℕ, Bool, cond, ◌&&◌, ◌||◌, ◌==◌, List, [], ◌∷◌, ◌++◌, length}
use Rattle.std.proofs.Common.{refl, sym, ◌∙◌, ap, Option, Some, None}
use Rattle.std.specs.Prelude.{find, is_some, position, slice_get, slice_set, IsSomeAnd}
use Rattle.std.specs.BTreeMap.{BTreeMap, get_by}
use Rattle.std.specs.BTreeSet.{BTreeSet, contains_by}
use Rattle.std.specs.Option.{option_or}
use Rattle.std.specs.Str.{bytes_eq}
use Rattle.arrayvec.specs.ArrayVec.{ArrayVec}
use Rattle.file_rows.specs.Change.{with_body, written}
use Rattle.file_rows.specs.FileHead.{is_application}
use Rattle.file_rows.specs.Path.{is_in, same_path}
use Rattle.file_rows.specs.declared.row.FileRow.{FileRow}
use Rattle.profile_install.specs.DraftFiles.{AreFound}
use Rattle.profile_install.specs.FileKeys.{to_name, to_path, to_sfi}
use Rattle.profile_install.specs.declared.draft_files.DraftFiles.TheInside.{Inside}
use Rattle.profile_install.proofs.FilesFound.{found_more, found_set, place_more, place_set}

abbrev at_path : List ℕ → FileRow → Bool
at_path path row = same_path row.head.path path

abbrev at_sfi : List ℕ → ℕ → FileRow → Bool
at_sfi directory sfi row = is_in directory row.head.path && (row.head.sfi == sfi)

abbrev at_name : List ℕ → FileRow → Bool
at_name name row = is_application row.head.kind && bytes_eq row.head.name name

module _ (fields : Inside) (index place : ℕ) (bytes : List ℕ) (rows : List FileRow)
    (found : AreFound fields) where
  after_write : (row : FileRow) → slice_get fields.rows index ≡ Some row
      → rows ≡ slice_set fields.rows index (with_body (written place bytes) row)
      → AreFound (record fields { rows = rows })
  after_write row at is = record {
    places = λ path. found.places path
        ∙ sym (place_set (at_path path) fields.rows index row
        (with_body (written place bytes) row) at refl)
        ∙ ap (λ (its : List FileRow). position (at_path path) its) (sym is);
    sfis = λ directory sfi. found.sfis directory sfi
        ∙ sym (found_set (at_sfi directory sfi) fields.rows index row
        (with_body (written place bytes) row) at refl)
        ∙ ap (λ (its : List FileRow). is_some (find (at_sfi directory sfi) its)) (sym is);
    names = λ name. found.names name
        ∙ sym (found_set (at_name name) fields.rows index row
        (with_body (written place bytes) row) at refl)
        ∙ ap (λ (its : List FileRow). is_some (find (at_name name) its)) (sym is);
  }

  by_row : (o : Option FileRow) → slice_get fields.rows index ≡ o
      → IsSomeAnd o (λ row. rows
      ≡ slice_set fields.rows index (with_body (written place bytes) row))
      → AreFound (record fields { rows = rows })
  by_row None at is = absurd is
  by_row (Some row) at is = after_write row at is

  pub found_after_write : IsSomeAnd (slice_get fields.rows index)
      (λ row. rows ≡ slice_set fields.rows index (with_body (written place bytes) row))
      → AreFound (record fields { rows = rows })
  found_after_write is = by_row (slice_get fields.rows index) refl is

pub found_with_file : (fields : Inside) (row : FileRow) (place : ℕ) (rows : List FileRow)
    (places : BTreeMap (ArrayVec ℕ) ℕ) (sfis : BTreeSet (ArrayVec ℕ × ℕ))
    (names : BTreeSet (ArrayVec ℕ)) → AreFound fields → place ≡ length fields.rows
    → rows ≡ fields.rows ++ row ∷ []
    → ((other : List ℕ) → get_by (to_path other) places
    ≡ option_or (get_by (to_path other) fields.places)
    (cond (same_path row.head.path other) (Some place) None))
    → ((other : List ℕ) (number : ℕ) → contains_by (to_sfi other number) sfis
    ≡ (contains_by (to_sfi other number) fields.sfis
    || (is_in other row.head.path && (row.head.sfi == number))))
    → ((name : List ℕ) → contains_by (to_name name) names
    ≡ (contains_by (to_name name) fields.names
    || (is_application row.head.kind && bytes_eq row.head.name name)))
    → AreFound (record { rows = rows; places = places; sfis = sfis; names = names })
found_with_file fields row place rows places sfis names found at is put_place put_sfi put_name =
    record {
      places = λ path. put_place path
          ∙ ap (λ (old : Option ℕ). option_or old
          (cond (at_path path row) (Some place) None)) (found.places path)
          ∙ ap (λ (n : ℕ). option_or (position (at_path path) fields.rows)
          (cond (at_path path row) (Some n) None)) at
          ∙ sym (place_more (at_path path) fields.rows row)
          ∙ ap (λ (its : List FileRow). position (at_path path) its) (sym is);
      sfis = λ directory sfi. put_sfi directory sfi
          ∙ ap (λ (old : Bool). old || at_sfi directory sfi row) (found.sfis directory sfi)
          ∙ sym (found_more (at_sfi directory sfi) fields.rows row)
          ∙ ap (λ (its : List FileRow). is_some (find (at_sfi directory sfi) its)) (sym is);
      names = λ name. put_name name
          ∙ ap (λ (old : Bool). old || at_name name row) (found.names name)
          ∙ sym (found_more (at_name name) fields.rows row)
          ∙ ap (λ (its : List FileRow). is_some (find (at_name name) its)) (sym is);
    }
