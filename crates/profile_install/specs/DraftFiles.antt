-- How the files that a package has made are found.
use Rattle.std.specs.Prelude.{◌≡◌, ℕ, ◌==◌, ◌&&◌, List, find, is_some, position}
use Rattle.std.specs.BTreeMap.{get_by}
use Rattle.std.specs.BTreeSet.{contains_by}
use Rattle.file_rows.specs.Find.{is_name_used}
use Rattle.file_rows.specs.Path.{is_in, same_path}
use Rattle.file_rows.specs.declared.row.FileRow.{FileRow}
use Rattle.profile_install.specs.FileKeys.{to_name, to_path, to_sfi}
use Rattle.profile_install.specs.declared.draft_files.DraftFiles.TheInside.{Inside}

-- files are found by path, by directory and SFI, and applications by name
pub record AreFound (fields : Inside) : Type 0 where
  pub places : (path : List ℕ) → get_by (to_path path) fields.places
      ≡ position (λ (row : FileRow). same_path row.head.path path) fields.rows
  pub sfis : (directory : List ℕ) (sfi : ℕ) → contains_by (to_sfi directory sfi) fields.sfis
      ≡ is_some (find
      (λ (row : FileRow). is_in directory row.head.path && (row.head.sfi == sfi)) fields.rows)
  pub names : (name : List ℕ) → contains_by (to_name name) fields.names
      ≡ is_name_used fields.rows name
