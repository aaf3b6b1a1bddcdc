-- What is found among the files of a card (ETSI TS 102 221, file referencing).
use Rattle.std.specs.Prelude.{ℕ, Bool, not, ◌==◌, ◌&&◌, if◌then◌else◌, List, [], ◌∷◌, ◌++◌, find}
use Rattle.std.specs.Prelude.{nat_eq, Option, Some, None, is_some, option_and_then}
use Rattle.std.specs.List.{starts_with}
use Rattle.std.specs.Str.{bytes_eq}
use Rattle.file_rows.specs.Content.{file_at}
use Rattle.file_rows.specs.FileHead.{is_application}
use Rattle.file_rows.specs.Path.{is_in}
use Rattle.file_rows.specs.declared.row.FileRow.{FileRow}

-- what was found, where it passes
abbrev pub only : (FileRow → Bool) → Option FileRow → Option FileRow
only passes None = None
only passes (Some row) = if passes row then Some row else None

-- the file at a path, where there is one
abbrev pub file_of_path : List FileRow → Option (List ℕ) → Option FileRow
file_of_path rows path = option_and_then (λ path. file_at path rows) path

-- a file in a directory by its identifier, with which no application is found
abbrev pub child : List FileRow → List ℕ → ℕ → Option FileRow
child rows directory id = only
    (λ row. not (is_application row.head.kind)) (file_at (directory ++ id ∷ []) rows)

-- the file in a directory with this SFI; 0 is none
abbrev pub child_with_sfi : List FileRow → List ℕ → ℕ → Option FileRow
child_with_sfi rows directory sfi =
    if sfi == 0 then None else find
    (λ row. is_in directory row.head.path && (row.head.sfi == sfi)) rows

-- the first application, in the order of creation, whose name begins so
abbrev pub application_named : List ℕ → List FileRow → Option FileRow
application_named prefix rows = find
    (λ row. is_application row.head.kind && starts_with nat_eq row.head.name prefix) rows

-- whether a file of this identifier is in the directory, an application too
abbrev pub is_id_used : List FileRow → List ℕ → ℕ → Bool
is_id_used rows directory id = is_some (file_at (directory ++ id ∷ []) rows)

-- whether a file in the directory has this SFI
abbrev pub is_sfi_used : List FileRow → List ℕ → ℕ → Bool
is_sfi_used rows directory sfi = is_some (child_with_sfi rows directory sfi)

-- the application of exactly this name
abbrev pub application_of_name : List ℕ → List FileRow → Option FileRow
application_of_name name rows = find
    (λ row. is_application row.head.kind && bytes_eq row.head.name name) rows

-- whether an application has exactly this name
abbrev pub is_name_used : List FileRow → List ℕ → Bool
is_name_used rows name = is_some (application_of_name name rows)
