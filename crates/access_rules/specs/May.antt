-- Who may do what with a file (ETSI TS 102 221, access rules referenced in EF ARR).
use Rattle.std.specs.Prelude.{ℕ, suc, zero, ◌-◌, ◌*◌, Bool, false, ◌&&◌, nat_le, if◌then◌else◌}
use Rattle.std.specs.Prelude.{List, [], ◌∷◌, ◌++◌, length, map, take, drop, Option, Some, None}
use Rattle.std.specs.Prelude.{option_and_then, option_map, unwrap_or}
use Rattle.plain_lists.specs.FirstOf.{first_of}
use Rattle.file_rows.specs.Content.{file_at}
use Rattle.file_rows.specs.FileHead.{is_linear}
use Rattle.file_rows.specs.Find.{only}
use Rattle.file_rows.specs.Path.{parent_of}
use Rattle.file_rows.specs.declared.head.Rule.{Rule}
use Rattle.file_rows.specs.declared.mode.Mode.{Mode}
use Rattle.file_rows.specs.declared.row.FileRow.{FileRow}
use Rattle.access_rules.specs.AccessRule.{allows}
use Rattle.access_rules.specs.Reading.{rules_of}

-- a directory and those above it, the nearest first, up to the MF
abbrev pub upwards : ℕ → List ℕ → List (List ℕ)
upwards zero directory = directory ∷ []
upwards (suc depth) directory = directory ∷ upwards depth (take depth directory)

abbrev pub enclosing : List ℕ → List (List ℕ)
enclosing directory = upwards (length directory) directory

-- the directory from which the EF ARR of a file is looked for: the one that holds the file; for
-- the MF the MF
abbrev pub rule_directory : List ℕ → List ℕ
rule_directory path = unwrap_or (parent_of path) []

-- the linear file with that identifier in a directory
abbrev pub linear_in : List FileRow → ℕ → List ℕ → Option FileRow
linear_in rows id directory =
    only (λ row. is_linear row.head.kind) (file_at (directory ++ id ∷ []) rows)

-- the EF ARR: the linear file with that identifier in the nearest directory that has one
abbrev pub arr_of : List FileRow → List ℕ → ℕ → Option FileRow
arr_of rows path id = first_of (map (linear_in rows id) (enclosing (rule_directory path)))

-- a record by its number, counted from 1
abbrev pub record_at : FileRow → ℕ → Option (List ℕ)
record_at row number =
    let size = row.head.record_len in
    if nat_le 1 number && nat_le (number * size) (length row.body)
    then Some (take size (drop ((number - 1) * size) row.body))
    else None

-- the record that a rule of the file at a path names
abbrev pub record_named : List FileRow → List ℕ → Rule → Option (List ℕ)
record_named rows path rule =
    option_and_then (λ arr. record_at arr rule.row) (arr_of rows path rule.file)

-- the record that a file's rule names
abbrev pub rule_record : List FileRow → FileRow → Option (List ℕ)
rule_record rows row = option_and_then (record_named rows row.head.path) row.head.rule

-- what a record allows: nothing where it is malformed
abbrev pub record_allows : List ℕ → Mode → (ℕ → Bool) → Bool
record_allows bytes mode met =
    unwrap_or (option_map (λ rules. allows rules mode met) (rules_of bytes)) false

-- the record that decides on the file at a path
abbrev pub record_for : List FileRow → List ℕ → Option (List ℕ)
record_for rows path = option_and_then (rule_record rows) (file_at path rows)

-- whether the file at a path may be used in a mode where these keys are met: never without such a
-- file, a rule, or the record that it names
abbrev pub may : List FileRow → List ℕ → Mode → (ℕ → Bool) → Bool
may rows path mode met =
    unwrap_or (option_map (λ bytes. record_allows bytes mode met) (record_for rows path)) false
