-- Which keys are met (ETSI TS 102 221, PIN and key references).
use Rattle.std.specs.Prelude.{ℕ, Bool, false, not, ◌-◌, ◌==◌, ◌&&◌, ◌||◌, if◌then◌else◌, List, map}
use Rattle.std.specs.Prelude.{find, Option, option_map, unwrap_or}
use Rattle.plain_lists.specs.FirstOf.{first_of}
use Rattle.file_rows.specs.Content.{file_at}
use Rattle.file_rows.specs.FileHead.{holds_files}
use Rattle.file_rows.specs.Path.{same_path}
use Rattle.file_rows.specs.declared.content.Content.{Content}
use Rattle.file_rows.specs.declared.mode.Mode.{Mode}
use Rattle.file_rows.specs.declared.pin.PinRow.{PinRow}
use Rattle.file_rows.specs.declared.row.FileRow.{FileRow}
use Rattle.access_rules.specs.May.{enclosing, may, rule_directory}

-- the PIN of a key that is at home in this directory
abbrev pub pin_at : List PinRow → ℕ → List ℕ → Option PinRow
pin_at pins key home = find (λ pin. same_path pin.home home && (pin.key == key)) pins

-- the PIN of a key, found from a directory upwards: the nearest
abbrev pub pin_for : List PinRow → List ℕ → ℕ → Option PinRow
pin_for pins directory key = first_of (map (pin_at pins key) (enclosing directory))

-- whether a key with this PIN is met: the PIN is verified or disabled
abbrev pub counts : (ℕ → Bool) → PinRow → Bool
counts verified pin = verified pin.number || not pin.enabled

-- a key is met where the PIN so found is verified or disabled
abbrev pub met : List PinRow → (ℕ → Bool) → List ℕ → ℕ → Bool
met pins verified directory key =
    unwrap_or (option_map (counts verified) (pin_for pins directory key)) false

-- the directory from which the keys of a file's rule are looked for: a directory's own, and that
-- which holds an EF
abbrev pub key_directory : FileRow → List ℕ
key_directory row =
    if holds_files row.head.kind then row.head.path else rule_directory row.head.path

abbrev pub met_for : List PinRow → (ℕ → Bool) → Option FileRow → ℕ → Bool
met_for pins verified file key =
    unwrap_or (option_map (λ row. met pins verified (key_directory row) key) file) false

-- whether a card with this content, where these PINs are verified, lets the file at a path be used
-- in a mode
abbrev pub allowed : Content → (ℕ → Bool) → List ℕ → Mode → Bool
allowed content verified path mode =
    may content.rows path mode (met_for content.pins verified (file_at path content.rows))
