-- A table from keys to values.
use Rattle.std.specs.Prelude.{ℕ, Bool, true, ◌&&◌, not, ◌==◌, List, [], ◌∷◌, Option, Some, None}
use Rattle.std.specs.Prelude.{if◌then◌else◌}
use Rattle.std.specs.List.{list_any}
use Rattle.case_table.specs.declared.case_rows.CaseRows.{CaseRows}

-- the value beside the first of the keys that is this one
abbrev pub first_value : List ℕ → List ℕ → ℕ → Option ℕ
first_value [] values key = None
first_value (first ∷ keys) [] key = None
first_value (first ∷ keys) (value ∷ values) key =
    if first == key then Some value else first_value keys values key

-- what a table has for a key: the value of the first row with that key
abbrev pub value_of : {n : ℕ} → CaseRows n → ℕ → Option ℕ
value_of table key = first_value table.keys table.values key

-- whether no key stands there twice
abbrev pub differ : List ℕ → Bool
differ [] = true
differ (key ∷ keys) = not (list_any (λ other. other == key) keys) && differ keys
