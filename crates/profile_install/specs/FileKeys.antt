-- How the keys compare by which files are found.
use Rattle.std.specs.Prelude.{ℕ, List}
use Rattle.std.specs.Cmp.Lexicographic.{slice_cmp}
use Rattle.std.specs.Ordering.{nat_cmp, ordering_then}
use Rattle.std.specs.declared.cmp.Ordering.{Ordering}
use Rattle.arrayvec.specs.ArrayVec.{ArrayVec}

abbrev pub to_path : List ℕ → ArrayVec ℕ → Ordering
to_path path key = slice_cmp nat_cmp path key.items

abbrev pub to_sfi : List ℕ → ℕ → ArrayVec ℕ × ℕ → Ordering
to_sfi directory sfi key =
    ordering_then (slice_cmp nat_cmp directory key.0.items) (nat_cmp sfi key.1)

abbrev pub to_name : List ℕ → ArrayVec ℕ → Ordering
to_name name key = slice_cmp nat_cmp name key.items
