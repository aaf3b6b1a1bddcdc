-- A shelf that serves one name: the places of all names.
use Rattle.std.specs.Prelude.{ℕ, ◌^◌, ◌-◌, List, Bool, true, false, Option, None, is_none}
use Rattle.std.specs.Prelude.{if◌then◌else◌}
use Rattle.std.specs.Str.{bytes_eq}
use Rattle.flash_pages.specs.Shelf.{ShelfPlace}

-- A name that isn't served. Its count stands at the greatest `u64`, so each call that fails there
-- has a cause, and no other name's count changes with it.
abbrev pub not_served : {F : Type 0} → ShelfPlace F
not_served = record { reports = false; there = None; is_out = false; faults = 2 ^ 64 - 1 }

-- the served name has this place, and every other one none
abbrev pub place_at : {F : Type 0} → List ℕ → ShelfPlace F → List ℕ → ShelfPlace F
place_at served place name = if bytes_eq name served then place else not_served

-- a place whose flash is reported, out where none lies there
abbrev pub reported_place : {F : Type 0} → Option F → ℕ → ShelfPlace F
reported_place flash faults =
    record { reports = true; there = flash; is_out = is_none flash; faults = faults }

-- a place of whose flash nothing is reported
abbrev pub unreported_place : {F : Type 0} → Bool → ℕ → ShelfPlace F
unreported_place is_out faults =
    record { reports = false; there = None; is_out = is_out; faults = faults }
