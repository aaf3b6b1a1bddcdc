-- What contracts see of a shelf in memory.
use Rattle.std.specs.Prelude.{ℕ, List, Bool}
use Rattle.std.specs.Str.{bytes_eq}
use Rattle.flash_pages.specs.declared.memory.MemoryFlash.{MemoryFlash}
use Rattle.flash_pages.specs.declared.memory_shelf.MemoryShelf.{MemoryShelf}
use Rattle.flash_pages.specs.ServedName.{place_at, reported_place}
use Rattle.flash_pages.specs.Shelf.{ShelfPlace}

-- what is known of each name
abbrev pub places_of : MemoryShelf → List ℕ → ShelfPlace MemoryFlash
places_of shelf = place_at shelf.name.bytes.items (reported_place shelf.flash shelf.faults)

-- whether its flash has this name
abbrev pub serves : MemoryShelf → List ℕ → Bool
serves shelf name = bytes_eq name shelf.name.bytes.items
