-- The items whose bytes lie in a pool, when bytes follow it.
use Rattle.std.proofs.Common.{◌≡◌, ℕ, ◌-◌, List, [], ◌∷◌, ◌++◌, length, take, drop, refl, sym, ap}
use Rattle.std.proofs.Common.{◌∙◌, arith, length-append, length-drop}
use Rattle.std.proofs.lemmas.List.{drop-append-le, take-append-le, map_push, drop_at, take_all}
use Rattle.std.proofs.lemmas.List.Elements.{All-head, All-tail, All-push, All-weaker}
use Rattle.card_core.specs.declared.event.Event.{Event}
use Rattle.script_text.specs.Item.{Item}
use Rattle.script_text.specs.Item.Item.{Stated}
use Rattle.script_text.specs.Pool.{LiesWithin, LieWithin, event_by, item_at, pooled_items}
use Rattle.script_text.specs.declared.script_items.Entry.{Entry}
use Rattle.script_text.specs.declared.script_items.Place.{Place}

-- a statement of the place's line whose bytes are these
abbrev stated_by : Place → List ℕ → Item
stated_by place bytes = Stated (record { line = place.line; event = event_by place.act place.port bytes })

-- bytes behind the pool leave an item as it was
item_at-append : (pool more : List ℕ) (entry : Entry) → LiesWithin pool entry → item_at (pool ++ more) entry ≡ item_at pool entry
item_at-append pool more (Entry.Stated place) within =
    let left : length (drop place.from pool) ≡ length pool - place.from = length-drop place.from pool in
    let behind : drop place.from (pool ++ more) ≡ drop place.from pool ++ more =
    drop-append-le place.from pool more (omega (arith, within.0, within.1)) in
    let first : take (place.to - place.from) (drop place.from pool ++ more) ≡ take (place.to - place.from) (drop place.from pool) =
    take-append-le (place.to - place.from) (drop place.from pool) more (omega (arith, within.0, within.1)) in
    ap (stated_by place) (ap (take (place.to - place.from)) behind ∙ first)
item_at-append pool more Entry.PhaseEnd within = refl
item_at-append pool more Entry.SectionEnd within = refl

pooled_items-append : (pool more : List ℕ) (entries : List Entry) → LieWithin pool entries → pooled_items (pool ++ more) entries ≡ pooled_items pool entries
pooled_items-append pool more [] within = refl
pooled_items-append pool more (entry ∷ entries) within =
    let first = item_at-append pool more entry (All-head (LiesWithin pool) entry entries within) in
    let rest = pooled_items-append pool more entries (All-tail (LiesWithin pool) entry entries within) in
    cc

-- a statement at the end by its event
pub with_event : (items : List Item) (line : ℕ) (one other : Event) → one ≡ other
    → items ++ Stated (record { line = line; event = one }) ∷ [] ≡ items ++ Stated (record { line = line; event = other }) ∷ []
with_event items line one other same = ap (λ (event : Event). items ++ Stated (record { line = line; event = event }) ∷ []) same

-- a place that takes what follows the pool adds that statement
pub pooled_items-push : (pool bytes : List ℕ) (entries : List Entry) (place : Place) → LieWithin pool entries
    → place.from ≡ length pool → place.to ≡ length (pool ++ bytes)
    → pooled_items (pool ++ bytes) (entries ++ Entry.Stated place ∷ []) ≡ pooled_items pool entries ++ stated_by place bytes ∷ []
pooled_items-push pool bytes entries place within from to =
    let long = length-append pool bytes in
    let behind : drop place.from (pool ++ bytes) ≡ bytes = drop_at pool bytes place.from (sym from) in
    let whole : take (place.to - place.from) bytes ≡ bytes = take_all (place.to - place.from) bytes (omega arith) in
    map_push (item_at (pool ++ bytes)) entries (Entry.Stated place)
    ∙ ap (λ (items : List Item). items ++ item_at (pool ++ bytes) (Entry.Stated place) ∷ []) (pooled_items-append pool bytes entries within)
    ∙ ap (λ (bs : List ℕ). pooled_items pool entries ++ stated_by place bs ∷ []) (ap (take (place.to - place.from)) behind ∙ whole)

wider : (pool bytes : List ℕ) (entry : Entry) → LiesWithin pool entry → LiesWithin (pool ++ bytes) entry
wider pool bytes (Entry.Stated place) within = let long = length-append pool bytes in (within.0, omega (arith, long, within.1))
wider pool bytes Entry.PhaseEnd within = tt
wider pool bytes Entry.SectionEnd within = tt

-- and every entry still lies within
pub LieWithin-push : (pool bytes : List ℕ) (entries : List Entry) (place : Place) → LieWithin pool entries
    → place.from ≡ length pool → place.to ≡ length (pool ++ bytes) → LieWithin (pool ++ bytes) (entries ++ Entry.Stated place ∷ [])
LieWithin-push pool bytes entries place within from to =
    let long = length-append pool bytes in
    All-push (LiesWithin (pool ++ bytes)) entries (Entry.Stated place)
    (All-weaker (LiesWithin pool) (LiesWithin (pool ++ bytes)) (wider pool bytes) entries within)
    (omega arith, omega arith)
