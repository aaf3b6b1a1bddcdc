-- Notifications one behind the other.
use Rattle.std.proofs.Common.{◌≡◌, ◌↔◌, ℕ, ◌+◌, ◌<◌, ◌≤◌, List, [], ◌∷◌, length, drop, get_or, sym}
use Rattle.std.proofs.Common.{subst, arith}
use Rattle.std.specs.List.{AllByRecursion}
use Rattle.file_rows.proofs.EachLemmas.{drop_item}
use Rattle.notify_list.specs.declared.note.Note.{Note}
use Rattle.plain_lists.specs.EachTwo.{EachTwo}
use Rattle.record_codec.specs.Behind.{IsBehind}
use Rattle.record_codec.specs.IsDurable.{AreNotes, IsAddress}

-- each stands behind the one before it, the first behind the previous one
abbrev pub AreBehind : ℕ → ℕ → List Note → Type 0
AreBehind previous next [] = Unit {0}
AreBehind previous next (note ∷ notes) = IsBehind previous next note × AreBehind note.number next notes

abbrev HasNumber : Note → Type 0
HasNumber note = (1 ≤ note.number) × (note.number ≤ 4294967295)

behind : (previous next : ℕ) (notes : List Note) → AllByRecursion (λ note. previous < note.number) notes
    → EachTwo (λ earlier later. earlier.number < later.number) notes → AllByRecursion (λ note. note.number < next) notes
    → AllByRecursion HasNumber notes → AllByRecursion (λ note. IsAddress note.address) notes → AreBehind previous next notes
behind previous next [] after ascending given numbers addresses = tt
behind previous next (note ∷ notes) after ascending given numbers addresses = (
  record { after = after.0; before = given.0; few = numbers.0.1; address = addresses.0 },
  behind note.number next notes ascending.0 ascending.1 given.1 numbers.1 addresses.1,
)

above : (least previous next : ℕ) (notes : List Note) → least ≤ previous → AreBehind previous next notes → AllByRecursion (λ note. least < note.number) notes
above least previous next [] le are = tt
above least previous next (note ∷ notes) le are =
    (omega (arith, are.0.after), above least note.number next notes (omega (arith, are.0.after)) are.1)

ascending : (previous next : ℕ) (notes : List Note) → AreBehind previous next notes → EachTwo (λ earlier later. earlier.number < later.number) notes
ascending previous next [] are = tt
ascending previous next (note ∷ notes) are =
    (above note.number note.number next notes (omega arith) are.1, ascending note.number next notes are.1)

given : (previous next : ℕ) (notes : List Note) → AreBehind previous next notes → AllByRecursion (λ note. note.number < next) notes
given previous next [] are = tt
given previous next (note ∷ notes) are = (are.0.before, given note.number next notes are.1)

numbers : (previous next : ℕ) (notes : List Note) → AreBehind previous next notes → AllByRecursion HasNumber notes
numbers previous next [] are = tt
numbers previous next (note ∷ notes) are = ((omega (arith, are.0.after), are.0.few), numbers note.number next notes are.1)

addresses : (previous next : ℕ) (notes : List Note) → AreBehind previous next notes → AllByRecursion (λ note. IsAddress note.address) notes
addresses previous next [] are = tt
addresses previous next (note ∷ notes) are = (are.0.address, addresses note.number next notes are.1)

first : (number : ℕ) (notes : List Note) → AllByRecursion HasNumber notes → AllByRecursion (λ note. 0 < note.number) notes
first number [] each = tt
first number (note ∷ notes) each = (omega (arith, each.0.0), first number notes each.1)

-- notifications are those of a card just where each stands behind the one before it
pub notes_are : (next : ℕ) (notes : List Note) → length notes ≤ 256 → 1 ≤ next → AreBehind 0 next notes ↔ AreNotes (record { list = notes; next = next })
notes_are next notes few least = (
  λ are. record {
    few = few;
    numbered = record { ascending = ascending 0 next notes are; given = given 0 next notes are; next = least };
    numbers = numbers 0 next notes are;
    addresses = addresses 0 next notes are;
  },
  λ are. behind 0 next notes (first 0 notes are.numbers) are.numbered.ascending are.numbered.given are.numbers are.addresses,
)

-- one more stands behind the one before it
pub behind_more : {G : Type 0} (previous next : ℕ) (notes : List Note) (i : ℕ) (note : Note) → i < length notes → note ≡ get_or notes i note
    → (AreBehind previous next (drop i notes) ↔ G) → IsBehind previous next note → AreBehind note.number next (drop (i + 1) notes) ↔ G
behind_more previous next notes i note within at left is =
    let here = drop_item notes i note within at in (
      λ rest. left.0 (subst (AreBehind previous next) (sym here) (is, rest)),
      λ all. let parts : AreBehind previous next (note ∷ drop (i + 1) notes) = subst (AreBehind previous next) here (left.1 all) in parts.1,
    )

pub behind_fails : {G : Type 0} (previous next : ℕ) (notes : List Note) (i : ℕ) (note : Note) → i < length notes → note ≡ get_or notes i note
    → (AreBehind previous next (drop i notes) ↔ G) → (IsBehind previous next note → ⊥) → G → ⊥
behind_fails previous next notes i note within at left fails all =
    let parts : AreBehind previous next (note ∷ drop (i + 1) notes) = subst (AreBehind previous next) (drop_item notes i note within at) (left.1 all) in
    fails parts.0
