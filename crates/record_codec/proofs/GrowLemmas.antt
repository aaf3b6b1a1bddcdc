-- Notifications that come to be pending, and those that go.
use Rattle.std.proofs.Common.{◌≡◌, ◌↔◌, ◌⊎◌, ℕ, suc, ◌+◌, ◌≤◌, Bool, true, false, cond, not, nat_eq}
use Rattle.std.proofs.Common.{List, [], ◌∷◌, length, filter, Option, Some, None, find, refl, subst}
use Rattle.std.proofs.Common.{inl, inr, ⊎_elim, arith}
use Rattle.std.proofs.lemmas.List.{length_push}
use Rattle.std.specs.List.{AllByRecursion}
use Rattle.std.specs.Prelude.{IfSome, option_and_then}
use Rattle.notify_list.specs.Notes.{HasNoteRoom, NoteList, with_note, without}
use Rattle.notify_list.specs.declared.note.Note.{Note}
use Rattle.notify_list.specs.declared.note.Operation.{Operation}
use Rattle.notify_list.proofs.NoteLemmas.{each_push, each_weaker, numbered_less, numbered_more}
use Rattle.file_rows.proofs.ListLemmas.{each_filter, each_left, each_right, length-filter-le}
use Rattle.record_codec.specs.Heads.{head_of}
use Rattle.record_codec.specs.IsDurable.{AreNotes, IsAddress, IsHead}
use Rattle.record_codec.specs.Noted.{count_of, count_of_each, count_where, names, noted, noted_each}
use Rattle.record_codec.specs.Noted.{noted_where, with_each}
use Rattle.record_codec.specs.declared.profile.NoteTarget.{NoteTarget}
use Rattle.record_codec.specs.declared.profile.ProfileHead.{ProfileHead}

abbrev HasFew : Note → Type 0
HasFew note = note.number ≤ 4294967295

abbrev HasNumber : Note → Type 0
HasNumber note = (1 ≤ note.number) × (note.number ≤ 4294967295)

abbrev HasAddress : Note → Type 0
HasAddress note = IsAddress note.address

-- so many notifications come behind the others
pub record Grows (count : ℕ) (old new : NoteList) : Type 0 where
  pub len : length new.list ≡ length old.list + count
  pub next : new.next ≡ old.next + count
  pub kept : AllByRecursion HasFew new.list → AllByRecursion HasFew old.list
  pub most : AllByRecursion HasFew new.list → (count ≡ 0) ⊎ (new.next ≤ 4294967295 + 1)
  pub on : AreNotes old → HasNoteRoom old count → AreNotes new

pub grows_none : (notes : NoteList) → Grows 0 notes notes
grows_none notes = record {
  len = omega arith;
  next = omega arith;
  kept = λ each. each;
  most = λ each. inl refl;
  on = λ are room. are;
}

grows_one : (notes : NoteList) (operation : Operation) (iccid address : List ℕ) → IsAddress address → Grows 1 notes (with_note operation iccid address notes)
grows_one notes operation iccid address is =
    let note : Note = record { number = notes.next; operation = operation; iccid = iccid; address = address } in
    record {
      len = length_push notes.list note;
      next = refl;
      kept = each_left HasFew notes.list (note ∷ []);
      most = λ each. let last : notes.next ≤ 4294967295 = (each_right HasFew notes.list (note ∷ []) each).0 in inr (omega arith);
      on = λ are room.
          let last : notes.next ≤ 4294967295 = ⊎_elim (λ none. absurd (cc)) (λ le. omega (arith, le)) room.numbers in
          record {
            few = omega (arith, room.pending, length_push notes.list note);
            numbered = numbered_more notes operation iccid address are.numbered;
            numbers = each_push HasNumber notes.list note are.numbers (are.numbered.next, last);
            addresses = each_push HasAddress notes.list note are.addresses is;
          };
    }

-- the first of more notifications have room
pub room_first : (notes : NoteList) (i j : ℕ) → HasNoteRoom notes (i + j) → HasNoteRoom notes i
room_first notes i j room = record {
  pending = omega (arith, room.pending);
  numbers = ⊎_elim (λ none. inl (omega (arith, none))) (λ le. inr (omega (arith, le))) room.numbers;
}

-- the rest of them has room behind the first
pub room_rest : (i j : ℕ) (old new : NoteList) → Grows i old new → HasNoteRoom old (i + j) → HasNoteRoom new j
room_rest i j old new grows room = record {
  pending = omega (arith, room.pending, grows.len);
  numbers = ⊎_elim (λ none. inl (omega (arith, none))) (λ le. inr (omega (arith, le, grows.next))) room.numbers;
}

pub grows_then : (i j : ℕ) (a b c : NoteList) → Grows i a b → Grows j b c → Grows (i + j) a c
grows_then i j a b c one other = record {
  len = omega (arith, one.len, other.len);
  next = omega (arith, one.next, other.next);
  kept = λ each. one.kept (other.kept each);
  most = λ each. ⊎_elim
      (λ none. ⊎_elim (λ none'. inl (omega (arith, none, none'))) (λ le. inr (omega (arith, le, none, other.next))) (one.most (other.kept each)))
      (λ le. inr le)
      (other.most each);
  on = λ are room. other.on (one.on are (room_first a i j room)) (room_rest i j a b one room);
}

pub grows_each : (operation : Operation) (iccid : List ℕ) (targets : List NoteTarget) (notes : NoteList) → AllByRecursion (λ target. IsAddress target.address) targets
    → Grows (length targets) notes (with_each operation iccid targets notes)
grows_each operation iccid [] notes each = grows_none notes
grows_each operation iccid (target ∷ targets) notes each =
    let first : NoteList = with_note operation iccid target.address notes in
    let all : Grows (1 + length targets) notes (with_each operation iccid targets first) =
    grows_then 1 (length targets) notes first (with_each operation iccid targets first) (grows_one notes operation iccid target.address each.0) (grows_each operation iccid targets first each.1) in
    let one_more : 1 + length targets ≡ suc (length targets) = omega arith in
    subst (λ (n : ℕ). Grows n notes (with_each operation iccid targets first)) one_more all

pub grows_of : (operation : Operation) (head : ProfileHead) (notes : NoteList) → IsHead head → Grows (count_of operation head) notes (noted operation head notes)
grows_of operation head notes is =
    grows_each operation head.iccid (filter (names operation) head.targets) notes
    (each_filter (λ target. IsAddress target.address) (names operation) head.targets is.addresses)

pub grows_where : (operation : Operation) (found : Option ProfileHead) (notes : NoteList) → IfSome found IsHead
    → Grows (count_where operation found) notes (noted_where operation found notes)
grows_where operation None notes is = grows_none notes
grows_where operation (Some head) notes is = grows_of operation head notes is

-- what each element has, the one that is found has
pub found_each : {X : Type 0} (P : X → Type 0) (test : X → Bool) (xs : List X) → AllByRecursion P xs → IfSome (find test xs) P
found_each P test [] each = tt
found_each P test (x ∷ xs) each =
    let rest = found_each P test xs each.1 in
    let step : (b : Bool) → IfSome (cond b (Some x) (find test xs)) P
    = λ b. elim b as (λ b. IfSome (cond b (Some x) (find test xs)) P) [ true ↦ each.0 | false ↦ rest ]
    in step (test x)

pub head_is : (number : ℕ) (profiles : List ProfileHead) → AllByRecursion IsHead profiles → IfSome (head_of number profiles) IsHead
head_is number profiles each = found_each IsHead (λ head. nat_eq head.number number) profiles each

-- what is found is a head, where there is a number to look for
pub displaced_is : (displaced : Option ℕ) (profiles : List ProfileHead) → AllByRecursion IsHead profiles
    → IfSome (option_and_then (λ number. head_of number profiles) displaced) IsHead
displaced_is None profiles each = tt
displaced_is (Some number) profiles each = head_is number profiles each

pub grows_numbers : (operation : Operation) (numbers : List ℕ) (profiles : List ProfileHead) (notes : NoteList) → AllByRecursion IsHead profiles
    → Grows (count_of_each operation numbers profiles) notes (noted_each operation numbers profiles notes)
grows_numbers operation [] profiles notes each = grows_none notes
grows_numbers operation (number ∷ numbers) profiles notes each =
    let first : NoteList = noted_where operation (head_of number profiles) notes in
    grows_then (count_where operation (head_of number profiles)) (count_of_each operation numbers profiles) notes first (noted_each operation numbers profiles first)
    (grows_where operation (head_of number profiles) notes (head_is number profiles each))
    (grows_numbers operation numbers profiles first each)

-- notifications may come just where they have room
pub notes_fit : (count : ℕ) (old new : NoteList) → Grows count old new → AreNotes old → HasNoteRoom old count ↔ AreNotes new
notes_fit count old new grows are = (
  λ room. grows.on are room,
  λ after. record {
    pending = omega (arith, after.few, grows.len);
    numbers = ⊎_elim (λ none. inl none) (λ le. inr (omega (arith, le, grows.next)))
        (grows.most (each_weaker HasNumber HasFew (λ note has. has.1) new.list after.numbers));
  },
)

-- a notification may always go
pub notes_less : (number : ℕ) (notes : NoteList) → AreNotes notes → AreNotes (without number notes)
notes_less number notes are =
    let test : Note → Bool = λ note. not (nat_eq note.number number) in
    record {
      few = omega (arith, are.few, length-filter-le test notes.list);
      numbered = numbered_less notes number are.numbered;
      numbers = each_filter HasNumber test notes.list are.numbers;
      addresses = each_filter HasAddress test notes.list are.addresses;
    }
