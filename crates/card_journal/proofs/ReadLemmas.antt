-- What is read of a bank, row by row.
use Rattle.std.proofs.Common.{◌≡◌, ℕ, ◌-◌, ◌^◌, ◌<◌, List, [], ◌∷◌, ◌++◌, length, drop, Option}
use Rattle.std.proofs.Common.{Some, None, refl, sym, ◌∙◌, ap, subst, arith, append_assoc}
use Rattle.std.proofs.lemmas.List.{length-append}
use Rattle.card_journal.specs.Image.{AreCodings, Follow, Leave, MakesCard}
use Rattle.card_journal.specs.Next.{IsNext, LeaveSoFar}
use Rattle.card_journal.specs.Read.{BankHolds, ReadUpTo}
use Rattle.flash_pages.specs.Bank.{bank_bytes, start_of}
use Rattle.flash_pages.specs.Rows.{HasRows, IsClosed, RowsUpTo, open_rows, row_of}
use Rattle.flash_pages.specs.declared.bank.Bank.{Bank}
use Rattle.flash_pages.proofs.Reading.{split}
use Rattle.flash_pages.proofs.RowLemmas.{length-row_of}
use Rattle.flash_pages.proofs.Unique.{not_closed, same_row, unique}
use Rattle.record_codec.specs.Apply.{apply, fold}
use Rattle.record_codec.specs.FitsCard.{FitsCard}
use Rattle.record_codec.specs.Sizes.{Codes}
use Rattle.record_codec.specs.declared.durable.Durable.{Durable}
use Rattle.record_codec.specs.declared.record.Record.{Record}
use Rattle.record_codec.proofs.AgainLemmas.{one_record}
use Rattle.card_journal.proofs.ImageLemmas.{codings_more, follow_more, fold_more, one_list}

-- records one more
pub so_far_more : (entries : List Record) (held : Option Durable) (entry : Record) (after : Durable) → LeaveSoFar entries held → IsNext held entry after
    → LeaveSoFar (entries ++ entry ∷ []) (Some after)
so_far_more [] None entry after left next = (after, next, tt, refl)
so_far_more [] (Some held) entry after left next = absurd left
so_far_more (first ∷ entries) None entry after left next = absurd left
so_far_more (first ∷ entries) (Some held) entry after left next = (
  left.0,
  left.1,
  follow_more left.0 entries entry left.2 next.0 (subst (λ (d : Durable). FitsCard d entry) left.3 next.1),
  next.2 ∙ ap (λ (d : Durable). apply d entry) left.3 ∙ sym (fold_more left.0 entries entry),
)

follow_at : (held : Durable) (entries : List Record) (entry : Record) (more : List Record) → Follow held (entries ++ entry ∷ more)
    → (MakesCard entry → ⊥) × FitsCard (fold held entries) entry
follow_at held [] entry more follow = (follow.0, follow.1)
follow_at held (its ∷ entries) entry more follow = follow_at (apply held its) entries entry more follow.2

-- the next of records that leave a card follows those before it
pub is_next : (entries : List Record) (held : Option Durable) (entry : Record) (more : List Record) (card : Durable) → LeaveSoFar entries held
    → Leave (entries ++ entry ∷ more) card → (after : Durable) × IsNext held entry after
is_next [] None entry more card left all = (all.0, all.1)
is_next [] (Some held) entry more card left all = absurd left
is_next (first ∷ entries) None entry more card left all = absurd left
is_next (first ∷ entries) (Some held) entry more card left all =
    let begun : all.0 ≡ left.0 = all.1.after card ∙ sym (left.1.after card) in
    let at = follow_at all.0 entries entry more all.2 in
    let is : fold all.0 entries ≡ held = ap (λ (d : Durable). fold d entries) begun ∙ sym left.3 in
    (apply held entry, (at.0, subst (λ (d : Durable). FitsCard d entry) is at.1, refl))

-- records behind others
pub record Parts (entries front : List Record) (body : List ℕ) : Type 0 where
  pub entry : Record
  pub more : List Record
  pub is : entries ≡ front ++ entry ∷ more
  pub coding : Codes body entry

parts_of : (bodies : List (List ℕ)) (body : List ℕ) (rest : List (List ℕ)) (front entries : List Record) → AreCodings bodies front
    → AreCodings (bodies ++ body ∷ rest) entries → Parts entries front body
parts_of [] body rest [] [] before all = absurd all
parts_of [] body rest [] (entry ∷ entries) before all = record { entry = entry; more = entries; is = refl; coding = all.0 }
parts_of [] body rest (one ∷ front) entries before all = absurd before
parts_of (first ∷ bodies) body rest [] entries before all = absurd before
parts_of (first ∷ bodies) body rest (one ∷ front) [] before all = absurd all
parts_of (first ∷ bodies) body rest (one ∷ front) (entry ∷ entries) before all =
    let later = parts_of bodies body rest front entries before.1 all.1 in
    let same : one ≡ entry = one_record first one entry before.0 all.0 in
    record {
      entry = later.entry;
      more = later.more;
      is = ap (λ (es : List Record). entry ∷ es) later.is ∙ ap (λ (e : Record). e ∷ (front ++ later.entry ∷ later.more)) (sym same);
      coding = later.coding;
    }

-- open rows are the first of all open rows
rows_before : (before others : List (List ℕ)) (tail rest : List ℕ) → length (open_rows before ++ tail) < 2 ^ 32
    → open_rows before ++ tail ≡ open_rows others ++ rest → IsClosed rest → (more : List (List ℕ)) × (others ≡ before ++ more)
rows_before [] others tail rest small is closed = (others, refl)
rows_before (x ∷ xs) [] tail rest small is closed =
    absurd (not_closed x (open_rows xs ++ tail) rest (sym is ∙ append_assoc (row_of x) (open_rows xs) tail) closed)
rows_before (x ∷ xs) (y ∷ ys) tail rest small is closed =
    let one = append_assoc (row_of x) (open_rows xs) tail in
    let other = append_assoc (row_of y) (open_rows ys) rest in
    let size = ap length one ∙ length-append (row_of x) (open_rows xs ++ tail) in
    let size_y = ap length (is ∙ other) ∙ length-append (row_of y) (open_rows ys ++ rest) in
    let small_x : length x < 2 ^ 32 = omega (arith, small, size, length-row_of x) in
    let small_y : length y < 2 ^ 32 = omega (arith, small, size_y, length-row_of y) in
    let same = same_row x y (open_rows xs ++ tail) (open_rows ys ++ rest) small_x small_y (sym one ∙ is ∙ other) in
    let later = rows_before xs ys tail rest (omega (arith, small, size)) same.1 closed in
    (later.0, ap (λ (b : List ℕ). b ∷ ys) (sym same.0) ∙ ap (λ (bs : List (List ℕ)). x ∷ bs) later.1)

nothing : (entries : List Record) (card : Durable) → LeaveSoFar entries None → Leave entries card → ⊥
nothing [] card left all = all
nothing (entry ∷ entries) card left all = left

leave : (entries : List Record) (held : Durable) → LeaveSoFar entries (Some held) → Leave entries held
leave [] held left = left
leave (entry ∷ entries) held left = left

module _ (bank : Bank) (image : List ℕ) (small : length (bank_bytes bank image) < 2 ^ 32) where
  -- rows up to a place, and one more, are the first of the bank's
  first_rows : (bodies : List (List ℕ)) (body : List ℕ) (place : ℕ) → RowsUpTo (bank_bytes bank image) (bodies ++ body ∷ []) place
      → (others : List (List ℕ)) → HasRows (bank_bytes bank image) others → (more : List (List ℕ)) × (others ≡ bodies ++ body ∷ more)
  first_rows bodies body place upto others has =
      let whole : bank_bytes bank image ≡ open_rows (bodies ++ body ∷ []) ++ drop place (bank_bytes bank image) =
      split (bank_bytes bank image) (bodies ++ body ∷ []) place upto (drop place (bank_bytes bank image)) refl in
      let found = rows_before (bodies ++ body ∷ []) others (drop place (bank_bytes bank image)) has.0 (omega (arith, small, ap length whole)) (sym whole ∙ has.1) has.2 in
      (found.0, found.1 ∙ append_assoc bodies (body ∷ []) found.0)

  -- a card in the bank has the next record behind those so far
  pub has_next : (held : Option Durable) (at place : ℕ) (body : List ℕ) (so_far : ReadUpTo bank image held at)
      → RowsUpTo (bank_bytes bank image) (so_far.bodies ++ body ∷ []) place → (card : Durable) (end : ℕ) → BankHolds bank image card end
      → (entry : Record) × Codes body entry × ((after : Durable) × IsNext held entry after)
  has_next held at place body so_far upto card end holds =
      let rows = first_rows so_far.bodies body place upto holds.bodies holds.rows in
      let parts = parts_of so_far.bodies body rows.0 so_far.entries holds.entries so_far.codings
      (subst (λ (bs : List (List ℕ)). AreCodings bs holds.entries) rows.1 holds.codings)
      in
      let next = is_next so_far.entries held parts.entry parts.more card so_far.left (subst (λ (es : List Record). Leave es card) parts.is holds.left) in
      (parts.entry, parts.coding, next)

  -- an end without a record is that of no card
  pub none_held : (at : ℕ) (so_far : ReadUpTo bank image None at) → HasRows (bank_bytes bank image) so_far.bodies
      → (card : Durable) (end : ℕ) → BankHolds bank image card end → ⊥
  none_held at so_far has card end holds =
      let same : so_far.bodies ≡ holds.bodies = unique (bank_bytes bank image) so_far.bodies holds.bodies small has holds.rows in
      let entries : so_far.entries ≡ holds.entries =
      one_list holds.bodies so_far.entries holds.entries (subst (λ (bs : List (List ℕ)). AreCodings bs so_far.entries) same so_far.codings) holds.codings in
      nothing so_far.entries card so_far.left (subst (λ (es : List Record). Leave es card) (sym entries) holds.left)

-- one more row has been read
pub read_more : (bank : Bank) (image : List ℕ) (held : Option Durable) (at next : ℕ) (body : List ℕ) (entry : Record) (after : Durable)
    (so_far : ReadUpTo bank image held at) → RowsUpTo (bank_bytes bank image) (so_far.bodies ++ body ∷ []) (next - start_of bank)
    → Codes body entry → IsNext held entry after → ReadUpTo bank image (Some after) next
read_more bank image held at next body entry after so_far upto codes is = record {
  bodies = so_far.bodies ++ body ∷ [];
  entries = so_far.entries ++ entry ∷ [];
  upto = upto;
  codings = codings_more so_far.bodies so_far.entries body entry so_far.codings codes;
  left = so_far_more so_far.entries held entry after so_far.left is;
}

-- all rows have been read
pub read_all : (bank : Bank) (image : List ℕ) (held : Durable) (at : ℕ) (so_far : ReadUpTo bank image (Some held) at)
    → HasRows (bank_bytes bank image) so_far.bodies → BankHolds bank image held at
read_all bank image held at so_far has = record {
  bodies = so_far.bodies;
  entries = so_far.entries;
  rows = has;
  codings = so_far.codings;
  left = leave so_far.entries held so_far.left;
  end = so_far.upto.end;
}
