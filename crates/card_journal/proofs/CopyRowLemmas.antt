-- The rows of a card's copy.
use Rattle.std.proofs.Common.{◌≡◌, ℕ, zero, suc, ◌+◌, ◌-◌, ◌*◌, ◌<◌, ◌≤◌, false, List, [], ◌∷◌}
use Rattle.std.proofs.Common.{◌++◌, length, map, take, slice_get, Option, Some, IfSome, Result, Ok}
use Rattle.std.proofs.Common.{Err, OnOk, refl, sym, ◌∙◌, ap, subst, arith}
use Rattle.std.specs.List.{AllByRecursion}
use Rattle.file_rows.specs.declared.content.Content.{Content}
use Rattle.flash_pages.specs.Append.{AppendsRow, EndsBlank}
use Rattle.flash_pages.specs.Bank.{bank_bytes, end_of, start_of}
use Rattle.flash_pages.specs.Bytes.{IsErased, blank, patch}
use Rattle.flash_pages.specs.Switch.{live_of}
use Rattle.flash_pages.specs.Flash.{FlashState, IsFlash, card_blocks}
use Rattle.flash_pages.specs.Rows.{row_of}
use Rattle.flash_pages.proofs.BlankBehind.{EndsBlank-blank, bank-append, bank-erased}
use Rattle.flash_pages.proofs.Outcome.{length-bank_bytes}
use Rattle.flash_pages.proofs.Touched.{at_some, flash_size, from_each, known_before, same_some}
use Rattle.port_table.specs.PortOf.{port_of}
use Rattle.record_codec.specs.Apply.{apply}
use Rattle.record_codec.specs.FitsCard.{FitsCard}
use Rattle.record_codec.specs.IsDurable.{IsDurable}
use Rattle.record_codec.specs.Sizes.{Codes, HasCoding, HasSizes}
use Rattle.record_codec.specs.Spelling.{spelling}
use Rattle.record_codec.specs.declared.durable.Durable.{Durable}
use Rattle.record_codec.specs.declared.profile.ProfileHead.{ProfileHead}
use Rattle.record_codec.specs.declared.record.Record.{Record}
use Rattle.record_codec.specs.declared.record.Record.TheVariants.{PutCard, PutProfile}
use Rattle.record_codec.proofs.SizeLemmas.{sizes_of}
use Rattle.card_journal.specs.Copy.{HoldsCopy, copy_of, put_each}
use Rattle.card_journal.specs.Image.{AreCodings, Follow, bank_of, switch_row}
use Rattle.card_journal.specs.Stored.{EndsClean}
use Rattle.card_journal.proofs.BoundLemmas.{one_row}
use Rattle.card_journal.proofs.CopyLemmas.{copied}

-- records that follow fit what the ones before leave
follow_fits : (held : Durable) (entries : List Record) (place : ℕ) (entry : Record) → Follow held entries → slice_get entries place ≡ Some entry
    → (before : Durable) × FitsCard before entry
follow_fits held [] place entry follow is = absurd (cc)
follow_fits held (its ∷ entries) zero entry follow is =
    let same : its ≡ entry = cc in (held, subst (FitsCard held) same follow.1)
follow_fits held (its ∷ entries) (suc place) entry follow is = follow_fits (apply held its) entries place entry follow.2 is

-- each record of the copy fits some card
pub copy_fits : (held : Durable) → IsDurable held → (place : ℕ) (entry : Record) → slice_get (copy_of held) place ≡ Some entry
    → (before : Durable) × FitsCard before entry
copy_fits held are zero entry is =
    let left = copied held are in
    let first = PutCard held.heads.ports.mode held.heads.ports.count held.heads.eid held.heads.next_number held.heads.notes.next held.heads.notes.list in
    let same : first ≡ entry = cc in
    let fits : FitsCard held first = record { place = tt; after = subst IsDurable (left.1.after held) left.1.valid } in
    (held, subst (FitsCard held) same fits)
copy_fits held are (suc place) entry is =
    let left = copied held are in
    follow_fits left.0 (put_each held.heads.ports.on held.heads.profiles held.contents) place entry left.2 is

pub copy_sizes : (held : Durable) → IsDurable held → (place : ℕ) (entry : Record) → slice_get (copy_of held) place ≡ Some entry → HasSizes entry
copy_sizes held are place entry is = let fits = copy_fits held are place entry is in sizes_of fits.0 entry fits.1

pub copy_short : (held : Durable) → IsDurable held → (place : ℕ) (entry : Record) → slice_get (copy_of held) place ≡ Some entry → HasCoding entry
    → length (row_of (spelling entry)) ≤ 77605
copy_short held are place entry is coding = let fits = copy_fits held are place entry is in one_row fits.0 entry fits.1 coding

-- a profile of the copy, by its place
pub copy_at : (on : List (Option ℕ)) (heads : List ProfileHead) (contents : List Content) (place : ℕ) (head : ProfileHead) (content : Content)
    → slice_get heads place ≡ Some head → slice_get contents place ≡ Some content
    → slice_get (put_each on heads contents) place ≡ Some (PutProfile false (record { head = head; content = content }) (port_of head.number on))
copy_at on [] contents place head content is its = absurd (cc)
copy_at on (one ∷ heads) [] place head content is its = absurd (cc)
copy_at on (one ∷ heads) (other ∷ contents) zero head content is its =
    let same : one ≡ head = cc in
    let equal : other ≡ content = cc in
    ap (λ (h : ProfileHead). Some (PutProfile false (record { head = h; content = other }) (port_of h.number on))) same
    ∙ ap (λ (c : Content). Some (PutProfile false (record { head = head; content = c }) (port_of head.number on))) equal
copy_at on (one ∷ heads) (other ∷ contents) (suc place) head content is its = copy_at on heads contents place head content is its

pub length-put_each : (on : List (Option ℕ)) (heads : List ProfileHead) (contents : List Content) → length contents ≡ length heads
    → length (put_each on heads contents) ≡ length heads
length-put_each on [] [] is = refl
length-put_each on [] (other ∷ contents) is = absurd (omega (arith, is))
length-put_each on (one ∷ heads) [] is = absurd (omega (arith, is))
length-put_each on (one ∷ heads) (other ∷ contents) is = ap suc (length-put_each on heads contents (omega (arith, is)))

-- one more of the first elements of a list
pub take_one : {A : Type 0} (xs : List A) (place : ℕ) (x : A) → slice_get xs place ≡ Some x → take (suc place) xs ≡ take place xs ++ x ∷ []
take_one [] place x is = absurd (cc)
take_one (y ∷ xs) zero x is = let same : y ≡ x = cc in ap (λ z. z ∷ []) same
take_one (y ∷ xs) (suc place) x is = ap (λ zs. y ∷ zs) (take_one xs place x is)

map_one : (entries : List Record) (entry : Record) → map spelling (entries ++ entry ∷ []) ≡ map spelling entries ++ spelling entry ∷ []
map_one [] entry = refl
map_one (its ∷ entries) entry = ap (λ (l : List (List ℕ)). spelling its ∷ l) (map_one entries entry)

all_one : (entries : List Record) (entry : Record) → AllByRecursion HasCoding entries → HasCoding entry → AllByRecursion HasCoding (entries ++ entry ∷ [])
all_one [] entry all coding = (coding, tt)
all_one (its ∷ entries) entry all coding = (all.0, all_one entries entry all.1 coding)

-- codings of records
codings_of : (entries : List Record) → AllByRecursion HasCoding entries → AreCodings (map spelling entries) entries
codings_of [] all = tt
codings_of (entry ∷ entries) all = (record { values = all.0; bytes_are = refl }, codings_of entries all.1)

-- the first records of the copy are in the bank, up to this place, and all behind them is FF
pub record CopiedUpTo (held : Durable) (idle count at : ℕ) (image : List ℕ) : Type 0 where
  pub rows : EndsBlank (bank_bytes (bank_of idle) image) (map spelling (take count (copy_of held))) (at - start_of (bank_of idle))
  pub codings : AllByRecursion HasCoding (take count (copy_of held))

pub copied_none : (held : Durable) (idle : ℕ) (image : List ℕ) → idle < 2 → length image ≡ 4096 * card_blocks
    → IsErased (start_of (bank_of idle)) (4096 * 1216) image → CopiedUpTo held idle 0 (start_of (bank_of idle)) image
copied_none held idle image below size erased =
    let none : 0 ≡ start_of (bank_of idle) - start_of (bank_of idle) = omega arith in
    let whole : 4096 * 1216 ≡ length (bank_bytes (bank_of idle) image) = sym (length-bank_bytes (bank_of idle) image (omega (arith, size))) in
    record {
      rows = subst (EndsBlank (bank_bytes (bank_of idle) image) []) none
          (EndsBlank-blank (bank_bytes (bank_of idle) image) (erased ∙ ap blank whole));
      codings = tt;
    }

-- one more row
pub copied_more : {T E : Type 0} (a c : FlashState) (held : Durable) (idle place at : ℕ) (entry : Record) (result : Result T E)
    → IsFlash card_blocks a → idle < 2 → slice_get (copy_of held) place ≡ Some entry → Codes (spelling entry) entry
    → start_of (bank_of idle) ≤ at → at + 5 + length (spelling entry) ≤ end_of (bank_of idle)
    → IfSome a.bytes (CopiedUpTo held idle place at) → AppendsRow at (spelling entry) a c result
    → OnOk result (IfSome c.bytes (CopiedUpTo held idle (suc place) (at + 5 + length (spelling entry))))
copied_more a c held idle place at entry (Err e) lawful below is codes from_start fits so_far appends = tt
copied_more a c held idle place at entry (Ok x) lawful below is codes from_start fits so_far appends =
    from_each c.bytes _ (λ now is_now.
    let was = known_before a c appends.touches.time now is_now in
    let size = flash_size card_blocks a lawful was.0 was.1 in
    let patched = at_some a.bytes (λ l. c.bytes ≡ Some (patch l at (row_of (spelling entry)))) was.0 was.1 appends.done in
    let before : CopiedUpTo held idle place at was.0 = at_some a.bytes (CopiedUpTo held idle place at) was.0 was.1 so_far in
    let more = take_one (copy_of held) place entry is in
    let rows = bank-append (bank_of idle) at was.0 (map spelling (take place (copy_of held))) from_start (omega (arith, size)) before.rows (spelling entry) fits in
    let bodies : map spelling (take place (copy_of held)) ++ spelling entry ∷ [] ≡ map spelling (take (suc place) (copy_of held))
    = sym (map_one (take place (copy_of held)) entry) ∙ ap (map spelling) (sym more) in
    let all : AllByRecursion HasCoding (take (suc place) (copy_of held))
    = subst (AllByRecursion HasCoding) (sym more) (all_one (take place (copy_of held)) entry before.codings codes.values) in
    let on_patched : CopiedUpTo held idle (suc place) (at + 5 + length (spelling entry)) (patch was.0 at (row_of (spelling entry)))
    = record {
      rows = subst (λ (bs : List (List ℕ)). EndsBlank (bank_bytes (bank_of idle) (patch was.0 at (row_of (spelling entry)))) bs
          ((at + 5 + length (spelling entry)) - start_of (bank_of idle))) bodies rows;
      codings = all;
    } in
    subst (CopiedUpTo held idle (suc place) (at + 5 + length (spelling entry)))
    (same_some (patch was.0 at (row_of (spelling entry))) now (sym patched ∙ is_now)) on_patched)

-- all rows
pub copied_all : (held : Durable) (idle count at : ℕ) (image : List ℕ) → count ≡ length (copy_of held) → CopiedUpTo held idle count at image → HoldsCopy held idle at image
copied_all held idle count at image is so_far =
    let all : take count (copy_of held) ≡ copy_of held = ap (λ (n : ℕ). take n (copy_of held)) is ∙ take_length (copy_of held) in
    record {
      rows = subst (λ (es : List Record). EndsBlank (bank_bytes (bank_of idle) image) (map spelling es) (at - start_of (bank_of idle))) all so_far.rows;
      codings = subst (AllByRecursion HasCoding) all so_far.codings;
    }
  where
    take_length : (entries : List Record) → take (length entries) entries ≡ entries
    take_length [] = refl
    take_length (entry ∷ entries) = ap (λ (es : List Record). entry ∷ es) (take_length entries)

-- where the bank of the copy is live, the copy is what is held
pub copy_ends : (held : Durable) → IsDurable held → (live end : ℕ) (image : List ℕ) → live ≡ live_of (switch_row image) → HoldsCopy held live end image
    → EndsClean held live end image
copy_ends held are live end image live_is copy = record {
  live_is = live_is;
  bodies = map spelling (copy_of held);
  entries = copy_of held;
  rows = copy.rows;
  codings = codings_of (copy_of held) copy.codings;
  left = copied held are;
}

-- behind the rows of the copy so far all is erased
pub copied_erased : (s : FlashState) (held : Durable) (idle place at n : ℕ) → IsFlash card_blocks s → idle < 2 → start_of (bank_of idle) ≤ at
    → at + n ≤ end_of (bank_of idle) → IfSome s.bytes (CopiedUpTo held idle place at) → IfSome s.bytes (IsErased at n)
copied_erased s held idle place at n lawful below from_start fits so_far = from_each s.bytes _ (λ image is.
    let size = flash_size card_blocks s lawful image is in
    let here : CopiedUpTo held idle place at image = at_some s.bytes (CopiedUpTo held idle place at) image is so_far in
    bank-erased (bank_of idle) at image (map spelling (take place (copy_of held))) from_start (omega (arith, size, below)) here.rows n fits)

-- nothing is copied yet
pub none_copied : (s : FlashState) (held : Durable) (idle at : ℕ) → IsFlash card_blocks s → idle < 2 → at ≡ start_of (bank_of idle)
    → IfSome s.bytes (IsErased (start_of (bank_of idle)) (4096 * 1216)) → IfSome s.bytes (CopiedUpTo held idle 0 at)
none_copied s held idle at lawful below is erased = from_each s.bytes _ (λ image known.
    subst (λ (k : ℕ). CopiedUpTo held idle 0 k image) (sym is)
    (copied_none held idle image below (flash_size card_blocks s lawful image known)
    (at_some s.bytes (IsErased (start_of (bank_of idle)) (4096 * 1216)) image known erased)))

pub whole_copied : (s : FlashState) (held : Durable) (idle place at : ℕ) → place ≡ length (copy_of held) → IfSome s.bytes (CopiedUpTo held idle place at)
    → IfSome s.bytes (HoldsCopy held idle at)
whole_copied s held idle place at is so_far = from_each s.bytes _ (λ image known.
    copied_all held idle place at image is (at_some s.bytes (CopiedUpTo held idle place at) image known so_far))
