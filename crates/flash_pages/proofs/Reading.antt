-- Rows read one after another are the bank's rows.
use Rattle.std.proofs.Common.{◌≡◌, ℕ, ◌+◌, ◌-◌, ◌*◌, ◌^◌, ◌<◌, ◌≤◌, List, [], ◌∷◌, ◌++◌, length}
use Rattle.std.proofs.Common.{take, drop, refl, sym, ◌∙◌, ap, subst, arith, append_assoc}
use Rattle.std.proofs.Common.{length-append, take-append-drop}
use Rattle.std.proofs.lemmas.List.{take_at, drop_at, drop-drop, drop-take}
use Rattle.flash_pages.specs.declared.bank.Bank.{Bank}
use Rattle.flash_pages.specs.declared.row.RowAt.TheVariants.{Open, End, Overrun}
use Rattle.flash_pages.specs.Bank.{start_of, end_of, bank_bytes}
use Rattle.flash_pages.specs.Bytes.{part}
use Rattle.flash_pages.specs.Rows.{row_of, open_rows, IsClosed, HasRows, BeginsWithRow, RowIs}
use Rattle.flash_pages.specs.Rows.{LiesBefore, RowsUpTo, ReadsAs}
use Rattle.flash_pages.proofs.Patches.{part-part}
use Rattle.flash_pages.proofs.RowLemmas.{length-row_of}
use Rattle.flash_pages.proofs.Outcome.{open_rows-push}
use Rattle.flash_pages.proofs.Unique.{same_row, not_closed}

-- what is left of a bank from a place in it on
pub rest_of_bank : (bank : Bank) (at : ℕ) (image : List ℕ) → start_of bank ≤ at → at ≤ end_of bank
    → part at (end_of bank - at) image ≡ drop (at - start_of bank) (bank_bytes bank image)
rest_of_bank bank at image from_start to_end =
    let start = start_of bank in
    let place = at - start in
    let size : place + (end_of bank - at) ≡ 4096 * bank.blocks = omega arith in
    let there : start + place ≡ at = omega arith in
    sym (ap (λ (n : ℕ). drop place (take n (drop start image))) (sym size)
    ∙ drop-take place (end_of bank - at) (drop start image)
    ∙ ap (take (end_of bank - at))
    (drop-drop place start image ∙ ap (λ (k : ℕ). drop k image) there))

pub length-open_rows-push : (bodies : List (List ℕ)) (body : List ℕ)
    → length (open_rows (bodies ++ body ∷ [])) ≡ length (open_rows bodies) + (5 + length body)
length-open_rows-push bodies body =
    let joined = ap length (open_rows-push bodies body []) in
    let left = length-append (open_rows (bodies ++ body ∷ [])) [] in
    let right = length-append (open_rows bodies) (row_of body ++ []) in
    let last = length-append (row_of body) [] in
    omega (arith, joined, left, right, last, length-row_of body)

-- rows behind which neither an end nor a row stands, beside others that end
no_rows : (before others : List (List ℕ)) (tail rest : List ℕ)
    → length (open_rows before ++ tail) < 2 ^ 32
    → (IsClosed tail → ⊥) → ((body : List ℕ) → length body < 2 ^ 32 → BeginsWithRow tail body → ⊥)
    → open_rows before ++ tail ≡ open_rows others ++ rest → IsClosed rest → ⊥
no_rows [] [] tail rest small no_end no_row is closed = no_end (subst IsClosed (sym is) closed)
no_rows [] (y ∷ ys) tail rest small no_end no_row is closed =
    let row = is ∙ append_assoc (row_of y) (open_rows ys) rest in
    let short : length y < 2 ^ 32 =
    omega (
      arith,
      small,
      ap length row,
      length-append (row_of y)
          (open_rows ys ++ rest),
      length-row_of y,
    ) in
    no_row y short (open_rows ys ++ rest, row)
no_rows (x ∷ xs) [] tail rest small no_end no_row is closed =
    not_closed x (open_rows xs ++ tail) rest
    (sym is ∙ append_assoc (row_of x) (open_rows xs) tail) closed
no_rows (x ∷ xs) (y ∷ ys) tail rest small no_end no_row is closed =
    let one = append_assoc (row_of x) (open_rows xs) tail in
    let other = append_assoc (row_of y) (open_rows ys) rest in
    let size = ap length one ∙ length-append (row_of x) (open_rows xs ++ tail) in
    let size_y = ap length (is ∙ other) ∙ length-append (row_of y) (open_rows ys ++ rest) in
    let small_x : length x < 2 ^ 32 = omega (arith, small, size, length-row_of x) in
    let small_y : length y < 2 ^ 32 = omega (arith, small, size_y, length-row_of y) in
    let same = same_row x y (open_rows xs ++ tail) (open_rows ys ++ rest) small_x small_y
    (sym one ∙ is ∙ other) in
    no_rows xs ys tail rest (omega (arith, small, size)) no_end no_row same.1 closed

module _ (bytes : List ℕ) (bodies : List (List ℕ)) (place : ℕ)
    (so_far : RowsUpTo bytes bodies place) where
  pub split : (rest : List ℕ) → drop place bytes ≡ rest → bytes ≡ open_rows bodies ++ rest
  split rest is =
      sym (take-append-drop place bytes) ∙ ap (λ (l : List ℕ). l ++ drop place bytes) so_far.rows
      ∙ ap (λ (l : List ℕ). open_rows bodies ++ l) is

  -- one more open row
  pub RowsUpTo-row : (body : List ℕ) → BeginsWithRow (drop place bytes) body
      → RowsUpTo bytes (bodies ++ body ∷ []) (place + 5 + length body)
  RowsUpTo-row body (rest, row) =
      let longer = length-open_rows-push bodies body in
      let whole : bytes ≡ open_rows (bodies ++ body ∷ []) ++ rest =
      split (row_of body ++ rest) row ∙ sym (open_rows-push bodies body rest) in
      let end : place + 5 + length body ≡ length (open_rows (bodies ++ body ∷ [])) =
      omega (arith, longer, so_far.end) in
      record {
        end = end;
        rows = ap (take (place + 5 + length body)) whole
            ∙ take_at (open_rows (bodies ++ body ∷ [])) rest (place + 5 + length body) (sym end);
      }

  -- as `read_row` returns it: its body is the part of that length behind its head
  pub RowsUpTo-open : (at here len next : ℕ) → RowIs at (drop place bytes) (Open here len next)
      → (RowsUpTo bytes (bodies ++ part (place + 5) len bytes ∷ []) (place + 5 + len))
      × (length (part (place + 5) len bytes) ≡ len)
  RowsUpTo-open at here len next (body, (rest, row), size, here_is, next_is) =
      let behind : drop (place + 5) bytes ≡ body ++ rest =
      sym (drop-drop 5 place bytes) ∙ ap (drop 5) row in
      let is_part : part (place + 5) len bytes ≡ body =
      ap (take len) behind ∙ take_at body rest len size in
      let P : List ℕ → Type 0 =
      λ b. RowsUpTo bytes (bodies ++ b ∷ []) (place + 5 + len) × (length b ≡ len) in
      let Q : ℕ → Type 0 = λ n. RowsUpTo bytes (bodies ++ body ∷ []) (place + 5 + n) in
      subst P (sym is_part) (subst Q size (RowsUpTo-row body (rest, row)), size)

  -- the end
  pub RowsUpTo-end : (at : ℕ) → RowIs at (drop place bytes) End → HasRows bytes bodies
  RowsUpTo-end at closed = (drop place bytes, split (drop place bytes) refl, closed)

  -- a row that doesn't lie in the bank
  pub RowsUpTo-overrun : (at : ℕ) (others : List (List ℕ)) → length bytes < 2 ^ 32
      → RowIs at (drop place bytes) Overrun → HasRows bytes others → ⊥
  RowsUpTo-overrun at others small overrun (rest, is, closed) =
      let tail = drop place bytes in
      let whole = split tail refl in
      no_rows bodies others tail rest (omega (arith, small, ap length whole)) overrun.0 overrun.1
      (sym whole ∙ is) closed

-- before the first row
pub RowsUpTo-start : (bytes : List ℕ) → RowsUpTo bytes [] 0
RowsUpTo-start bytes = record { end = refl; rows = refl }

-- an open row that is read behind another
read_from : (bytes : List ℕ) (body : List ℕ) (bodies : List (List ℕ))
    → bytes ≡ row_of body ++ drop (5 + length body) bytes
    → HasRows (drop (5 + length body) bytes) bodies → HasRows bytes (body ∷ bodies)
read_from bytes body bodies row (rest, is, closed) = (
  rest,
  row ∙ ap (λ (l : List ℕ). row_of body ++ l) is
      ∙ sym (append_assoc (row_of body) (open_rows bodies) rest),
  closed,
)

behind_row : (bytes body rest : List ℕ) → bytes ≡ row_of body ++ rest
    → drop (5 + length body) bytes ≡ rest
behind_row bytes body rest is =
    ap (drop (5 + length body)) is
    ∙ drop_at (row_of body) rest (5 + length body) (length-row_of body)

pub reads_as : (at : ℕ) (bytes : List ℕ) (bodies : List (List ℕ)) → HasRows bytes bodies
    → ReadsAs at bytes bodies
reads_as at bytes [] (rest, is, closed) = subst IsClosed (sym is) closed
reads_as at bytes (body ∷ bodies) (rest, is, closed) =
    let row : bytes ≡ row_of body ++ (open_rows bodies ++ rest) =
    is ∙ append_assoc (row_of body) (open_rows bodies) rest in
    let behind = behind_row bytes body (open_rows bodies ++ rest) row in (
      (body, (open_rows bodies ++ rest, row), refl, refl, refl),
      ap (λ (l : List ℕ). take (length body) (drop 5 l)) row
          ∙ take_at body (open_rows bodies ++ rest) (length body) refl,
      reads_as (at + 5 + length body) (drop (5 + length body) bytes) bodies (rest, behind, closed),
    )

pub are_read : (at : ℕ) (bytes : List ℕ) (bodies : List (List ℕ)) → ReadsAs at bytes bodies
    → HasRows bytes bodies
are_read at bytes [] closed = (bytes, refl, closed)
are_read at bytes (body ∷ bodies) (open_row, same, more) =
    let found = open_row.0 in
    let rest = open_row.1.0 in
    let row : bytes ≡ row_of found ++ rest = open_row.1.1 in
    let size : length found ≡ length body = open_row.2 in
    let is : found ≡ body =
    sym (ap (λ (l : List ℕ). take (length body) (drop 5 l)) row
    ∙ take_at found rest (length body) size) ∙ same in
    let row_is : bytes ≡ row_of body ++ rest = row ∙ ap (λ (l : List ℕ). row_of l ++ rest) is in
    let behind = behind_row bytes body rest row_is in
    read_from bytes body bodies (row_is ∙ ap (λ (l : List ℕ). row_of body ++ l) (sym behind))
    (are_read (at + 5 + length body) (drop (5 + length body) bytes) bodies more)

-- the same of a bank in a flash, as `read_row` returns its rows
module _ (bank : Bank) (at : ℕ) (image : List ℕ) (bodies : List (List ℕ))
    (from_start : start_of bank ≤ at)
    (to_end : at ≤ end_of bank)
    (so_far : RowsUpTo (bank_bytes bank image) bodies (at - start_of bank)) where
  rest_is : part at (end_of bank - at) image ≡ drop (at - start_of bank) (bank_bytes bank image)
  rest_is = rest_of_bank bank at image from_start to_end

  pub bank-open : (here len next : ℕ)
      → RowIs at (part at (end_of bank - at) image) (Open here len next)
      → LiesBefore at (end_of bank) (Open here len next)
      → (RowsUpTo (bank_bytes bank image) (bodies ++ part here len image ∷ [])
      (next - start_of bank))
      × (length (part here len image) ≡ len)
  bank-open here len next row lies =
      let place = at - start_of bank in
      let Is : List ℕ → Type 0 = λ rest. RowIs at rest (Open here len next) in
      let found =
      RowsUpTo-open (bank_bytes bank image) bodies place so_far at here len next
      (subst Is rest_is row) in
      let there : start_of bank + (place + 5) ≡ here = omega (arith, lies.0) in
      let next_is : place + 5 + len ≡ next - start_of bank = omega (arith, lies.0, lies.1) in
      let is_part : part (place + 5) len (bank_bytes bank image) ≡ part here len image =
      part-part (start_of bank) (4096 * bank.blocks) (place + 5) len image
      (omega (arith, lies.0, lies.1, lies.2))
      ∙ ap (λ (k : ℕ). part k len image) there in
      let P : List ℕ → Type 0 =
      λ b. (RowsUpTo (bank_bytes bank image) (bodies ++ b ∷ []) (next - start_of bank)) ×
      (length b ≡ len) in
      let Q : ℕ → Type 0 =
      λ k. RowsUpTo (bank_bytes bank image)
      (bodies ++ part (place + 5) len (bank_bytes bank image) ∷ []) k in
      subst P is_part (subst Q next_is found.0, found.1)

  pub bank-end : RowIs at (part at (end_of bank - at) image) End
      → HasRows (bank_bytes bank image) bodies
  bank-end row =
      let Is : List ℕ → Type 0 = λ rest. RowIs at rest End in
      RowsUpTo-end (bank_bytes bank image) bodies (at - start_of bank) so_far at
      (subst Is rest_is row)

  pub bank-overrun : (others : List (List ℕ)) → length (bank_bytes bank image) < 2 ^ 32
      → RowIs at (part at (end_of bank - at) image) Overrun → HasRows (bank_bytes bank image) others
      → ⊥
  bank-overrun others small row has =
      let Is : List ℕ → Type 0 = λ rest. RowIs at rest Overrun in
      RowsUpTo-overrun (bank_bytes bank image) bodies (at - start_of bank) so_far at others small
      (subst Is rest_is row) has
