-- A bank has no two lists of open rows.
use Rattle.std.proofs.Common.{◌≡◌, ℕ, ◌^◌, ◌<◌, List, [], ◌∷◌, ◌++◌, length, take, drop, refl, sym}
use Rattle.std.proofs.Common.{◌∙◌, ap, subst, arith, append_assoc, length-append}
use Rattle.std.specs.Int.{to_be_bytes, from_be_bytes, w32}
use Rattle.std.proofs.lemmas.List.{take_at, drop_at}
use Rattle.std.proofs.lemmas.Nat.{from_be_bytes-to_be_bytes_4}
use Rattle.flash_pages.specs.Rows.{row_of, open_rows, IsClosed, HasRows}
use Rattle.flash_pages.proofs.RowLemmas.{length-row_of}

-- two rows that begin the same list have the same body
pub same_row : (x y more other : List ℕ) → length x < 2 ^ 32 → length y < 2 ^ 32
    → row_of x ++ more ≡ row_of y ++ other → (x ≡ y) × (more ≡ other)
same_row x y more other small_x small_y is =
    let spelled_x = to_be_bytes w32 (length x) in
    let spelled_y = to_be_bytes w32 (length y) in
    let behind : (spelled_x ++ x) ++ more ≡ (spelled_y ++ y) ++ other = ap (drop 1) is in
    let split : spelled_x ++ (x ++ more) ≡ spelled_y ++ (y ++ other) =
    sym (append_assoc spelled_x x more) ∙ behind ∙ append_assoc spelled_y y other in
    let lengths : spelled_x ≡ spelled_y =
    sym (take_at spelled_x (x ++ more) 4 refl) ∙ ap (take 4) split
    ∙ take_at spelled_y (y ++ other) 4 refl in
    let bodies : x ++ more ≡ y ++ other =
    sym (drop_at spelled_x (x ++ more) 4 refl) ∙ ap (drop 4) split
    ∙ drop_at spelled_y (y ++ other) 4 refl in
    let size : length x ≡ length y =
    sym (from_be_bytes-to_be_bytes_4 (length x) small_x) ∙ ap (from_be_bytes w32) lengths
    ∙ from_be_bytes-to_be_bytes_4 (length y) small_y in (
      sym (take_at x more (length x) refl) ∙ ap (take (length x)) bodies
          ∙ take_at y other (length x) (sym size),
      sym (drop_at x more (length x) refl) ∙ ap (drop (length x)) bodies
          ∙ drop_at y other (length x) (sym size),
    )

-- no open row begins a closed list
pub not_closed : (body more rest : List ℕ) → rest ≡ row_of body ++ more → IsClosed rest → ⊥
not_closed body more rest is closed =
    let open_gate : IsClosed (row_of body ++ more) = subst IsClosed is closed in open_gate refl

pub unique : (bytes : List ℕ) (first second : List (List ℕ)) → length bytes < 2 ^ 32
    → HasRows bytes first → HasRows bytes second → first ≡ second
unique bytes [] [] small one other = refl
unique bytes [] (y ∷ ys) small one other =
    absurd (not_closed y (open_rows ys ++ other.0) one.0
    (sym one.1 ∙ other.1 ∙ append_assoc (row_of y) (open_rows ys) other.0) one.2)
unique bytes (x ∷ xs) [] small one other =
    absurd (not_closed x (open_rows xs ++ one.0) other.0
    (sym other.1 ∙ one.1 ∙ append_assoc (row_of x) (open_rows xs) one.0) other.2)
unique bytes (x ∷ xs) (y ∷ ys) small one other =
    let more = open_rows xs ++ one.0 in
    let others = open_rows ys ++ other.0 in
    let first_is : bytes ≡ row_of x ++ more = one.1 ∙ append_assoc (row_of x) (open_rows xs) one.0 in
    let second_is : bytes ≡ row_of y ++ others =
    other.1 ∙ append_assoc (row_of y) (open_rows ys) other.0 in
    let small_x : length x < 2 ^ 32 =
    omega (arith, ap length first_is, length-append (row_of x) more, length-row_of x) in
    let small_y : length y < 2 ^ 32 =
    omega (arith, ap length second_is, length-append (row_of y) others, length-row_of y) in
    let small_more : length more < 2 ^ 32 =
    omega (arith, ap length first_is, length-append (row_of x) more) in
    let same = same_row x y more others small_x small_y (sym first_is ∙ second_is) in
    let rest : xs ≡ ys =
    unique more xs ys small_more (one.0, refl, one.2) (other.0, same.1, other.2) in
    ap (λ (b : List ℕ). b ∷ xs) same.0 ∙ ap (λ (bs : List (List ℕ)). y ∷ bs) rest
