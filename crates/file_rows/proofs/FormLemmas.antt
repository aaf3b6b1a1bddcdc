use Rattle.std.proofs.Common.{◌≡◌, ℕ, ◌+◌, ◌-◌, ◌*◌, ◌/◌, ◌%◌, ◌≤◌, ◌↔◌, Bool, List, [], ◌∷◌}
use Rattle.std.proofs.Common.{length, take, get_or, sym, ◌∙◌, ap, subst, arith}
use Rattle.std.proofs.Math.Seq.{take-append_seam}
use Rattle.std.proofs.lemmas.List.{length-append, take_all, take_more}
use Rattle.std.proofs.lemmas.Slice.Eq.{bytes_eq-Decides}
use Rattle.std.specs.Bool.{IsTrue}
use Rattle.std.specs.Str.{bytes_eq}
use Rattle.file_rows.specs.Path.{IsIn}

-- a path without its last identifier is that of its directory
pub directory_holds : (file : List ℕ) → 1 ≤ length file → IsIn (take (length file - 1) file) file
directory_holds file some =
    let whole : take ((length file - 1) + 1) file ≡ file = take_all ((length file - 1) + 1) file (omega (arith, some)) in
    (get_or file (length file - 1) 0, sym whole ∙ take_more file (length file - 1) 0 (omega (arith, some)))

-- and of no other one
pub directory_is : (directory file : List ℕ) → IsIn directory file → take (length file - 1) file ≡ directory
directory_is directory file inside =
    let many : length file - 1 ≡ length directory = omega (arith, ap length inside.1, length-append directory (inside.0 ∷ [])) in
    ap (λ (n : ℕ). take n file) many ∙ ap (take (length directory)) inside.1 ∙ take-append_seam directory (inside.0 ∷ [])

pub is_in_directory : (directory file : List ℕ) (r : Bool) → 1 ≤ length file → r ≡ bytes_eq (take (length file - 1) file) directory → IsTrue r ↔ IsIn directory file
is_in_directory directory file r some is = (
  λ e.
      let directory_path : take (length file - 1) file ≡ directory = (bytes_eq-Decides (take (length file - 1) file) directory).0 (sym is ∙ e) in
      subst (λ (p : List ℕ). IsIn p file) directory_path (directory_holds file some),
  λ inside. is ∙ (bytes_eq-Decides (take (length file - 1) file) directory).1 (directory_is directory file inside),
)

-- a file in the directory of another one is in one directory with it
pub share_directory_of : (one other : List ℕ) (r : Bool) → 1 ≤ length one → (IsTrue r ↔ IsIn (take (length one - 1) one) other)
    → IsTrue r ↔ ((path : List ℕ) × IsIn path one × IsIn path other)
share_directory_of one other r some test = (
  λ e. (take (length one - 1) one, directory_holds one some, test.0 e),
  λ shared. test.1 (subst (λ (p : List ℕ). IsIn p other) (sym (directory_is shared.0 one shared.1)) shared.2),
)

-- a size that is divided by the bytes of a record
pub records_of : (size len : ℕ) → 1 ≤ len → size % len ≡ 0 → 1 ≤ size / len → size / len ≤ 254 → (count : ℕ) × (1 ≤ count) × (count ≤ 254) × (size ≡ count * len)
records_of size len some whole least most = (size / len, least, most, omega (arith, some, whole))
