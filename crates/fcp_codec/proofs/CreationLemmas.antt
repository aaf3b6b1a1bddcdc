-- A head that is made of parameters is that of a file that may be added, and one that is refused
-- for what is in use isn't.
use Rattle.std.proofs.Common.{◌≡◌, ◌≢◌, ◌⊎◌, ℕ, ◌*◌, ◌/◌, ◌%◌, ◌≤◌, Bool, true, false, not, cond}
use Rattle.std.proofs.Common.{◌&&◌, ◌||◌, ◌==◌, List, [], ◌∷◌, ◌++◌, length, find, refl, sym, ap}
use Rattle.std.proofs.Common.{inl, inr, Option, Some, None, Result, Ok, Err, arith}
use Rattle.std.specs.Prelude.{nat_le, is_none, is_some, option_and_then, option_map, unwrap_or}
use Rattle.std.specs.List.{AllByRecursion}
use Rattle.std.proofs.lemmas.Bool.{true≢false}
use Rattle.std.proofs.lemmas.Bool.Decides.{Decides-eqb, nat_tests}
use Rattle.plain_lists.specs.FirstOf.{first_of}
use Rattle.file_rows.specs.FileHead.{HasForm}
use Rattle.file_rows.specs.declared.head.FileHead.{FileHead}
use Rattle.file_rows.specs.declared.head.Life.{Life}
use Rattle.file_rows.specs.declared.head.Rule.{Rule}
use Rattle.file_rows.proofs.FormLemmas.{records_of}
use Rattle.fcp_codec.specs.FileForm.{form_of}
use Rattle.fcp_codec.specs.Creation.{are_records, described_by, fault_unless, size_told}
use Rattle.fcp_codec.specs.Creation.{is_directory, is_ef_sfi, sfi_in_id, is_name_of, is_size_of}
use Rattle.fcp_codec.specs.Creation.{kind_for, made_unless, record_len_for}
use Rattle.fcp_codec.specs.declared.creation.CreationFault.{CreationFault}
use Rattle.fcp_codec.specs.declared.creation.CreationFault.TheVariants.{BadParameters, IdInUse}
use Rattle.fcp_codec.specs.declared.creation.CreationFault.TheVariants.{NameInUse, QuotaExceeded}
use Rattle.fcp_codec.specs.declared.creation.Described.{Described}
use Rattle.fcp_codec.specs.declared.fcp.Fcp.{Fcp}
use Rattle.fcp_codec.specs.declared.fcp.FileForm.{FileForm}
use Rattle.fcp_codec.specs.declared.fcp.FileForm.TheVariants.{Directory, Transparent, Linear}
use Rattle.fcp_codec.specs.declared.fcp.FileForm.TheVariants.{Cyclic}

pub two_hold : (a b : Bool) → (a && b) ≡ true → (a ≡ true) × (b ≡ true)
two_hold true b e = (refl, e)
two_hold false b e = absurd (true≢false (sym e))

pub le_of : (a b : ℕ) → nat_le a b ≡ true → a ≤ b
le_of a b e = grind (arith, nat_tests)

-- what made a head, or refused one
abbrev outcome : Bool → Bool → Bool → Bool → FileHead → Result FileHead CreationFault
outcome good id name room head = made_unless
    (first_of (fault_unless good BadParameters ∷ fault_unless (not id) IdInUse ∷ fault_unless (not name) NameInUse ∷ fault_unless room QuotaExceeded ∷ [])) head

pub made_is : (good id name room : Bool) (told head : FileHead) → outcome good id name room told ≡ Ok head
    → (good ≡ true) × (id ≡ false) × (name ≡ false) × (room ≡ true) × (told ≡ head)
made_is false id name room told head e = absurd (cc)
made_is true true name room told head e = absurd (cc)
made_is true false true room told head e = absurd (cc)
made_is true false false false told head e = absurd (cc)
made_is true false false true told head e = (refl, refl, refl, refl, cc)

pub refused_is : (good id name room : Bool) (told : FileHead) (fault : CreationFault) → outcome good id name room told ≡ Err fault → fault ≢ BadParameters
    → (id ≡ true) ⊎ ((name ≡ true) ⊎ (room ≡ false))
refused_is false id name room told fault e other = absurd (other (cc))
refused_is true true name room told fault e other = inl refl
refused_is true false true room told fault e other = inr (inl refl)
refused_is true false false false told fault e other = inr (inr refl)
refused_is true false false true told fault e other = absurd (cc)

path_below : (directory : List ℕ) (id : ℕ) → directory ++ id ∷ [] ≢ []
path_below [] id e = cc
path_below (a ∷ directory) id e = cc

no_ids : (directory : List ℕ) → (length directory == 0) ≡ true → directory ≡ []
no_ids [] e = refl
no_ids (a ∷ directory) e = absurd (let none : length (a ∷ directory) ≡ 0 = (Decides-eqb (length (a ∷ directory)) 0).0 e in omega (arith, none))

-- the size of a record file is that of 1 to 254 records
record Records (len size : ℕ) : Type 0 where
  pub shortest : 1 ≤ len
  pub longest : len ≤ 255
  pub records : (count : ℕ) × (1 ≤ count) × (count ≤ 254) × (size ≡ count * len)

records_are : (len size : ℕ) → are_records len size ≡ true → Records len size
records_are len size e =
    let a = two_hold (nat_le 1 len && nat_le len 255 && (size % len == 0) && nat_le 1 (size / len)) (nat_le (size / len) 254) e in
    let b = two_hold (nat_le 1 len && nat_le len 255 && (size % len == 0)) (nat_le 1 (size / len)) a.0 in
    let c = two_hold (nat_le 1 len && nat_le len 255) (size % len == 0) b.0 in
    let d = two_hold (nat_le 1 len) (nat_le len 255) c.0 in
    let shortest = le_of 1 len d.0 in
    record {
      shortest = shortest;
      longest = le_of len 255 d.1;
      records = records_of size len shortest ((Decides-eqb (size % len) 0).0 c.1) (le_of 1 (size / len) b.1) (le_of (size / len) 254 a.1);
    }

-- what parameters make has the form of its kind
pub form_is : (form : FileForm) (name : Option (List ℕ)) (directory : List ℕ) (id size sfi : ℕ) (life : Life) (rule : Option Rule)
    → is_name_of form directory name ≡ true → is_size_of form size ≡ true → (is_directory form ≡ true → sfi ≡ 0) → sfi ≤ 30
    → HasForm (kind_for form (is_some name)) (record {
      path = directory ++ id ∷ [];
      kind = kind_for form (is_some name);
      life = life;
      sfi = sfi;
      name = unwrap_or name [];
      rule = rule;
      record_len = record_len_for form;
      size = size;
    })
form_is Directory None directory id size sfi life rule named sized none few = record {
  path = path_below directory id;
  name = refl;
  bare = record { size = (Decides-eqb size 0).0 sized; record_len = refl; sfi = none refl };
}
form_is Directory (Some name) directory id size sfi life rule named sized none few =
    let b = two_hold ((length directory == 0) && nat_le 5 (length name)) (nat_le (length name) 16) named in
    let a = two_hold (length directory == 0) (nat_le 5 (length name)) b.0 in
    record {
      path = (id, ap (λ (p : List ℕ). p ++ id ∷ []) (no_ids directory a.0));
      shortest = le_of 5 (length name) a.1;
      longest = le_of (length name) 16 b.1;
      bare = record { size = (Decides-eqb size 0).0 sized; record_len = refl; sfi = none refl };
    }
form_is Transparent None directory id size sfi life rule named sized none few =
    let a = two_hold (nat_le 1 size) (nat_le size 65504) sized in
    record {
      path = path_below directory id;
      name = refl;
      sfi = few;
      record_len = refl;
      smallest = le_of 1 size a.0;
      largest = le_of size 65504 a.1;
    }
form_is Transparent (Some name) directory id size sfi life rule named sized none few = absurd (true≢false (sym named))
form_is (Linear len) None directory id size sfi life rule named sized none few =
    let is = records_are len size sized in
    record { path = path_below directory id; name = refl; sfi = few; shortest = is.shortest; longest = is.longest; records = is.records }
form_is (Linear len) (Some name) directory id size sfi life rule named sized none few = absurd (true≢false (sym named))
form_is (Cyclic len) None directory id size sfi life rule named sized none few =
    let is = records_are len size sized in
    record { path = path_below directory id; name = refl; sfi = few; shortest = is.shortest; longest = is.longest; records = is.records }
form_is (Cyclic len) (Some name) directory id size sfi life rule named sized none few = absurd (true≢false (sym named))

-- an SFI that is taken from the identifier is at most 30
low_sfi : (id : ℕ) → sfi_in_id id ≤ 30
low_sfi id =
    let step : (b : Bool) → (id % 32 == 31) ≡ b → cond b 0 (id % 32) ≤ 30
    = λ b. elim b as (λ b. (id % 32 == 31) ≡ b → cond b 0 (id % 32) ≤ 30) [
      | true ↦ λ e. omega arith
      | false ↦ λ e. grind (arith, nat_tests, e)
    ]
    in step (id % 32 == 31) refl

-- the SFI of a new file is at most 30, and free where there is one
pub sfi_is : (form : FileForm) (used : Bool) (given : Option ℕ) (id : ℕ) → (is_directory form || is_ef_sfi used given) ≡ true
    → let sfi = cond (is_directory form) 0 (cond (is_none given && used) 0 (unwrap_or given (sfi_in_id id))) in
    (sfi ≤ 30) × ((sfi ≡ 0) ⊎ ((used ≡ false) × (sfi ≡ unwrap_or given (sfi_in_id id))))
sfi_is form used given id good = by_kind (is_directory form) used given good
  where
    by_kind : (d used : Bool) (given : Option ℕ) → (d || is_ef_sfi used given) ≡ true
        → let sfi = cond d 0 (cond (is_none given && used) 0 (unwrap_or given (sfi_in_id id))) in
        (sfi ≤ 30) × ((sfi ≡ 0) ⊎ ((used ≡ false) × (sfi ≡ unwrap_or given (sfi_in_id id))))
    by_kind true used given e = (omega arith, inl refl)
    by_kind false true None e = (omega arith, inl refl)
    by_kind false false None e = (low_sfi id, inr (refl, refl))
    by_kind false true (Some sfi) e = absurd (true≢false (sym (two_hold (nat_le sfi 30) false e).1))
    by_kind false false (Some sfi) e = (le_of sfi 30 (two_hold (nat_le sfi 30) true e).0, inr (refl, refl))

-- no element of a list passes where none is found
pub none_passes : {X : Type 0} (test : X → Bool) (xs : List X) → is_some (find test xs) ≡ false → AllByRecursion (λ x. test x ≡ false) xs
none_passes test [] e = tt
none_passes {X} test (x ∷ xs) e =
    let step : (b : Bool) → test x ≡ b → is_some (cond b (Some x) (find test xs)) ≡ false → (test x ≡ false) × AllByRecursion (λ x. test x ≡ false) xs
    = λ b. elim b as (λ b. test x ≡ b → is_some (cond b (Some x) (find test xs)) ≡ false → (test x ≡ false) × AllByRecursion (λ x. test x ≡ false) xs) [
      | true ↦ λ passes f. absurd (true≢false f)
      | false ↦ λ fails f. (fails, none_passes test xs f)
    ]
    in step (test x) refl e

-- what is found passes, and has what each element has
pub found_passes : {X : Type 0} (P : X → Type 0) (test : X → Bool) (xs : List X) → AllByRecursion P xs → is_some (find test xs) ≡ true → (x : X) × P x × (test x ≡ true)
found_passes P test [] each e = absurd (true≢false (sym e))
found_passes {X} P test (x ∷ xs) each e =
    let step : (b : Bool) → test x ≡ b → is_some (cond b (Some x) (find test xs)) ≡ true → (x : X) × P x × (test x ≡ true)
    = λ b. elim b as (λ b. test x ≡ b → is_some (cond b (Some x) (find test xs)) ≡ true → (x : X) × P x × (test x ≡ true)) [
      | true ↦ λ passes f. (x, each.0, passes)
      | false ↦ λ fails f. found_passes P test xs each.1 f
    ]
    in step (test x) refl e

described_parts : (form : Option FileForm) (id : Option ℕ) (size : FileForm → Option ℕ) (told : Described)
    → option_and_then (λ form. option_and_then (λ id. option_map (λ size. record { form = form; id = id; size = size }) (size form)) id) form ≡ Some told → id ≡ Some told.id
described_parts None id size told e = absurd (cc)
described_parts (Some form) None size told e = absurd (cc)
described_parts (Some form) (Some id) size told e = sized (size form) e
  where
    sized : (s : Option ℕ) → option_map (λ (size : ℕ). let d : Described = record { form = form; id = id; size = size } in d) s ≡ Some told → Some id ≡ Some told.id
    sized None e = absurd (cc)
    sized (Some s) e = let same : record { form = form; id = id; size = s } ≡ told = cc in ap (λ (d : Described). Some d.id) same

-- what is described has the identifier of 83
pub described_id : (fcp : Fcp) (told : Described) → described_by fcp ≡ Some told → fcp.id ≡ Some told.id
described_id fcp told e = described_parts (form_of fcp.descriptor) fcp.id (λ form. size_told form fcp.size) told e
