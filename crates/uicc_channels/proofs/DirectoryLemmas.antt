-- The directory in which a file stands.
use Rattle.std.proofs.Common.{◌≡◌, ◌≢◌, ℕ, zero, suc, ◌+◌, ◌-◌, ◌<◌, false, List, [], ◌∷◌, ◌++◌}
use Rattle.std.proofs.Common.{length, take, get_or, refl, sym, ◌∙◌, ap, subst, inr, arith}
use Rattle.std.proofs.Common.{length-append}
use Rattle.std.proofs.lemmas.Bool.Decides.{nat_tests}
use Rattle.std.proofs.Math.Seq.{take-append_seam}
use Rattle.std.proofs.lemmas.List.{append_assoc, get_or_append_left}
use Rattle.std.specs.List.{AllByRecursion}
use Rattle.std.specs.Option.{unwrap_or}
use Rattle.std.specs.Prelude.{◌==◌, Any}
use Rattle.file_rows.specs.Content.{AreFiles, AreTree, StandInEarlier, heads_of}
use Rattle.file_rows.specs.FileHead.{Holds}
use Rattle.file_rows.specs.Path.{master, parent_of, same_path}
use Rattle.file_rows.specs.declared.head.FileHead.{FileHead}
use Rattle.file_rows.specs.declared.head.Kind.TheVariants.{Master}
use Rattle.file_rows.specs.declared.row.FileRow.{FileRow}
use Rattle.uicc_channels.specs.Chan.{IsDirectoryIn}
use Rattle.uicc_channels.proofs.AmongLemmas.{AreApart, IsAmong, among_first, among_later}
use Rattle.uicc_channels.proofs.AmongLemmas.{found_head}

-- what holds of one of the first ones holds of one of all
any_of_more : (P : FileHead → Type 0) (xs ys : List FileHead) → Any P xs → Any P (xs ++ ys)
any_of_more P xs ys any =
    (any.0, any.1, omega (arith, any.2, length-append xs ys), get_or_append_left xs ys any.1 any.0 any.2 ∙ any.3, any.4)

-- each file stands in one of the card
stand_in_one : (earlier heads : List FileHead) → StandInEarlier earlier heads → AllByRecursion (λ head. Any (λ directory. Holds directory head) (earlier ++ heads)) heads
stand_in_one earlier [] stand = tt
stand_in_one earlier (head ∷ heads) stand = (
  any_of_more (λ directory. Holds directory head) earlier (head ∷ heads) stand.0,
  subst (λ (all : List FileHead). AllByRecursion (λ head. Any (λ directory. Holds directory head) all) heads) (append_assoc earlier (head ∷ []) heads) (stand_in_one (earlier ++ head ∷ []) heads stand.1),
)

all_mapped : (P Q : FileHead → Type 0) (heads : List FileHead) → ((head : FileHead) → P head → Q head) → AllByRecursion P heads → AllByRecursion Q heads
all_mapped P Q [] each all = tt
all_mapped P Q (head ∷ heads) each all = (each head all.0, all_mapped P Q heads each all.1)

-- a file that isn't the MF stands in one of the card
abbrev HasDirectory : List FileHead → FileHead → Type 0
HasDirectory heads head = head.kind ≢ Master → Any (λ directory. Holds directory head) heads

have_directories : (heads : List FileHead) → AreTree heads → AllByRecursion (HasDirectory heads) heads
have_directories [] tree = absurd tree
have_directories (first ∷ heads) tree = (
  λ other. absurd (other tree.0),
  all_mapped (λ head. Any (λ directory. Holds directory head) (first ∷ heads)) (HasDirectory (first ∷ heads)) heads (λ head any other. any) (stand_in_one (first ∷ []) heads tree.2),
)

-- what holds of a head of the files holds of that of a file among them
one_among : (P : FileHead → Type 0) (rows : List FileRow) → AreApart rows → (k : ℕ) (head : FileHead) → k < length (heads_of rows) → get_or (heads_of rows) k head ≡ head → P head
    → (row : FileRow) × IsAmong rows row × P row.head
one_among P [] apart k head within at holds = absurd (omega (arith, within))
one_among P (row ∷ rows) apart zero head within at holds = (row, among_first row rows, subst P (sym at) holds)
one_among P (row ∷ rows) apart (suc k) head within at holds =
    let later : (row : FileRow) × IsAmong rows row × P row.head = one_among P rows apart.1 k head (omega (arith, within)) at holds in
    (later.0, among_later row rows later.0 apart.0 later.1, later.2)

parent_of-longer : (path : List ℕ) (n : ℕ) → length path ≡ n + 1 → unwrap_or (parent_of path) master ≡ take n path
parent_of-longer path n e =
    let some : (length path == 0) ≡ false = grind (arith, nat_tests) in
    let before : length path - 1 ≡ n = omega (arith, e) in
    rw (some, before) refl

-- the directory of a path is what stands before its last identifier
parent_of-snoc : (prefix : List ℕ) (id : ℕ) → unwrap_or (parent_of (prefix ++ id ∷ [])) master ≡ prefix
parent_of-snoc prefix id = parent_of-longer (prefix ++ id ∷ []) (length prefix) (length-append prefix (id ∷ [])) ∙ take-append_seam prefix (id ∷ [])

-- the directory of a file is among the files
pub directory_of_file : (rows : List FileRow) (row : FileRow) → AreFiles rows → IsAmong rows row → row.head.kind ≢ Master → IsDirectoryIn rows (unwrap_or (parent_of row.head.path) master)
directory_of_file rows row files among other =
    let any : Any (λ directory. Holds directory row.head) (heads_of rows) =
    found_head (HasDirectory (heads_of rows)) (λ (x : FileRow). same_path x.head.path row.head.path) rows row (have_directories (heads_of rows) files.tree) among other in
    let above : (directory : FileRow) × IsAmong rows directory × Holds directory.head row.head =
    one_among (λ directory. Holds directory row.head) rows files.paths any.0 any.1 any.2 any.3 any.4 in
    let path : unwrap_or (parent_of row.head.path) master ≡ above.0.head.path =
    ap (λ (path : List ℕ). unwrap_or (parent_of path) master) above.2.path.1 ∙ parent_of-snoc above.0.head.path above.2.path.0 in
    inr (rw (path, above.1) above.2.kind)
