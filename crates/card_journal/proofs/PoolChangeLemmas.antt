-- A pooled content changed.
use Rattle.std.proofs.Common.{◌≡◌, ◌≢◌, ℕ, ◌≤◌, Bool, true, false, cond, List, [], ◌∷◌, length}
use Rattle.std.proofs.Common.{filter, set, Option, refl, sym, ◌∙◌, ap, subst, arith}
use Rattle.std.specs.Prelude.{IsSomeAnd, slice_get}
use Rattle.std.specs.List.{AllByRecursion}
use Rattle.plain_lists.specs.EachTwo.{EachTwo}
use Rattle.file_rows.specs.Change.{with_file}
use Rattle.file_rows.specs.Content.{file_at, heads_of, use_of}
use Rattle.file_rows.specs.declared.change.Change.{Change}
use Rattle.file_rows.specs.declared.change.Change.TheVariants.{WriteRange, WriteRecord, PinSet}
use Rattle.file_rows.specs.declared.change.Change.TheVariants.{FileAdd, FileGone, FileState}
use Rattle.file_rows.specs.declared.change.Change.TheVariants.{FileSize}
use Rattle.file_rows.specs.declared.head.FileHead.{FileHead}
use Rattle.file_rows.specs.declared.row.FileRow.{FileRow}
use Rattle.file_rows.proofs.EditLemmas.{is_some_and, some_is}
use Rattle.card_journal.specs.Pool.{CanWrite, HasSizeRoom}
use Rattle.record_codec.specs.Pooled.{pooled_rows, pooled_size}
use Rattle.card_journal.proofs.PoolLemmas.{IsSized, pooled_bytes, heads_of-pooled_rows}
use Rattle.card_journal.proofs.PoolLemmas.{pooled_rows-pooled_bytes, size-heads_of}
use Rattle.card_journal.proofs.PoolLemmas.{sized-pooled_rows, use-pooled_rows}
use Rattle.record_codec.proofs.RowLemmas.{IsAt, none_at, row_there, with_there}
use Rattle.record_codec.proofs.PooledLemmas.{row-at}

-- what is said of the head at a place is said of the file there
pub row_at_place : (heads : List FileHead) (bytes : List ℕ) (index : ℕ) (path : List ℕ) → IsSomeAnd (slice_get heads index) (λ head. head.path ≡ path)
    → IsSomeAnd (slice_get (pooled_rows heads bytes) index) (IsAt path)
row_at_place heads bytes index path at =
    let head = some_is (slice_get heads index) (λ head. head.path ≡ path) at in
    is_some_and (slice_get (pooled_rows heads bytes) index) (IsAt path) _ (row-at heads index bytes head.0 head.1) head.2

-- a change of the file at the place of a path is one of the file of that path
pub changed_there : (path : List ℕ) (change : FileRow → FileRow) (rows new : List FileRow) (index : ℕ) → EachTwo (λ one other. one.path ≢ other.path) (heads_of rows)
    → IsSomeAnd (slice_get rows index) (IsAt path) → IsSomeAnd (slice_get rows index) (λ row. new ≡ set rows index (change row)) → new ≡ with_file path change rows
changed_there path change rows new index differ at said =
    let row = some_is (slice_get rows index) (λ row. new ≡ set rows index (change row)) said in
    let at' : row.0.head.path ≡ path = subst (λ (o : Option FileRow). IsSomeAnd o (IsAt path)) row.1 at in
    row.2 ∙ sym (with_there path change index rows row.0 differ row.1 at')

-- what is said of the file of a path is said of the file at its place
pub said_there : (path : List ℕ) (P : FileRow → Type 0) (rows : List FileRow) (index : ℕ) → EachTwo (λ one other. one.path ≢ other.path) (heads_of rows)
    → IsSomeAnd (slice_get rows index) (IsAt path) → IsSomeAnd (file_at path rows) P → IsSomeAnd (slice_get rows index) P
said_there path P rows index differ at said = subst (λ (o : Option FileRow). IsSomeAnd o P) (row_there path index rows differ at) said

heads_kept : (stays : FileHead → Bool) (rows : List FileRow) → heads_of (filter (λ row. stays row.head) rows) ≡ filter stays (heads_of rows)
heads_kept stays [] = refl
heads_kept stays (row ∷ rows) =
    let step : (b : Bool) → stays row.head ≡ b → heads_of (cond b (row ∷ filter (λ row. stays row.head) rows) (filter (λ row. stays row.head) rows))
    ≡ cond b (row.head ∷ filter stays (heads_of rows)) (filter stays (heads_of rows))
    = λ b. elim b as (λ b. stays row.head ≡ b → heads_of (cond b (row ∷ filter (λ row. stays row.head) rows) (filter (λ row. stays row.head) rows))
    ≡ cond b (row.head ∷ filter stays (heads_of rows)) (filter stays (heads_of rows))) [
      | true ↦ λ e. ap (λ (hs : List FileHead). row.head ∷ hs) (heads_kept stays rows)
      | false ↦ λ e. heads_kept stays rows
    ] in
    step (stays row.head) refl

sized_kept : (stays : FileRow → Bool) (rows : List FileRow) → AllByRecursion IsSized rows → AllByRecursion IsSized (filter stays rows)
sized_kept stays [] each = tt
sized_kept stays (row ∷ rows) each =
    let step : (b : Bool) → AllByRecursion IsSized (cond b (row ∷ filter stays rows) (filter stays rows))
    = λ b. elim b as (λ b. AllByRecursion IsSized (cond b (row ∷ filter stays rows) (filter stays rows))) [
      | true ↦ (each.0, sized_kept stays rows each.1)
      | false ↦ sized_kept stays rows each.1
    ] in
    step (stays row)

-- the files that stay, of their heads and their bodies
pub kept-rows : (stays : FileHead → Bool) (heads : List FileHead) (bytes : List ℕ) → pooled_size heads ≡ length bytes
    → (pooled_rows (filter stays heads) (pooled_bytes (filter (λ row. stays row.head) (pooled_rows heads bytes))) ≡ filter (λ row. stays row.head) (pooled_rows heads bytes))
    × (pooled_size (filter stays heads) ≡ length (pooled_bytes (filter (λ row. stays row.head) (pooled_rows heads bytes))))
kept-rows stays heads bytes full =
    let keep : FileRow → Bool = λ row. stays row.head in
    let rows = pooled_rows heads bytes in
    let sized = sized_kept keep rows (sized-pooled_rows heads bytes full) in
    let same : heads_of (filter keep rows) ≡ filter stays heads = heads_kept stays rows ∙ ap (filter stays) (heads_of-pooled_rows heads bytes) in (
      ap (λ (hs : List FileHead). pooled_rows hs (pooled_bytes (filter keep rows))) (sym same) ∙ pooled_rows-pooled_bytes (filter keep rows) sized,
      ap pooled_size (sym same) ∙ size-heads_of (filter keep rows) sized,
    )

paths_there : (heads : List FileHead) (bytes : List ℕ) → EachTwo (λ one other. one.path ≢ other.path) heads
    → EachTwo (λ one other. one.path ≢ other.path) (heads_of (pooled_rows heads bytes))
paths_there heads bytes differ = subst (λ (hs : List FileHead). EachTwo (λ one other. one.path ≢ other.path) hs) (sym (heads_of-pooled_rows heads bytes)) differ

-- what is asked of the file of a path, asked of the one at its place
pub can_there : (heads : List FileHead) (bytes : List ℕ) (path : List ℕ) (index : ℕ) (P : FileRow → Type 0) → EachTwo (λ one other. one.path ≢ other.path) heads
    → IsSomeAnd (slice_get heads index) (λ head. head.path ≡ path) → IsSomeAnd (file_at path (pooled_rows heads bytes)) P → IsSomeAnd (slice_get (pooled_rows heads bytes) index) P
can_there heads bytes path index P differ at said =
    said_there path P (pooled_rows heads bytes) index (paths_there heads bytes differ) (row_at_place heads bytes index path at) said

-- what is asked of the head of a file, asked of the head at its place
pub head_there : (heads : List FileHead) (bytes : List ℕ) (index : ℕ) (path : List ℕ) (P : FileHead → Type 0) → IsSomeAnd (slice_get heads index) (λ head. head.path ≡ path)
    → IsSomeAnd (slice_get (pooled_rows heads bytes) index) (λ row. P row.head) → IsSomeAnd (slice_get heads index) P
head_there heads bytes index path P at said =
    let head = some_is (slice_get heads index) (λ head. head.path ≡ path) at in
    is_some_and (slice_get heads index) P head.0 head.1
    (subst (λ (o : Option FileRow). IsSomeAnd o (λ row. P row.head)) (row-at heads index bytes head.0 head.1) said)

pub changed_at_path : (heads : List FileHead) (bytes : List ℕ) (path : List ℕ) (index : ℕ) (change : FileRow → FileRow) (new : List FileRow)
    → EachTwo (λ one other. one.path ≢ other.path) heads → IsSomeAnd (slice_get heads index) (λ head. head.path ≡ path)
    → IsSomeAnd (slice_get (pooled_rows heads bytes) index) (λ row. new ≡ set (pooled_rows heads bytes) index (change row)) → new ≡ with_file path change (pooled_rows heads bytes)
changed_at_path heads bytes path index change new differ at said =
    changed_there path change (pooled_rows heads bytes) new index (paths_there heads bytes differ) (row_at_place heads bytes index path at) said

-- without a file of the path nothing is changed
pub unchanged_at : (heads : List FileHead) (bytes : List ℕ) (path : List ℕ) (change : FileRow → FileRow) → AllByRecursion (λ head. head.path ≢ path) heads
    → pooled_rows heads bytes ≡ with_file path change (pooled_rows heads bytes)
unchanged_at heads bytes path change none =
    sym (none_at path change (pooled_rows heads bytes) (subst (λ (hs : List FileHead). AllByRecursion (λ head. head.path ≢ path) hs) (sym (heads_of-pooled_rows heads bytes)) none))

pub some_weaker : {X : Type 0} (o : Option X) (P Q : X → Type 0) → ((x : X) → P x → Q x) → IsSomeAnd o P → IsSomeAnd o Q
some_weaker o P Q weaker said =
    let there = some_is o P said in
    is_some_and o Q there.0 there.1 (weaker there.0 there.2)

-- where the quota has room for a new size, so have the bodies
pub size_room : (change : Change) (taken all room : ℕ) (head : FileHead) → all ≤ taken → 65536 ≤ room → HasSizeRoom change taken 65536 head → HasSizeRoom change all room head
size_room (WriteRange path offset bytes) taken all room head less more has = tt
size_room (WriteRecord path number bytes) taken all room head less more has = tt
size_room (PinSet set) taken all room head less more has = tt
size_room (FileAdd added) taken all room head less more has = tt
size_room (FileGone path) taken all room head less more has = tt
size_room (FileState path life) taken all room head less more has = tt
size_room (FileSize path size) taken all room head less more has = omega (arith, less, more, has)

-- what is asked of a content, asked of its lists
pub can_in_lists : (heads : List FileHead) (bytes path : List ℕ) (change : Change) (room : ℕ) → pooled_size heads ≡ length bytes → 65536 ≤ room
    → IsSomeAnd (file_at path (pooled_rows heads bytes)) (λ row. CanWrite change row.body × HasSizeRoom change (use_of (pooled_rows heads bytes)) 65536 row.head)
    → IsSomeAnd (file_at path (pooled_rows heads bytes)) (λ row. CanWrite change row.body × HasSizeRoom change (length bytes) room row.head)
can_in_lists heads bytes path change room full more can =
    let rows = pooled_rows heads bytes in
    some_weaker (file_at path rows) (λ row. CanWrite change row.body × HasSizeRoom change (use_of rows) 65536 row.head)
    (λ row. CanWrite change row.body × HasSizeRoom change (length bytes) room row.head)
    (λ row both. (both.0, size_room change (use_of rows) (length bytes) room row.head (omega (arith, use-pooled_rows heads bytes full)) more both.1)) can

pub paths_in_lists : (heads : List FileHead) (bytes : List ℕ) → EachTwo (λ one other. one.path ≢ other.path) (heads_of (pooled_rows heads bytes))
    → EachTwo (λ one other. one.path ≢ other.path) heads
paths_in_lists heads bytes differ = subst (λ (hs : List FileHead). EachTwo (λ one other. one.path ≢ other.path) hs) (heads_of-pooled_rows heads bytes) differ
