-- A file changed where it stands.
use Rattle.std.proofs.Common.{◌≡◌, ℕ, zero, suc, ◌+◌, ◌-◌, ◌*◌, ◌≤◌, List, [], ◌∷◌, ◌++◌, length}
use Rattle.std.proofs.Common.{take, drop, set, Option, Some, refl, sym, ◌∙◌, ap, subst, arith}
use Rattle.std.specs.Prelude.{slice_get, IsSomeAnd, replicate}
use Rattle.std.proofs.lemmas.List.{length-append, length-replicate, length-drop, length-take}
use Rattle.std.proofs.lemmas.List.{length-take-le, take-append-drop, drop-drop}
use Rattle.file_rows.specs.Change.{resized, with_body, with_life, with_record, with_size, written}
use Rattle.file_rows.specs.declared.change.Change.{Change}
use Rattle.file_rows.specs.declared.change.Change.TheVariants.{WriteRange, WriteRecord, PinSet}
use Rattle.file_rows.specs.declared.change.Change.TheVariants.{FileAdd, FileGone, FileState}
use Rattle.file_rows.specs.declared.change.Change.TheVariants.{FileSize}
use Rattle.file_rows.specs.declared.head.FileHead.{FileHead}
use Rattle.file_rows.specs.declared.head.Life.{Life}
use Rattle.file_rows.specs.declared.row.FileRow.{FileRow}
use Rattle.file_rows.proofs.EditLemmas.{is_some_and, some_is}
use Rattle.card_journal.specs.Pool.{CanWrite, body_after}
use Rattle.record_codec.specs.Pooled.{pooled_rows, pooled_size}
use Rattle.record_codec.specs.InPlace.{HasPlaceFor}
use Rattle.card_journal.proofs.PoolLemmas.{size-set, splice}
use Rattle.record_codec.proofs.PooledLemmas.{row-at, start-within}

pub set-same : {X : Type 0} (xs : List X) (i : ℕ) (x : X) → slice_get xs i ≡ Some x → set xs i x ≡ xs
set-same [] i x there = absurd (cc)
set-same (y ∷ ys) zero x there =
    let same : y ≡ x = cc in
    ap (λ z. z ∷ ys) (sym same)
set-same (y ∷ ys) (suc i) x there = ap (λ zs. y ∷ zs) (set-same ys i x there)

written-length : (offset : ℕ) (bytes body : List ℕ) → offset + length bytes ≤ length body → length (written offset bytes body) ≡ length body
written-length offset bytes body fits =
    length-append (take offset body ++ bytes) (drop (offset + length bytes) body)
    ∙ omega (arith, length-append (take offset body) bytes, length-take-le offset body (omega (arith, fits)), length-drop (offset + length bytes) body, fits)

record-length : (number : ℕ) (bytes body : List ℕ) → HasPlaceFor number bytes body → length (with_record number bytes body) ≡ length body
record-length zero bytes body fits =
    length-append bytes (take (length body - length bytes) body)
    ∙ omega (arith, fits, length-take-le (length body - length bytes) body (omega arith))
record-length (suc before) bytes body fits = written-length (before * length bytes) bytes body fits

-- a write leaves the length of a body
pub body_after-length : (change : Change) (body : List ℕ) → CanWrite change body → length (body_after change body) ≡ length body
body_after-length (WriteRange path offset bytes) body can = written-length offset bytes body can
body_after-length (WriteRecord path number bytes) body can = record-length number bytes body can
body_after-length (PinSet set) body can = refl
body_after-length (FileAdd head) body can = refl
body_after-length (FileGone path) body can = refl
body_after-length (FileState path life) body can = refl
body_after-length (FileSize path size) body can = refl

-- the file at the place has the new size, and the bodies are as long as their heads say
abbrev pub Resized : List FileHead → List ℕ → ℕ → ℕ → List FileHead → List ℕ → Type 0
Resized heads bytes index size heads' new =
    IsSomeAnd (slice_get (pooled_rows heads bytes) index) (λ row. pooled_rows heads' new ≡ set (pooled_rows heads bytes) index (with_size size row))
    × (pooled_size heads' ≡ length new)

-- the file at the place has the life cycle status, and the bodies are as long as their heads say
abbrev pub LifeIs : List FileHead → List ℕ → ℕ → Life → List FileHead → Type 0
LifeIs heads bytes index life heads' =
    IsSomeAnd (slice_get (pooled_rows heads bytes) index) (λ row. pooled_rows heads' bytes ≡ set (pooled_rows heads bytes) index (with_life life row))
    × (pooled_size heads' ≡ length bytes)

resized-length : (size : ℕ) (body : List ℕ) → length (resized size body) ≡ size
resized-length size body = length-append (take size body) (replicate (size - length body) 255)
    ∙ omega (arith, length-take size body, length-replicate {A = ℕ} (size - length body) 255)

module _ (heads : List FileHead) (bytes : List ℕ) (index start : ℕ) (head : FileHead)
    (full : pooled_size heads ≡ length bytes) (there : slice_get heads index ≡ Some head) (begin : start ≡ pooled_size (take index heads)) where
  abbrev pub body_at : List ℕ
  body_at = take head.size (drop start bytes)

  abbrev pub with_bytes : List ℕ → List ℕ
  with_bytes body = take start bytes ++ (body ++ drop (start + head.size) bytes)

  -- the file that stands at the place
  pub file_there : slice_get (pooled_rows heads bytes) index ≡ Some (record { head = head; body = body_at })
  file_there = row-at heads index bytes head there
      ∙ ap (λ (n : ℕ). let row : FileRow = record { head = head; body = take head.size (drop n bytes) } in Some row) (sym begin)

  pub end-within : start + head.size ≤ length bytes
  end-within = omega (arith, begin, full, start-within heads index head there)

  pub body-length : length body_at ≡ head.size
  body-length = length-take-le head.size (drop start bytes) (omega (arith, end-within, length-drop start bytes))

  -- its own body in its place changes nothing
  own : with_bytes body_at ≡ bytes
  own = ap (λ (b : List ℕ). take start bytes ++ (body_at ++ b)) (sym (drop-drop head.size start bytes))
      ∙ ap (λ (b : List ℕ). take start bytes ++ b) (take-append-drop head.size (drop start bytes))
      ∙ take-append-drop start bytes

  pub spliced : (other : FileHead) (body : List ℕ) → length body ≡ other.size
      → pooled_rows (set heads index other) (with_bytes body) ≡ set (pooled_rows heads bytes) index (record { head = other; body = body })
  spliced other body e =
      ap (λ (n : ℕ). pooled_rows (set heads index other) (take n bytes ++ (body ++ drop (n + head.size) bytes))) begin
      ∙ splice heads index bytes head other body full there e

  pub spliced-full : (other : FileHead) (body : List ℕ) → length body ≡ other.size → pooled_size (set heads index other) ≡ length (with_bytes body)
  spliced-full other body e =
      omega (
        arith,
        size-set heads index head other there,
        e,
        full,
        end-within,
        length-append (take start bytes) (body ++ drop (start + head.size) bytes),
        length-append body (drop (start + head.size) bytes),
        length-take-le start bytes (omega (arith, end-within)),
        length-drop (start + head.size) bytes,
      )

  -- another body
  pub with_its_body : (body : List ℕ) → length body ≡ head.size
      → pooled_rows heads (with_bytes body) ≡ set (pooled_rows heads bytes) index (record { head = head; body = body })
  with_its_body body e = ap (λ (hs : List FileHead). pooled_rows hs (with_bytes body)) (sym (set-same heads index head there)) ∙ spliced head body e

  pub with_its_body-full : (body : List ℕ) → length body ≡ head.size → pooled_size heads ≡ length (with_bytes body)
  with_its_body-full body e = ap pooled_size (sym (set-same heads index head there)) ∙ spliced-full head body e

  -- another head, of the same size
  pub with_its_head : (other : FileHead) → head.size ≡ other.size
      → pooled_rows (set heads index other) bytes ≡ set (pooled_rows heads bytes) index (record { head = other; body = body_at })
  with_its_head other e = ap (pooled_rows (set heads index other)) (sym own) ∙ spliced other body_at (body-length ∙ e)

  pub with_its_head-full : (other : FileHead) → head.size ≡ other.size → pooled_size (set heads index other) ≡ length bytes
  with_its_head-full other e = spliced-full other body_at (body-length ∙ e) ∙ ap length own

  -- what is said of the file that stands at the place
  pub of_file : (P : FileRow → Type 0) → IsSomeAnd (slice_get (pooled_rows heads bytes) index) P → P (record { head = head; body = body_at })
  of_file P said = subst (λ (o : Option FileRow). IsSomeAnd o P) file_there said

  pub to_file : (P : FileRow → Type 0) → P (record { head = head; body = body_at }) → IsSomeAnd (slice_get (pooled_rows heads bytes) index) P
  to_file P said = is_some_and (slice_get (pooled_rows heads bytes) index) P (record { head = head; body = body_at }) file_there said

  pub write_within : (size : ℕ) → size ≡ head.size → start + size ≤ length bytes
  write_within size e = omega (arith, e, end-within)

  pub write_can : (size : ℕ) → size ≡ head.size → (change : Change) → IsSomeAnd (slice_get (pooled_rows heads bytes) index) (λ row. CanWrite change row.body)
      → CanWrite change (take size (drop start bytes))
  write_can size e change can = rw e (of_file (λ row. CanWrite change row.body) can)

  pub write_rows : (size : ℕ) → size ≡ head.size → (change : Change) → (new : List ℕ) → CanWrite change (take size (drop start bytes))
      → new ≡ take start bytes ++ (body_after change (take size (drop start bytes)) ++ drop (start + size) bytes)
      → IsSomeAnd (slice_get (pooled_rows heads bytes) index) (λ row. pooled_rows heads new ≡ set (pooled_rows heads bytes) index (with_body (body_after change) row))
  write_rows size e change new can is =
      let can' : CanWrite change body_at = rw (sym e) can in
      let is' : new ≡ with_bytes (body_after change body_at) = is ∙ ap (λ (n : ℕ). take start bytes ++ (body_after change (take n (drop start bytes)) ++ drop (start + n) bytes)) e in
      to_file (λ row. pooled_rows heads new ≡ set (pooled_rows heads bytes) index (with_body (body_after change) row))
      (ap (pooled_rows heads) is' ∙ with_its_body (body_after change body_at) (body_after-length change body_at can' ∙ body-length))

  pub write_full : (size : ℕ) → size ≡ head.size → (change : Change) → (new : List ℕ) → CanWrite change (take size (drop start bytes))
      → new ≡ take start bytes ++ (body_after change (take size (drop start bytes)) ++ drop (start + size) bytes) → pooled_size heads ≡ length new
  write_full size e change new can is =
      let can' : CanWrite change body_at = rw (sym e) can in
      let is' : new ≡ with_bytes (body_after change body_at) = is ∙ ap (λ (n : ℕ). take start bytes ++ (body_after change (take n (drop start bytes)) ++ drop (start + n) bytes)) e in
      with_its_body-full (body_after change body_at) (body_after-length change body_at can' ∙ body-length) ∙ ap length (sym is')

  pub resize_rows : (before : ℕ) → before ≡ head.size → (size : ℕ) (new : List ℕ) (heads' : List FileHead)
      → new ≡ take start bytes ++ (resized size (take before (drop start bytes)) ++ drop (start + before) bytes)
      → heads' ≡ set heads index (record head { size = size })
      → Resized heads bytes index size heads' new
  resize_rows before e size new heads' is set' =
      let is' : new ≡ with_bytes (resized size body_at) = is ∙ ap (λ (n : ℕ). take start bytes ++ (resized size (take n (drop start bytes)) ++ drop (start + n) bytes)) e in
      let long = resized-length size body_at in (
        to_file (λ row. pooled_rows heads' new ≡ set (pooled_rows heads bytes) index (with_size size row))
            (rw (set', is') (spliced (record head { size = size }) (resized size body_at) long)),
        rw (set', is') (spliced-full (record head { size = size }) (resized size body_at) long),
      )

  pub life_rows : (life : Life) (heads' : List FileHead) → heads' ≡ set heads index (record head { life = life })
      → LifeIs heads bytes index life heads'
  life_rows life heads' set' = (
    to_file (λ row. pooled_rows heads' bytes ≡ set (pooled_rows heads bytes) index (with_life life row))
        (rw set' (with_its_head (record head { life = life }) refl)),
    rw set' (with_its_head-full (record head { life = life }) refl),
  )

-- a change that leaves the file as it is
pub same_rows : (rows : List FileRow) (index : ℕ) (change : Change) (after : FileRow → FileRow) → IsSomeAnd (slice_get rows index) (λ row. CanWrite change row.body)
    → ((row : FileRow) → after row ≡ row) → IsSomeAnd (slice_get rows index) (λ row. rows ≡ set rows index (after row))
same_rows rows index change after can same =
    let there = some_is (slice_get rows index) (λ row. CanWrite change row.body) can in
    is_some_and (slice_get rows index) (λ row. rows ≡ set rows index (after row)) there.0 there.1
    (sym (ap (set rows index) (same there.0) ∙ set-same rows index there.0 there.1))
