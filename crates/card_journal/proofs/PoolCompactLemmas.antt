-- The bodies of the files that stay, moved together.
use Rattle.std.proofs.Common.{◌≡◌, ℕ, suc, ◌+◌, ◌-◌, ◌≤◌, Bool, true, false, cond, List, [], ◌∷◌}
use Rattle.std.proofs.Common.{◌++◌, length, take, drop, filter, Some, refl, sym, ◌∙◌, ap, subst}
use Rattle.std.proofs.Common.{arith, append-nil, add-one}
use Rattle.std.specs.Prelude.{slice_get}
use Rattle.std.specs.List.{copy_within}
use Rattle.std.proofs.lemmas.Grind.{flat_map-append}
use Rattle.std.proofs.lemmas.List.{length-take-le, length-append, length-drop, length-map}
use Rattle.std.proofs.lemmas.List.{drop-drop, take_all}
use Rattle.std.proofs.lemmas.List.Elements.{filter-append}
use Rattle.file_rows.specs.declared.head.FileHead.{FileHead}
use Rattle.file_rows.specs.declared.row.FileRow.{FileRow}
use Rattle.record_codec.specs.Pooled.{pooled_rows, pooled_size}
use Rattle.card_journal.proofs.PoolLemmas.{pooled_bytes, cut, heads_of-pooled_rows}
use Rattle.record_codec.proofs.PooledLemmas.{row-at, size-one, start-within, take-one}

-- the bodies that stay of the first files
abbrev pub kept_of : (FileRow → Bool) → List FileRow → ℕ → List ℕ
kept_of stays rows k = pooled_bytes (filter stays (take k rows))

module _ (stays : FileRow → Bool) (rows : List FileRow) (k : ℕ) (row : FileRow) (there : slice_get rows k ≡ Some row) where
  one_more : kept_of stays rows (suc k) ≡ kept_of stays rows k ++ pooled_bytes (filter stays (row ∷ []))
  one_more =
      ap (λ (rs : List FileRow). pooled_bytes (filter stays rs)) (take-one rows k row there)
      ∙ ap pooled_bytes (filter-append stays (take k rows) (row ∷ []))
      ∙ flat_map-append (λ (r : FileRow). r.body) (filter stays (take k rows)) (filter stays (row ∷ []))

  pub kept-in : stays row ≡ true → kept_of stays rows (suc k) ≡ kept_of stays rows k ++ row.body
  kept-in e = one_more ∙ ap (λ (b : Bool). kept_of stays rows k ++ pooled_bytes (cond b (row ∷ []) [])) e
      ∙ ap (λ (bs : List ℕ). kept_of stays rows k ++ bs) (append-nil row.body)

  pub kept-out : stays row ≡ false → kept_of stays rows (suc k) ≡ kept_of stays rows k
  kept-out e = one_more ∙ ap (λ (b : Bool). kept_of stays rows k ++ pooled_bytes (cond b (row ∷ []) [])) e
      ∙ append-nil (kept_of stays rows k)

-- what is done after the first files: the bodies that stay stand together, and behind them what
-- isn't looked at yet stands where it was
pub record Compacted (stays : FileRow → Bool) (heads : List FileHead) (bytes now : List ℕ) (k from to : ℕ) : Type 0 where
  pub read : from ≡ pooled_size (take k heads)
  pub kept : take to now ≡ kept_of stays (pooled_rows heads bytes) k
  pub end : to ≡ length (kept_of stays (pooled_rows heads bytes) k)
  pub behind : to ≤ from
  pub rest : drop from now ≡ drop from bytes
  pub whole : length now ≡ length bytes

-- what a move leaves in front and behind
module _ (now : List ℕ) (from size to : ℕ) (below : to ≤ from) (within : from + size ≤ length now) where
  front : length (take to now ++ take size (drop from now)) ≡ to + size
  front = length-append (take to now) (take size (drop from now))
      ∙ omega (
        arith,
        length-take-le to now (omega (arith, below, within)),
        length-take-le size (drop from now) (omega (arith, within, length-drop from now)),
      )

  was : copy_within now from (from + size) to ≡ take to now ++ take size (drop from now) ++ drop (to + size) now
  was = let same : from + size - from ≡ size = omega arith in
      ap (λ (m : ℕ). take to now ++ take m (drop from now) ++ drop (to + m) now) same

  pub moved-take : take (to + size) (copy_within now from (from + size) to) ≡ take to now ++ take size (drop from now)
  moved-take = ap (take (to + size)) was ∙ (cut (take to now ++ take size (drop from now)) (drop (to + size) now) (to + size) front).0

  pub moved-drop : drop (from + size) (copy_within now from (from + size) to) ≡ drop (from + size) now
  moved-drop =
      let more = from - to in
      let whole : List ℕ = take to now ++ take size (drop from now) ++ drop (to + size) now in
      let split : from + size ≡ to + size + more = omega (arith, below) in
      ap (drop (from + size)) was
      ∙ ap (λ (n : ℕ). drop n whole) split
      ∙ sym (drop-drop more (to + size) whole)
      ∙ ap (drop more) (cut (take to now ++ take size (drop from now)) (drop (to + size) now) (to + size) front).1
      ∙ drop-drop more (to + size) now
      ∙ ap (λ (n : ℕ). drop n now) (sym split)

  pub moved-length : length (copy_within now from (from + size) to) ≡ length now
  moved-length = ap length was ∙ length-append (take to now ++ take size (drop from now)) (drop (to + size) now)
      ∙ omega (arith, front, length-drop (to + size) now, below, within)

module _ (stays : FileRow → Bool) (heads : List FileHead) (bytes now : List ℕ) (k from to : ℕ) (head : FileHead)
    (full : pooled_size heads ≡ length bytes) (there : slice_get heads k ≡ Some head) (so_far : Compacted stays heads bytes now k from to) where
  abbrev its_row : FileRow
  its_row = record { head = head; body = take head.size (drop from bytes) }

  row_is : slice_get (pooled_rows heads bytes) k ≡ Some its_row
  row_is = row-at heads k bytes head there
      ∙ ap (λ (n : ℕ). let row : FileRow = record { head = head; body = take head.size (drop n bytes) } in Some row) (sym so_far.read)

  read_on : from + head.size ≡ pooled_size (take (suc k) heads)
  read_on = sym (size-one heads k head there ∙ ap (λ (n : ℕ). n + head.size) (sym so_far.read))

  pub within-one : from + head.size ≤ length now
  within-one = omega (arith, so_far.read, start-within heads k head there, full, so_far.whole)

  rest_on : drop (from + head.size) now ≡ drop (from + head.size) bytes
  rest_on = sym (drop-drop head.size from now) ∙ ap (drop head.size) so_far.rest ∙ drop-drop head.size from bytes

  compact_in : stays its_row ≡ true → Compacted stays heads bytes (copy_within now from (from + head.size) to) (suc k) (from + head.size) (to + head.size)
  compact_in e =
      let more = kept-in stays (pooled_rows heads bytes) k its_row row_is e in
      let body : length (take head.size (drop from bytes)) ≡ head.size =
      length-take-le head.size (drop from bytes) (omega (arith, within-one, so_far.whole, length-drop from bytes)) in
      record {
        read = read_on;
        kept = moved-take now from head.size to so_far.behind within-one
            ∙ ap (λ (xs : List ℕ). xs ++ take head.size (drop from now)) so_far.kept
            ∙ ap (λ (xs : List ℕ). kept_of stays (pooled_rows heads bytes) k ++ take head.size xs) so_far.rest
            ∙ sym more;
        end = omega (arith, so_far.end, body, ap length more, length-append (kept_of stays (pooled_rows heads bytes) k) (take head.size (drop from bytes)));
        behind = omega (arith, so_far.behind);
        rest = moved-drop now from head.size to so_far.behind within-one ∙ rest_on;
        whole = moved-length now from head.size to so_far.behind within-one ∙ so_far.whole;
      }

  compact_out : stays its_row ≡ false → Compacted stays heads bytes now (suc k) (from + head.size) to
  compact_out e =
      let same = kept-out stays (pooled_rows heads bytes) k its_row row_is e in
      record {
        read = read_on;
        kept = so_far.kept ∙ sym same;
        end = so_far.end ∙ ap length (sym same);
        behind = omega (arith, so_far.behind);
        rest = rest_on;
        whole = so_far.whole;
      }

  pub compact_one : (b : Bool) → stays its_row ≡ b
      → Compacted stays heads bytes (cond b (copy_within now from (from + head.size) to) now) (suc k) (from + head.size) (cond b (to + head.size) to)
  compact_one b = elim b as (λ b. stays its_row ≡ b
      → Compacted stays heads bytes (cond b (copy_within now from (from + head.size) to) now) (suc k) (from + head.size) (cond b (to + head.size) to)) [
        | true ↦ compact_in
        | false ↦ compact_out
      ]

  pub compact_step : (b : Bool) (size : ℕ) (new : List ℕ) (next : ℕ) → size ≡ head.size → stays its_row ≡ b
      → new ≡ cond b (copy_within now from (from + size) to) now → next ≡ cond b (to + size) to → Compacted stays heads bytes new (k + 1) (from + size) next
  compact_step b size new next e is f g = rw (f, g, e, add-one) (compact_one b is)

-- after the last file, what stands together are the bodies of the files that stay
pub compacted_all : (stays : FileRow → Bool) (heads : List FileHead) (bytes now : List ℕ) (k from to : ℕ) → length heads ≤ k → Compacted stays heads bytes now k from to
    → take to now ≡ pooled_bytes (filter stays (pooled_rows heads bytes))
compacted_all stays heads bytes now k from to end all = all.kept
    ∙ ap (λ (rows : List FileRow). pooled_bytes (filter stays rows))
    (take_all k (pooled_rows heads bytes) (subst (λ (n : ℕ). n ≤ k) (ap length (sym (heads_of-pooled_rows heads bytes)) ∙ length-map (pooled_rows heads bytes) (λ (row : FileRow). row.head)) end))

-- before the first file, nothing is done
pub compact_none : (stays : FileRow → Bool) (heads : List FileHead) (bytes : List ℕ) → Compacted stays heads bytes bytes 0 0 0
compact_none stays heads bytes = record { read = refl; kept = refl; end = refl; behind = omega arith; rest = refl; whole = refl }
