-- What a torn row leaves of a bank's open rows.
use Rattle.std.proofs.Common.{◌≡◌, inl, inr, ℕ, ◌+◌, ◌-◌, ◌*◌, ◌<◌, ◌≤◌, List, [], ◌∷◌, ◌++◌}
use Rattle.std.proofs.Common.{length, get_or, take, drop, sym, ◌∙◌, ap, subst, arith, append_assoc}
use Rattle.std.proofs.Common.{append-nil, length-append, length-drop, take-append-drop}
use Rattle.std.proofs.lemmas.List.{take_at, take-take, drop_more, length-take-le}
use Rattle.std.proofs.lemmas.Bool.{cases_eq}
use Rattle.std.proofs.Math.Seq.{take-append-add}
use Rattle.flash_pages.specs.declared.bank.Bank.{Bank}
use Rattle.flash_pages.specs.Bank.{start_of, end_of, bank_bytes}
use Rattle.flash_pages.specs.Bytes.{part, patch, DiffersIn}
use Rattle.flash_pages.specs.Append.{IsTornRow, EndsAt, HasRowsOrOneMore}
use Rattle.flash_pages.specs.Rows.{behind_gate, row_of, open_rows, IsClosed, HasRows}
use Rattle.flash_pages.proofs.Patches.{DiffersIn-trans, DiffersIn-wider, DiffersIn-patch}
use Rattle.flash_pages.proofs.Patches.{take-patch-prefix, drop-patch-prefix, length-patch}
use Rattle.flash_pages.proofs.Patches.{part-DiffersIn, part-patch}
use Rattle.flash_pages.proofs.RowLemmas.{length-behind_gate, length-row_of}

pub open_rows-push : (bodies : List (List ℕ)) (body rest : List ℕ)
    → open_rows (bodies ++ body ∷ []) ++ rest ≡ open_rows bodies ++ (row_of body ++ rest)
open_rows-push [] body rest = ap (λ (l : List ℕ). l ++ rest) (append-nil (row_of body))
open_rows-push (b ∷ bodies) body rest =
    append_assoc (row_of b) (open_rows (bodies ++ body ∷ [])) rest
    ∙ ap (λ (l : List ℕ). row_of b ++ l) (open_rows-push bodies body rest)
    ∙ sym (append_assoc (row_of b) (open_rows bodies) (row_of body ++ rest))

-- rows behind which a closed gate stands as it was
closed_prefix : (rows rest image : List ℕ) (place : ℕ) → place ≡ length rows → IsClosed rest
    → 0 < length rest → take (place + 1) image ≡ take (place + 1) (rows ++ rest)
    → (behind : List ℕ) × (image ≡ rows ++ behind) × IsClosed behind
closed_prefix rows [] image place is closed some prefix = absurd (omega arith)
closed_prefix rows (gate ∷ rest) image place is closed some prefix =
    let at_gate : place + 1 ≡ length rows + 1 = omega arith in
    let kept : take (place + 1) image ≡ rows ++ gate ∷ [] =
    prefix ∙ ap (λ (k : ℕ). take k (rows ++ gate ∷ rest)) at_gate
    ∙ take-append-add rows (gate ∷ rest) 1 in (
      gate ∷ drop (place + 1) image,
      sym (take-append-drop (place + 1) image)
          ∙ ap (λ (l : List ℕ). l ++ drop (place + 1) image) kept
          ∙ append_assoc rows (gate ∷ []) (drop (place + 1) image),
      closed,
    )

module _ (bytes image body : List ℕ) (bodies : List (List ℕ)) (place : ℕ)
    (ends : EndsAt bytes bodies place (length body))
    (fits : place + 5 + length body ≤ length bytes) where
  abbrev rows : List ℕ
  rows = open_rows bodies

  abbrev rest : List ℕ
  rest = ends.rows.0

  rest_length : length bytes ≡ place + length rest
  rest_length = omega (arith, ap length ends.rows.1, length-append rows rest, ends.end)

  torn_behind : DiffersIn (place + 1) (4 + length body) bytes image
      → HasRowsOrOneMore image bodies body
  torn_behind differs =
      inl (closed_prefix rows rest image place ends.end ends.rows.2 (omega (arith, rest_length))
      (differs.before ∙ ap (take (place + 1)) ends.rows.1))

  tail_fits : place + 1 + length (behind_gate body) ≤ length bytes
  tail_fits = omega (arith, length-behind_gate body)

  patched : List ℕ
  patched = patch bytes (place + 1) (behind_gate body)

  behind_row : drop (place + 1 + length (behind_gate body)) bytes ≡ drop
      (place + 5 + length body) bytes
  behind_row = let same : place + 1 + length (behind_gate body) ≡ place + 5 + length body =
      omega (arith, length-behind_gate body) in ap (λ (k : ℕ). drop k bytes) same

  kept_prefix : take place (patch bytes (place + 1) (behind_gate body)) ≡ rows
  kept_prefix =
      let le : place ≤ place + 1 = omega arith in
      sym (take-take place (place + 1) (patch bytes (place + 1) (behind_gate body)) le)
      ∙ ap (take place) (take-patch-prefix bytes (place + 1) (behind_gate body) tail_fits)
      ∙ take-take place (place + 1) bytes le ∙ ap (take place) ends.rows.1
      ∙ take_at rows rest place (sym ends.end)

  -- whatever the gate is, its row stands whole behind it
  whole : DiffersIn place 1 (patch bytes (place + 1) (behind_gate body)) image
      → image ≡ rows ++
      (get_or image place 0 ∷ behind_gate body ++ drop (place + 5 + length body) bytes)
  whole differs =
      let size : length image ≡ length bytes =
      differs.same_length ∙ length-patch bytes (place + 1) (behind_gate body) tail_fits in
      let at_gate : drop place image ≡ get_or image place 0 ∷ drop (place + 1) image =
      drop_more image place 0 (omega arith) in
      let tail : drop (place + 1) image ≡ behind_gate body ++ drop (place + 5 + length body) bytes =
      differs.after ∙ drop-patch-prefix bytes (place + 1) (behind_gate body) tail_fits
      ∙ ap (λ (l : List ℕ). behind_gate body ++ l) behind_row in
      sym (take-append-drop place image)
      ∙ ap (λ (l : List ℕ). l ++ drop place image) (differs.before ∙ kept_prefix)
      ∙ ap (λ (l : List ℕ). rows ++ l)
      (at_gate ∙ ap (λ (l : List ℕ). get_or image place 0 ∷ l) tail)

  torn_gate : DiffersIn place 1 (patch bytes (place + 1) (behind_gate body)) image
      → HasRowsOrOneMore image bodies body
  torn_gate differs =
      let behind = drop (place + 5 + length body) bytes in
      elim (cases_eq (get_or image place 0) 0) [
        | inl open_gate ↦
            inr (
              behind,
              whole differs
                  ∙ ap (λ (g : ℕ). rows ++ (g ∷ behind_gate body ++ behind)) open_gate
                  ∙ sym (open_rows-push bodies body behind),
              ends.behind,
            )
        | inr shut ↦ inl (get_or image place 0 ∷ behind_gate body ++ behind, whole differs, shut)
      ]

  pub torn : IsTornRow place body bytes image → HasRowsOrOneMore image bodies body
  torn (inl differs) = torn_behind differs
  torn (inr differs) = torn_gate differs

  row_fits : place + length (row_of body) ≤ length bytes
  row_fits = omega (arith, length-row_of body)

  pub appended : image ≡ patch bytes place (row_of body) → HasRows image (bodies ++ body ∷ [])
  appended is =
      let same : place + length (row_of body) ≡ place + 5 + length body =
      omega (arith, length-row_of body) in
      let prefix : take place bytes ≡ rows =
      ap (take place) ends.rows.1 ∙ take_at rows rest place (sym ends.end) in
      let behind = drop (place + 5 + length body) bytes in (
        behind,
        is ∙ ap (λ (k : ℕ). take place bytes ++ row_of body ++ drop k bytes) same
            ∙ ap (λ (l : List ℕ). l ++ row_of body ++ behind) prefix
            ∙ append_assoc rows (row_of body) behind ∙ sym (open_rows-push bodies body behind),
        ends.behind,
      )

-- a torn row differs from what was there in the row's bytes alone
pub torn_differs : (at : ℕ) (body before image : List ℕ) → at + 5 + length body ≤ length before
    → IsTornRow at body before image → DiffersIn at (5 + length body) before image
torn_differs at body before image fits (inl differs) =
    DiffersIn-wider (at + 1) (4 + length body) at (5 + length body) before image (omega arith)
    (omega arith) differs
torn_differs at body before image fits (inr differs) =
    let behind = behind_gate body in
    let n = length-behind_gate body in
    let patched = patch before (at + 1) behind in
    DiffersIn-trans at (5 + length body) before patched image
    (DiffersIn-wider (at + 1) (length behind) at (5 + length body) before patched (omega arith)
    (omega (arith, n))
    (DiffersIn-patch before (at + 1) behind (omega (arith, n))))
    (DiffersIn-wider at 1 at (5 + length body) patched image (omega arith) (omega arith) differs)

pub length-bank_bytes : (bank : Bank) (image : List ℕ) → end_of bank ≤ length image
    → length (bank_bytes bank image) ≡ 4096 * bank.blocks
length-bank_bytes bank image inside =
    length-take-le (4096 * bank.blocks) (drop (start_of bank) image)
    (omega (arith, length-drop (start_of bank) image))

-- the same of a bank in a flash
module _ (bank : Bank) (at : ℕ) (body before image : List ℕ) (from_start : start_of bank ≤ at)
    (fits : at + 5 + length body ≤ end_of bank) (inside : end_of bank ≤ length before) where
  abbrev place : ℕ
  place = at - start_of bank

  abbrev size : ℕ
  size = 4096 * bank.blocks

  torn_part : IsTornRow at body before image
      → IsTornRow place body (bank_bytes bank before) (bank_bytes bank image)
  torn_part (inl differs) =
      let is : at + 1 ≡ start_of bank + (place + 1) = omega arith in
      inl (part-DiffersIn (start_of bank) size (place + 1) (4 + length body)
      (omega arith) before image
      (subst (λ (k : ℕ). DiffersIn k (4 + length body) before image) is differs))
  torn_part (inr differs) =
      let is : at ≡ start_of bank + place = omega arith in
      let next : at + 1 ≡ start_of bank + (place + 1) = omega arith in
      let in_part : DiffersIn place 1
      (part (start_of bank) size (patch before (at + 1) (behind_gate body)))
      (bank_bytes bank image) =
      part-DiffersIn (start_of bank) size place 1 (omega arith)
      (patch before (at + 1) (behind_gate body)) image
      (subst (λ (k : ℕ). DiffersIn k 1
      (patch before (at + 1) (behind_gate body)) image) is differs) in
      let moved : part (start_of bank) size (patch before (at + 1) (behind_gate body)) ≡ patch
      (bank_bytes bank before) (place + 1) (behind_gate body) =
      ap (λ (k : ℕ). part (start_of bank) size (patch before k (behind_gate body))) next
      ∙ part-patch (start_of bank) size (place + 1) before (behind_gate body)
      (omega (arith, length-behind_gate body)) (omega (arith, length-behind_gate body)) in
      inr (subst (λ (l : List ℕ). DiffersIn place 1 l (bank_bytes bank image)) moved in_part)

  bank_length : length (bank_bytes bank before) ≡ size
  bank_length = length-bank_bytes bank before inside

  pub torn_in_bank : (bodies : List (List ℕ))
      → EndsAt (bank_bytes bank before) bodies place (length body) → IsTornRow at body before image
      → HasRowsOrOneMore (bank_bytes bank image) bodies body
  torn_in_bank bodies ends torn_row =
      torn (bank_bytes bank before) (bank_bytes bank image) body bodies place ends
      (omega (arith, bank_length)) (torn_part torn_row)

  pub appended_in_bank : (bodies : List (List ℕ))
      → EndsAt (bank_bytes bank before) bodies place (length body)
      → image ≡ patch before at (row_of body)
      → HasRows (bank_bytes bank image) (bodies ++ body ∷ [])
  appended_in_bank bodies ends is =
      let next : at ≡ start_of bank + place = omega arith in
      let moved : bank_bytes bank image ≡ patch (bank_bytes bank before) place (row_of body) =
      ap (bank_bytes bank) is
      ∙ ap (λ (k : ℕ). part (start_of bank) size (patch before k (row_of body))) next
      ∙ part-patch (start_of bank) size place before (row_of body)
      (omega (arith, length-row_of body)) (omega (arith, length-row_of body)) in
      appended (bank_bytes bank before) (bank_bytes bank image) body bodies place ends
      (omega (arith, bank_length)) moved
