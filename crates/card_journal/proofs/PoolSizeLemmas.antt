-- A body of a new size, where it stands among the others.
use Rattle.std.proofs.Common.{◌≡◌, ℕ, ◌+◌, ◌-◌, ◌≤◌, ◌<◌, List, ◌++◌, length, take, drop, sym, ◌∙◌}
use Rattle.std.proofs.Common.{ap, arith, append_assoc, append-nil}
use Rattle.std.specs.Prelude.{replicate}
use Rattle.std.proofs.lemmas.List.{length-take-le, length-drop, take-take, take_all}
use Rattle.std.proofs.Math.Seq.{take-add}
use Rattle.file_rows.specs.Change.{resized}

module _ (start size new : ℕ) (bytes : List ℕ) (within : start + size ≤ length bytes) where
  body_length : length (take size (drop start bytes)) ≡ size
  body_length = length-take-le size (drop start bytes) (omega (arith, within, length-drop start bytes))

  missing : resized new (take size (drop start bytes)) ≡ take new (take size (drop start bytes)) ++ replicate (new - size) 255
  missing = ap (λ (n : ℕ). take new (take size (drop start bytes)) ++ replicate (new - n) 255) body_length

  smaller : new < size → resized new (take size (drop start bytes)) ≡ take new (drop start bytes)
  smaller less =
      let none : new - size ≡ 0 = omega (arith, less) in
      missing
      ∙ ap (λ (n : ℕ). take new (take size (drop start bytes)) ++ replicate n 255) none
      ∙ append-nil (take new (take size (drop start bytes)))
      ∙ take-take new size (drop start bytes) (omega (arith, less))

  larger : size ≤ new → resized new (take size (drop start bytes)) ≡ take size (drop start bytes) ++ replicate (new - size) 255
  larger more = missing
      ∙ ap (λ (b : List ℕ). b ++ replicate (new - size) 255) (take_all new (take size (drop start bytes)) (omega (arith, body_length, more)))

  pub cut-smaller : new < size → take (start + new) bytes ++ drop (start + new + (size - new)) bytes
      ≡ take start bytes ++ (resized new (take size (drop start bytes)) ++ drop (start + size) bytes)
  cut-smaller less =
      let end : start + new + (size - new) ≡ start + size = omega (arith, less) in
      ap (λ (n : ℕ). take (start + new) bytes ++ drop n bytes) end
      ∙ ap (λ (b : List ℕ). b ++ drop (start + size) bytes) (take-add start new bytes)
      ∙ append_assoc (take start bytes) (take new (drop start bytes)) (drop (start + size) bytes)
      ∙ ap (λ (b : List ℕ). take start bytes ++ (b ++ drop (start + size) bytes)) (sym (smaller less))

  pub widen-larger : size ≤ new → take (start + size) bytes ++ (replicate (new - size) 255 ++ drop (start + size) bytes)
      ≡ take start bytes ++ (resized new (take size (drop start bytes)) ++ drop (start + size) bytes)
  widen-larger more =
      let behind = drop (start + size) bytes in
      let body = take size (drop start bytes) in
      let blank = replicate (new - size) 255 in
      ap (λ (b : List ℕ). b ++ (blank ++ behind)) (take-add start size bytes)
      ∙ append_assoc (take start bytes) body (blank ++ behind)
      ∙ ap (λ (b : List ℕ). take start bytes ++ b) (sym (append_assoc body blank behind))
      ∙ ap (λ (b : List ℕ). take start bytes ++ (b ++ behind)) (sym (larger more))
