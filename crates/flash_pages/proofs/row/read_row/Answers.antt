use Rattle.std.proofs.Common.{◌≡◌, ◌-◌, ◌*◌, ◌∙◌, ap, ℕ, length, take, drop, min, [], ◌∷◌, arith}
use Rattle.std.proofs.Common.{length-drop}
use Rattle.std.proofs.lemmas.List.{length-take, length-take-le}
use Rattle.flash_pages.specs.Bank.{end_of}
use Rattle.flash_pages.specs.Bytes.{part}
use Rattle.flash_pages.proofs.RowLemmas.{head_prefix}
use Rattle.flash_pages.proofs.Touched.{at_some, from_each, flash_size}
use Rattle.flash_pages.proofs.row.read_row.Goals as goal

pub returns-clause-row : goal.returns-clause-row
returns-clause-row g c = from_each _ _ (λ bytes is.
    let left = end_of c.args.bank - c.args.at in
    let size : length bytes ≡ 4096 * 2433 =
    flash_size 2433 _ (g.met.F.Flash.lawful c.args.flash.now) bytes is in
    let whole : length (part c.args.at left bytes) ≡ left =
    length-take-le left (drop c.args.at bytes) (omega (arith, length-drop c.args.at bytes, size)) in
    let held : length (take c.min-held.result (0 ∷ 0 ∷ 0 ∷ 0 ∷ 0 ∷ [])) ≡ min 5 left =
    omega (
      arith,
      length-take {A = ℕ} c.min-held.result
          (0 ∷ 0 ∷ 0 ∷ 0 ∷ 0 ∷ []),
      c.min-held.ensures,
    ) in
    let prefix : c.read.new.buf ≡ take 5 (part c.args.at left bytes) =
    at_some _ _ bytes is c.in_ok-read.ensures.bytes ∙ ap (λ (k : ℕ). part c.args.at k bytes) held
    ∙ head_prefix left (drop c.args.at bytes) in
    c.row_at.ensures.row (part c.args.at left bytes) whole prefix)
