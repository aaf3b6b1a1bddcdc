use Rattle.std.proofs.Common.{◌≡◌, ◌/◌, ◌%◌, ◌≤◌, refl, sym, ◌∙◌, ap, subst, arith}
use Rattle.file_rows.proofs.FormLemmas.{records_of}
use Rattle.file_rows.proofs.form.are_records.Goals as goal

pub returns-in-1-to-254 : goal.returns-in-1-to-254
returns-in-1-to-254 c =
    let size = c.args.size in
    let len = c.args.record_len in
    let whole : size % len ≡ 0 = ap (λ n. size % n) (sym c.from-length.ensures) ∙ c.if-size-length-eq0.true in
    let least : 1 ≤ size / c.from-length.result = omega arith in
    let most : size / c.from-length.result ≤ 254 = omega arith in (
      λ e.
          records_of size len c.requires whole
          (subst (λ n. 1 ≤ size / n) c.from-length.ensures least)
          (subst (λ n. size / n ≤ 254) c.from-length.ensures most),
      λ some. refl,
    )
