use Rattle.std.proofs.Common.{◌≡◌, ◌≤◌, length, get_or, drop, refl, arith, length-drop, rules}
use Rattle.flash_pages.proofs.RowLemmas.{opens_at}
use Rattle.flash_pages.proofs.row.row_at.Goals as goal

pub returns-else-len-end-clause-row : goal.returns-else-len-end-clause-row
returns-else-len-end-clause-row c = λ rest size prefix.
    let long : length c.args.head.now ≡ 5 = omega arith in
    let gate : get_or c.args.head.now 0 0 ≡ 0 = search rules in
    let enough : c.from_be_bytes-len.result ≤ length (drop 5 rest) =
    omega (arith, length-drop 5 rest) in
    let found = opens_at c.args.head.now rest c.from_be_bytes-len.result long gate
    (λ i. omega (arith, c.type_inv.head i)) c.from_be_bytes-len.ensures prefix enough in
    (found.0, found.1, found.2, refl, refl)
