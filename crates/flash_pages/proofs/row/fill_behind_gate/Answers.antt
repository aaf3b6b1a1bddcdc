use Rattle.std.proofs.Common.{◌≡◌, ◌++◌, ℕ, List, length, take, drop, ap, ◌∙◌}
use Rattle.std.specs.Int.{to_be_bytes, w32}
use Rattle.flash_pages.proofs.RowLemmas.{filled_both}
use Rattle.flash_pages.proofs.row.fill_behind_gate.Goals as goal

pub returns : goal.returns
returns g c =
    let body = g.B.Body.bytes c.args.body.now in
    let out = c.args.out.now in
    let spelled : c.to_be_bytes-length.result ≡ to_be_bytes w32 (length body) =
    c.to_be_bytes-length.ensures ∙ ap (to_be_bytes w32) c.len.ensures in
    filled_both c.to_be_bytes-length.result body out c.args.at c.copy_prefix-copied.result
    (ap length spelled) c.if-at-ge-LENGTH_LEN.false c.requires c.copy_prefix-copied.new.out
    c.fill-2.new.out c.fill-2.result c.copy_prefix-copied.ensures.count
    c.copy_prefix-copied.ensures.copied c.fill-2.ensures.count c.fill-2.ensures.filled
    ∙ ap (λ (l : List ℕ). take (length out) (drop c.args.at (l ++ body))) spelled
