use Rattle.std.proofs.Common.{◌≡◌, ◌∙◌, ℕ, List, take, replicate, Option, None, ap}
use Rattle.std.proofs.lemmas.List.{take-replicate}
use Rattle.record_codec.proofs.effect.empty_ports.Goals as goal

pub returns : goal.returns
returns c =
    let eight : List (Option ℕ) = replicate 8 None in
    let on : c.from_slice.result ≡ replicate c.args.count None =
    c.from_slice.ensures ∙ ap (λ (k : ℕ). take k eight) c.from.ensures ∙ take-replicate c.args.count 8 None c.requires in
    ap (λ (on : List (Option ℕ)). record { mode = c.args.mode; count = c.args.count; on = on }) on
