use Rattle.std.proofs.Common.{[], ◌∷◌, ◌++◌, sym, ap, ◌∙◌, arith}
use Rattle.std.proofs.lemmas.List.FromFn.{map-range_with_len_more}
use Rattle.card_book.specs.Pass.{pass_of}
use Rattle.card_book.proofs.pass.passes_of.Goals as goal

pub loop-port-preserved : goal.loop-port-preserved
loop-port-preserved g c =
    let port = c.loop-port.port in
    c.in_ok-push.ensures.items ∙ ap (λ passes. passes ++ pass_of port ∷ []) c.loop-port.invariant
    ∙ sym (map-range_with_len_more pass_of 0 port port (omega arith))
