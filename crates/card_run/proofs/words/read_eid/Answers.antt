use Rattle.std.proofs.Common.{◌≡◌, ◌∙◌, ◌*◌, ℕ, List, length, ap, sym, Ok}
use Rattle.hex.proofs.HexLemmas.{decode_of-ok, decode_sized-twice}
use Rattle.hex.specs.Hex.{decode_sized}
use Rattle.card_run.proofs.words.read_eid.Goals as goal

-- digits that spell sixteen bytes are decoded
pub returns-in-Err : goal.returns-in-Err
returns-in-Err c eid whole ok =
    let its = decode_of-ok c.args.word.now eid ok in
    let twice : length c.args.word.now ≡ 2 * 16 = its.2 ∙ ap (λ (n : ℕ). 2 * n) whole in
    let sized : decode_sized c.args.word.now 16 ≡ Ok eid = decode_sized-twice c.args.word.now 16 twice ∙ ok in
    let value = rw sized at c.decode_to_slice.ensures.value in
    cc
