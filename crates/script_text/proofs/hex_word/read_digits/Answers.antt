use Rattle.std.proofs.Common.{◌≡◌, ◌*◌, length, arith}
use Rattle.hex.proofs.HexLemmas.{decode_of-ok}
use Rattle.script_text.proofs.hex_word.read_digits.Goals as goal

-- more digits than that spell a longer command
pub returns-then-count-most : goal.returns-then-count-most
returns-then-count-most c = λ bytes h.
    let long : length c.args.digits.now ≡ 2 * length bytes = (decode_of-ok c.args.digits.now bytes h.1).2 in
    omega (arith, h.0)
