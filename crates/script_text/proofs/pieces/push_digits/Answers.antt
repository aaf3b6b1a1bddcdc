use Rattle.std.proofs.Common.{◌≡◌, ◌++◌, List, ℕ, map, ap, ◌∙◌, arith}
use Rattle.std.proofs.lemmas.Grind.{common_steps}
use Rattle.std.specs.Char.{to_ascii_uppercase}
use Rattle.std.specs.Prelude.{IsOk}
use Rattle.hex.specs.Hex.{encode_lower}
use Rattle.script_text.proofs.HexLemmas.{of_ok, upper-encode_lower}
use Rattle.script_text.proofs.pieces.push_digits.Goals as goal

pub returns : goal.returns
returns c =
    let is_ok : IsOk c.encode_to_slice.result = grind (arith, common_steps, c.encode_to_slice.ensures.fits) in
    let written : c.encode_to_slice.new.output ≡ encode_lower c.args.bytes.now = of_ok c.encode_to_slice.result _ is_ok c.encode_to_slice.ensures.written in
    c.in_ok-extend_from_slice.ensures.items
    ∙ ap (λ (digits : List ℕ). c.args.text.now.items ++ digits) (c.make_ascii_uppercase.ensures.after ∙ (ap (map to_ascii_uppercase) written ∙ upper-encode_lower c.args.bytes.now (λ i. omega (arith, c.type_inv.bytes i))))
