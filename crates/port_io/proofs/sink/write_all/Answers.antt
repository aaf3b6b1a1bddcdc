use Rattle.std.proofs.Common.{◌≡◌, ◌+◌, ◌-◌, ◌++◌, ℕ, List, length, take, drop, sym, ap, ◌∙◌, subst}
use Rattle.std.proofs.Common.{arith}
use Rattle.std.specs.Io.KnownBytes.{Appends}
use Rattle.std.proofs.KnownBytes.{Appends-trans}
use Rattle.std.proofs.Math.Seq.{take-add}
use Rattle.std.proofs.lemmas.List.{take_rest}
use Rattle.port_io.proofs.sink.write_all.Goals as goal

take-more : (bytes : List ℕ) (at n : ℕ) → take at bytes ++ take n (take (length bytes - at) (drop at bytes)) ≡ take (at + n) bytes
take-more bytes at n = ap (λ (rest : List ℕ). take at bytes ++ take n rest) (take_rest bytes at) ∙ sym (take-add at n bytes)

pub pieces-preserved : goal.pieces-preserved
pieces-preserved g c =
    let took = c.in_ok-n.ensures.takes in
    record {
      within = omega (arith, took.within);
      written = subst (Appends _ _) (take-more c.args.piece.now c.pieces.at c.in_ok-n.n) (Appends-trans _ _ _ _ _ c.pieces.invariant.written took.bytes);
      count = omega arith;
    }
