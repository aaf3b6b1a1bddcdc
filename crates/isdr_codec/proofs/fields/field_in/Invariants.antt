use Rattle.std.proofs.Common.{◌≡◌, List, ℕ, length, Bor}
use Rattle.std.specs.Prelude.{option_map}
use Rattle.isdr_codec.specs.Fields.{field_in}
use Rattle.isdr_codec.proofs.FieldLemmas.{sought}
use Rattle.isdr_codec.proofs.fields.field_in.Given as goal

abbrev pub invariant-loop-rest : goal.invariant-loop-rest
invariant-loop-rest l = sought l.tag (option_map (λ (its : Bor (List ℕ)). its.now) l.found) l.rest
    ≡ field_in l.tag l.fn.value

abbrev pub decreases-loop-rest : goal.decreases-loop-rest
decreases-loop-rest l = length l.rest
