use Rattle.std.proofs.Common.{◌≡◌, length}
use Rattle.std.specs.Prelude.{◌||◌, option_map}
use Rattle.isdr_codec.proofs.TagLemmas.{listed_in}
use Rattle.isdr_codec.proofs.profiles_info.has_tag.Given as goal

abbrev pub invariant-loop-rest : goal.invariant-loop-rest
invariant-loop-rest l = option_map (λ b. l.listed || b) (listed_in l.tag l.rest) ≡ listed_in l.tag
    l.fn.bytes

abbrev pub decreases-loop-rest : goal.decreases-loop-rest
decreases-loop-rest l = length l.rest
