use Rattle.std.proofs.Common.{◌≡◌, ◌≤◌, ℕ, Bool, true, false, nat_le, ◌∷◌, []}
use Rattle.std.proofs.Common.{None, refl, arith}
use Rattle.apdu_codec.specs.declared.status.Sw.{Sw}
use Rattle.plain_lists.specs.FirstOf.{first_of}
use Rattle.uicc_channels.specs.Needs.{refused_unless}
use Rattle.card_core.proofs.OutcomeLemmas.{desk_outcome-has}
use Rattle.card_core.specs.Laws.{IsWithinLimits}
use Rattle.card_core.proofs.laws.requests_stay_within_their_limits.Goals as goal

-- where neither refuses, the second need is met
second_met : (first second : Bool) (one other : Sw)
    → first_of (refused_unless first one ∷ refused_unless second other ∷ []) ≡ None
    → second ≡ true
second_met true true one other none = refl
second_met true false one other none = absurd (cc)
second_met false second one other none = absurd (cc)

within : (count : ℕ) → nat_le count 4096 ≡ true → count ≤ 4096
within count is_within = grind (arith, is_within)

pub returns : goal.returns
returns c desk heads busy port command number within_limits =
    desk_outcome-has (λ outcome. IsWithinLimits outcome.exchange) desk heads busy port command
    (λ sw. within_limits)
    (λ sw. record { blocks = omega arith; bytes = omega arith })
    (λ block. record {
      blocks = omega (arith, number);
      bytes = within _ (second_met _ _ _ _ block);
    })
    (λ request short. record { blocks = omega arith; bytes = omega arith })
    (record { blocks = within_limits.blocks; bytes = within_limits.bytes })
