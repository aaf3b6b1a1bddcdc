use Rattle.std.proofs.Common.{◌≡◌, ◌≢◌, ℕ, zero, suc, Bool, refl, sym, subst, ◌∙◌}
use Rattle.std.proofs.Common.{if◌then◌else◌, Some}
use Rattle.std.proofs.lemmas.List.{get_or-set_other}
use Rattle.card_core.specs.Desk.{empty_desk, exchange_at, fresh_desk, with_exchange}
use Rattle.card_core.specs.Exchange.{idle, uncollected}
use Rattle.card_core.specs.declared.desk.Desk.{Desk}
use Rattle.card_core.specs.declared.exchange.Exchange.{Exchange}
use Rattle.card_core.proofs.laws.channels_stand_apart.Goals as goal

-- another channel is as it was
other_at : (desk : Desk) (channel other : ℕ) (exchange : Exchange) → other ≢ channel
    → exchange_at (with_exchange desk channel exchange) other ≡ exchange_at desk other
other_at desk channel other exchange differs =
    get_or-set_other desk.channels channel other exchange idle differs

idle_at : (channel : ℕ) → exchange_at empty_desk channel ≡ idle
idle_at zero = refl
idle_at (suc zero) = refl
idle_at (suc (suc zero)) = refl
idle_at (suc (suc (suc zero))) = refl
idle_at (suc (suc (suc (suc channel)))) = refl

abbrev chosen : Bool → Desk → ℕ → Desk
chosen moved after channel = if moved then fresh_desk after (Some channel) else after

pub returns-clause-stays : goal.returns-clause-stays
returns-clause-stays c desk port channel other moves exchange differs unmoved =
    subst (λ (moved : Bool).
    exchange_at (chosen moved (with_exchange desk channel exchange) channel)
    other ≡ exchange_at desk other) (sym unmoved) (other_at desk channel other exchange differs)

pub returns-clause-ends : goal.returns-clause-ends
returns-clause-ends c desk port channel other moves exchange differs moved =
    subst (λ (moved : Bool).
    exchange_at (chosen moved (with_exchange desk channel exchange) channel)
    other ≡ idle) (sym moved)
    (other_at empty_desk channel other
    (uncollected (exchange_at (with_exchange desk channel exchange) channel)) differs
    ∙ idle_at other)
