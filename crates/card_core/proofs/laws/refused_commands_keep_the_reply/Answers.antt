use Rattle.std.proofs.Common.{◌≡◌, ℕ, true, false, List, [], ◌∷◌, take, drop, refl, sym}
use Rattle.std.proofs.Common.{◌∙◌, unwrap_or, arith}
use Rattle.std.proofs.lemmas.Bool.{true≢false}
use Rattle.isdr_commands.specs.Request.{answer_to}
use Rattle.uicc_channels.specs.Accepted.{is_accepted}
use Rattle.uicc_channels.specs.GetResponse.{rest_status}
use Rattle.card_core.proofs.OutcomeLemmas.{desk_outcome-has}
use Rattle.card_core.specs.Desk.{exchange_at}
use Rattle.card_core.specs.Laws.{IsDeskRefusal}
use Rattle.card_core.proofs.laws.refused_commands_keep_the_reply.Goals as goal

-- bytes are given with a status word that accepts
accepted_rest : (rest : List ℕ) → is_accepted (rest_status rest) ≡ true
accepted_rest [] = refl
accepted_rest (byte ∷ rest) = grind arith

pub returns : goal.returns
returns c desk heads busy port command =
    desk_outcome-has
    (λ outcome. is_accepted outcome.answer.sw ≡ false
    → IsDeskRefusal (exchange_at desk command.channel) outcome)
    desk heads busy port command
    (λ sw other. record { reply = refl; entry = refl; moves = refl })
    (λ sw other. record { reply = refl; entry = refl; moves = refl })
    (λ block other. absurd (true≢false other))
    (λ request short other. absurd (true≢false (sym (accepted_rest (take 256
    (drop (unwrap_or command.le 0) (answer_to heads busy port request)))) ∙ other)))
    (λ other. absurd (true≢false (sym (accepted_rest (take 256
    (drop (unwrap_or command.le 0) (exchange_at desk command.channel).unsent))) ∙ other)))
