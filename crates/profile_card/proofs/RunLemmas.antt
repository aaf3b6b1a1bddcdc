use Rattle.std.proofs.Common.{◌≡◌, ℕ, inl, inr, List, [], ◌∷◌, ◌++◌, refl, sym, ◌∙◌, ap, subst}
use Rattle.std.proofs.Common.{Option, Some, None}
use Rattle.apdu_codec.proofs.MeaningLemmas.{Spells-decided, Spells-once}
use Rattle.apdu_codec.specs.Command.{Apdu, refusal}
use Rattle.apdu_codec.specs.declared.answers.Answer.{Answer}
use Rattle.uicc_channels.specs.CommandOutcome.{CommandOutcome, refused}
use Rattle.profile_card.specs.Card.{Card, card_after}
use Rattle.profile_card.specs.Commands.{decision}
use Rattle.profile_card.specs.Step.{Responds, Event, AnswersWith, Outcome, Runs, RunsTo, Steps}
use Rattle.profile_card.specs.Step.{StepsAt, carried_out, restarted, silent}
use Rattle.profile_card.specs.Step.Event.{Command, Reset, Power, Bound, Unbound}

-- a card has one answer to the same bytes
pub Responds-once : (card : Card) (bytes : List ℕ) (o p : Outcome) → Responds card bytes o → Responds card bytes p → o ≡ p
Responds-once card bytes o p (inl h) (inl k) = h.2 ∙ (ap (λ (c : Apdu). carried_out card (decision card c)) (Spells-once bytes h.0 k.0 h.1 k.1) ∙ sym k.2)
Responds-once card bytes o p (inl h) (inr k) = absurd (k.0 h.0 h.1)
Responds-once card bytes o p (inr h) (inl k) = absurd (h.0 k.0 k.1)
Responds-once card bytes o p (inr h) (inr k) = h.1 ∙ sym k.1

-- it has an answer
pub Responds-some : (card : Card) (bytes : List ℕ) → (o : Outcome) × Responds card bytes o
Responds-some card bytes =
    elim (Spells-decided bytes) [
      | inl spelled ↦ (carried_out card (decision card spelled.0), inl (spelled.0, spelled.1, refl))
      | inr none ↦ (carried_out card (refused card.session (refusal bytes)), inr (none, refl))
    ]

-- so does an event of any kind
StepsAt-once : (port : Option ℕ) (card : Card) (event : Event) (o p : Outcome) → StepsAt port card event o → StepsAt port card event p → o ≡ p
StepsAt-once (Some port) card (Command bytes) o p h k = Responds-once card bytes o p h k
StepsAt-once (Some port) card Reset o p h k = h ∙ sym k
StepsAt-once (Some port) card Power o p h k = h ∙ sym k
StepsAt-once (Some port) card (Bound to refresh kept) o p h k = h ∙ sym k
StepsAt-once (Some port) card Unbound o p h k = h ∙ sym k
StepsAt-once None card (Command bytes) o p h k = h ∙ sym k
StepsAt-once None card Reset o p h k = h ∙ sym k
StepsAt-once None card Power o p h k = h ∙ sym k
StepsAt-once None card (Bound to refresh kept) o p h k = h ∙ sym k
StepsAt-once None card Unbound o p h k = h ∙ sym k

pub Steps-once : (card : Card) (event : Event) (o p : Outcome) → Steps card event o → Steps card event p → o ≡ p
Steps-once card event o p h k = StepsAt-once card.port card event o p h k

StepsAt-some : (port : Option ℕ) (card : Card) (event : Event) → (o : Outcome) × StepsAt port card event o
StepsAt-some (Some port) card (Command bytes) = Responds-some card bytes
StepsAt-some (Some port) card Reset = (silent (restarted card), refl)
StepsAt-some (Some port) card Power = (silent (restarted card), refl)
StepsAt-some (Some port) card (Bound to refresh kept) = (_, refl)
StepsAt-some (Some port) card Unbound = (_, refl)
StepsAt-some None card (Command bytes) = (silent card, refl)
StepsAt-some None card Reset = (silent card, refl)
StepsAt-some None card Power = (silent card, refl)
StepsAt-some None card (Bound to refresh kept) = (_, refl)
StepsAt-some None card Unbound = (_, refl)

pub Steps-some : (card : Card) (event : Event) → (o : Outcome) × Steps card event o
Steps-some card event = StepsAt-some card.port card event

-- to a command a card gives one answer, and comes to one card
pub AnswersWith-once : (card : Card) (bytes : List ℕ) (a b : Answer) (c d : Card) → AnswersWith card bytes a c → AnswersWith card bytes b d → (a ≡ b) × (c ≡ d)
AnswersWith-once card bytes a b c d h k =
    let same = Steps-once card (Command bytes) (record { answer = Some a; card = c; change = h.0 }) (record { answer = Some b; card = d; change = k.0 }) h.1 k.1 in
    let answers : Some a ≡ Some b = ap (λ (o : Outcome). o.answer) same in
    let cards : c ≡ d = ap (λ (o : Outcome). o.card) same in
    let one : a ≡ b = cc in
    (one, cards)

-- what the card at a port comes to by some decision
taken : (card : Card) (port : ℕ) (bytes : List ℕ) (outcome : CommandOutcome) → card.port ≡ Some port → Responds card bytes (carried_out card outcome) → (answer : Answer) × (next : Card) × AnswersWith card bytes answer next × (next.port ≡ Some port)
taken card port bytes outcome e h =
    let steps : Steps card (Command bytes) (carried_out card outcome) = subst (λ (o : Option ℕ). StepsAt o card (Command bytes) (carried_out card outcome)) (sym e) h in
    (outcome.answer, card_after card outcome, (outcome.change, steps), e)

-- at a port it gives one
AnswersWith-some : (card : Card) (port : ℕ) (bytes : List ℕ) → card.port ≡ Some port → (answer : Answer) × (next : Card) × AnswersWith card bytes answer next × (next.port ≡ Some port)
AnswersWith-some card port bytes e =
    elim (Spells-decided bytes) [
      | inl spelled ↦ taken card port bytes (decision card spelled.0) e (inl (spelled.0, spelled.1, refl))
      | inr none ↦ taken card port bytes (refused card.session (refusal bytes)) e (inr (none, refl))
    ]

-- to the same commands a card gives the same answers
pub RunsTo-once : (commands : List (List ℕ)) (card c d : Card) (a b : List Answer) → RunsTo card commands a c → RunsTo card commands b d → (a ≡ b) × (c ≡ d)
RunsTo-once [] card c d [] [] h k = (refl, h ∙ sym k)
RunsTo-once [] card c d [] (y ∷ b) h k = absurd k
RunsTo-once [] card c d (x ∷ a) b h k = absurd h
RunsTo-once (bytes ∷ rest) card c d [] b h k = absurd h
RunsTo-once (bytes ∷ rest) card c d (x ∷ a) [] h k = absurd k
RunsTo-once (bytes ∷ rest) card c d (x ∷ a) (y ∷ b) h k =
    let same = AnswersWith-once card bytes x y h.0 k.0 h.1 k.1 in
    let more = RunsTo-once rest k.0 c d a b (subst (λ (card : Card). RunsTo card rest a c) same.1 h.2) k.2 in
    (ap (λ (first : Answer). first ∷ a) same.0 ∙ ap (λ (rest : List Answer). y ∷ rest) more.0, more.1)

pub Runs-once : (card : Card) (commands : List (List ℕ)) (a b : List Answer) → Runs card commands a → Runs card commands b → a ≡ b
Runs-once card commands a b h k = (RunsTo-once commands card h.0 k.0 a b h.1 k.1).0

-- to any commands a card at a port gives answers
pub Runs-some : (commands : List (List ℕ)) (card : Card) (port : ℕ) → card.port ≡ Some port → (answers : List Answer) × Runs card commands answers
Runs-some [] card port e = ([], (card, refl))
Runs-some (bytes ∷ rest) card port e =
    let first = AnswersWith-some card port bytes e in
    let more = Runs-some rest first.1 port first.3 in
    (first.0 ∷ more.0, (more.1.0, (first.1, first.2, more.1.1)))

-- a run goes on by one command
pub RunsTo-more : (commands : List (List ℕ)) (card middle after : Card) (answers : List Answer) (bytes : List ℕ) (answer : Answer) → RunsTo card commands answers middle → AnswersWith middle bytes answer after → RunsTo card (commands ++ bytes ∷ []) (answers ++ answer ∷ []) after
RunsTo-more [] card middle after [] bytes answer h k = (after, subst (λ (c : Card). AnswersWith c bytes answer after) h k, refl)
RunsTo-more [] card middle after (x ∷ answers) bytes answer h k = absurd h
RunsTo-more (c ∷ commands) card middle after [] bytes answer h k = absurd h
RunsTo-more (c ∷ commands) card middle after (x ∷ answers) bytes answer h k =
    (h.0, h.1, RunsTo-more commands h.0 middle after answers bytes answer h.2 k)

-- the answers to the first commands begin those to all
pub RunsTo-prefix : (commands rest : List (List ℕ)) (card middle : Card) (prefix answers : List Answer) → RunsTo card commands prefix middle → Runs card (commands ++ rest) answers → (more : List Answer) × (answers ≡ prefix ++ more)
RunsTo-prefix [] rest card middle [] answers h k = (answers, refl)
RunsTo-prefix [] rest card middle (x ∷ prefix) answers h k = absurd h
RunsTo-prefix (c ∷ commands) rest card middle [] answers h k = absurd h
RunsTo-prefix (c ∷ commands) rest card middle (x ∷ prefix) [] h k = absurd k.1
RunsTo-prefix (c ∷ commands) rest card middle (x ∷ prefix) (y ∷ answers) h k =
    let same = AnswersWith-once card c x y h.0 k.1.0 h.1 k.1.1 in
    let more = RunsTo-prefix commands rest k.1.0 middle prefix answers (subst (λ (card : Card). RunsTo card commands prefix middle) same.1 h.2) (k.0, k.1.2) in
    (more.0, ap (λ (a : Answer). a ∷ answers) (sym same.0) ∙ ap (λ (b : List Answer). x ∷ b) more.1)
