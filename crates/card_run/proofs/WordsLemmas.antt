use Rattle.std.proofs.Common.{◌≡◌, ℕ, ◌<◌, ◌≤◌, List, [], ◌∷◌, length, get_or, sym, ap, arith}
use Rattle.std.proofs.Common.{String, Global, codes, ◌∙◌, Option, Some, None, MatchOption}
use Rattle.card_run.specs.Words.{AreSpelled, AsksForNew, IsImageName}
use Rattle.card_run.specs.declared.words.NewCard.{NewCard}

-- a list of eight elements is those
pub of_eight : (words : List (String Global)) (a b c d e f g h : String Global)
    → 8 ≤ length words → length words < 9
    → a ≡ get_or words 0 a → b ≡ get_or words 1 b → c ≡ get_or words 2 c → d ≡ get_or words 3 d
    → e ≡ get_or words 4 e → f ≡ get_or words 5 f → g ≡ get_or words 6 g → h ≡ get_or words 7 h
    → words ≡ a ∷ b ∷ c ∷ d ∷ e ∷ f ∷ g ∷ h ∷ []
of_eight [] a b c d e f g h some few _ _ _ _ _ _ _ _ = absurd (omega arith)
of_eight (_ ∷ []) a b c d e f g h some few _ _ _ _ _ _ _ _ = absurd (omega arith)
of_eight (_ ∷ _ ∷ []) a b c d e f g h some few _ _ _ _ _ _ _ _ = absurd (omega arith)
of_eight (_ ∷ _ ∷ _ ∷ []) a b c d e f g h some few _ _ _ _ _ _ _ _ = absurd (omega arith)
of_eight (_ ∷ _ ∷ _ ∷ _ ∷ []) a b c d e f g h some few _ _ _ _ _ _ _ _ = absurd (omega arith)
of_eight (_ ∷ _ ∷ _ ∷ _ ∷ _ ∷ []) a b c d e f g h some few _ _ _ _ _ _ _ _ = absurd (omega arith)
of_eight (_ ∷ _ ∷ _ ∷ _ ∷ _ ∷ _ ∷ []) a b c d e f g h some few _ _ _ _ _ _ _ _ = absurd (omega arith)
of_eight (_ ∷ _ ∷ _ ∷ _ ∷ _ ∷ _ ∷ _ ∷ []) a b c d e f g h some few _ _ _ _ _ _ _ _ = absurd (omega arith)
of_eight (_ ∷ _ ∷ _ ∷ _ ∷ _ ∷ _ ∷ _ ∷ _ ∷ []) a b c d e f g h some few p q r s t u v w = cc
of_eight (_ ∷ _ ∷ _ ∷ _ ∷ _ ∷ _ ∷ _ ∷ _ ∷ _ ∷ _) a b c d e f g h some few _ _ _ _ _ _ _ _ = absurd (omega arith)

-- words with the options of `new` ask for the card that the others spell, if they spell one
pub new_words : (bytes : List (List ℕ)) (image mode ports eid : List ℕ)
    → bytes ≡ codes "new" ∷ image ∷ codes "--mode" ∷ mode ∷ codes "--ports" ∷ ports
    ∷ codes "--eid" ∷ eid ∷ []
    → IsImageName image → (result : Option NewCard)
    → MatchOption result ((card : NewCard) → ¬ AreSpelled card mode ports eid)
    (λ card. AreSpelled card mode ports eid)
    → MatchOption result ((card : NewCard) → ¬ AsksForNew bytes card) (AsksForNew bytes)
new_words bytes image mode ports eid are name None none = λ card asks.
    let same = sym are ∙ asks.are in
    let its : AreSpelled card asks.mode asks.ports asks.eid = asks.its in
    let m : asks.mode ≡ mode = cc in
    let p : asks.ports ≡ ports = cc in
    let e : asks.eid ≡ eid = cc in
    none card (rw (m, p, e) at its)
new_words bytes image mode ports eid are name (Some card) spelled = record {
  image = image;
  mode = mode;
  ports = ports;
  eid = eid;
  are = are;
  name = name;
  its = spelled;
}
