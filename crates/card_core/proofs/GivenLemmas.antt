-- What the lines of a request's moves give a profile.
use Rattle.std.proofs.Common.{◌≡◌, ◌≢◌, ℕ, Bool, true, false, cond, nat_eq, List, [], ◌∷◌, ◌++◌}
use Rattle.std.proofs.Common.{Option, Some, None, refl, sym, ◌∙◌, ap, subst, eqb-true, append-nil}
use Rattle.std.proofs.lemmas.Bool.{eqb-false}
use Rattle.std.proofs.lemmas.Grind.{flat_map-append}
use Rattle.std.specs.List.{AllByRecursion, flat_map}
use Rattle.isdr_commands.specs.declared.moves.Move.{Move}
use Rattle.plain_lists.specs.EachTwo.{EachTwo}
use Rattle.profile_card.specs.Step.{Event as CardEvent}
use Rattle.profile_card.specs.Step.Event.{Bound as BoundTo, Unbound as Freed}
use Rattle.card_core.proofs.StepShareLemmas.{entry_gives}
use Rattle.card_core.specs.IsdrCommand.{bound_line, kept_told, move_at, move_lines, moves_lines}
use Rattle.card_core.specs.IsdrCommand.{other_move_lines, own_move_lines, unbound_line}
use Rattle.card_core.specs.Share.{given_there}
use Rattle.card_core.specs.World.{WorldState}
use Rattle.card_core.specs.declared.entry.Entry.{Entry}
use Rattle.card_core.specs.declared.telling.Telling.{Telling}

-- the move that is found is at that port, and has what each has
pub move_found : (P : Move → Type 0) (moves : List Move) (port : ℕ) (move : Move)
    → AllByRecursion P moves → move_at moves port ≡ Some move → (move.port ≡ port) × P move
move_found P [] port move each is = absurd cc
move_found P (first ∷ moves) port move each is =
    by (nat_eq first.port port) refl (λ found. move_found P moves port move each.1 found) is
  where
    by : (here : Bool) → nat_eq first.port port ≡ here
        → (move_at moves port ≡ Some move → (move.port ≡ port) × P move)
        → cond here (Some first) (move_at moves port) ≡ Some move → (move.port ≡ port) × P move
    by true here rest found =
        let same : first ≡ move = cc in
        subst (λ (it : Move). (it.port ≡ port) × P it) same
        (eqb-true first.port port here, each.0)
    by false here rest found = rest found

-- where at most one move gives something, all give what it gives
module _ {X : Type 0} (give : Move → List X) where
  none_give : (moves : List Move) → AllByRecursion (λ move. give move ≡ []) moves
      → flat_map give moves ≡ []
  none_give [] each = refl
  none_give (move ∷ moves) each =
      ap (λ (its : List X). its ++ flat_map give moves) each.0 ∙ none_give moves each.1

  abbrev pub given_by : Option Move → List X
  given_by None = []
  given_by (Some move) = give move

  elsewhere : (port : ℕ) (moves : List Move) (first : Move) → first.port ≡ port
      → AllByRecursion (λ move. first.port ≢ move.port) moves
      → AllByRecursion (λ move. move.port ≢ port → give move ≡ []) moves
      → AllByRecursion (λ move. give move ≡ []) moves
  elsewhere port [] first is apart each = tt
  elsewhere port (move ∷ moves) first is apart each = (
    each.0 (λ same. apart.0 (is ∙ sym same)),
    elsewhere port moves first is apart.1 each.1,
  )

  pub one_gives : (port : ℕ) (moves : List Move)
      → EachTwo (λ one other. one.port ≢ other.port) moves
      → AllByRecursion (λ move. move.port ≢ port → give move ≡ []) moves
      → flat_map give moves ≡ given_by (move_at moves port)
  one_gives port [] once each = refl
  one_gives port (move ∷ moves) once each =
      by (nat_eq move.port port) refl (one_gives port moves once.1 each.1)
    where
      by : (here : Bool) → nat_eq move.port port ≡ here
          → flat_map give moves ≡ given_by (move_at moves port)
          → give move ++ flat_map give moves
          ≡ given_by (cond here (Some move) (move_at moves port))
      by true here rest =
          ap (λ (its : List X). give move ++ its)
          (none_give moves (elsewhere port moves move (eqb-true move.port port here) once.0 each.1))
          ∙ append-nil (give move)
      by false here rest =
          ap (λ (its : List X). its ++ flat_map give moves)
          (each.0 (eqb-false move.port port here))
          ∙ rest

module _ (profile : ℕ) (before : WorldState) (telling : Telling) where
  abbrev pub given_in : List Entry → List CardEvent
  given_in entries = flat_map (entry_gives profile before) entries

  -- what a profile that leaves, and one that comes, is given
  abbrev pub left_by : Option ℕ → List CardEvent
  left_by place = given_there profile place (Freed ∷ [])

  abbrev pub come_by : Move → Option ℕ → List CardEvent
  come_by move place = given_there profile place
      (BoundTo move.port move.refresh (kept_told telling move.port) ∷ [])

  abbrev pub given_by_move : Move → List CardEvent
  given_by_move move = left_by move.leaves ++ come_by move move.comes

  left_is : (move : Move) (place : Option ℕ)
      → given_in (unbound_line telling move place) ≡ left_by place
  left_is move None = refl
  left_is move (Some other) = append-nil (left_by (Some other))

  come_is : (move : Move) (place : Option ℕ)
      → given_in (bound_line telling move place) ≡ come_by move place
  come_is move None = refl
  come_is move (Some other) = append-nil (come_by move (Some other))

  move_is : (move : Move) → given_in (move_lines telling move) ≡ given_by_move move
  move_is move =
      flat_map-append (entry_gives profile before) (unbound_line telling move move.leaves)
      (bound_line telling move move.comes)
      ∙ ap (λ (its : List CardEvent). its ++ given_in (bound_line telling move move.comes))
      (left_is move move.leaves)
      ∙ ap (λ (its : List CardEvent). left_by move.leaves ++ its) (come_is move move.comes)

  picked : (pick : Move → List Entry) (give : Move → List CardEvent)
      → ((move : Move) → given_in (pick move) ≡ give move) → (moves : List Move)
      → given_in (flat_map pick moves) ≡ flat_map give moves
  picked pick give is [] = refl
  picked pick give is (move ∷ moves) =
      flat_map-append (entry_gives profile before) (pick move) (flat_map pick moves)
      ∙ ap (λ (its : List CardEvent). its ++ given_in (flat_map pick moves)) (is move)
      ∙ ap (λ (its : List CardEvent). give move ++ its) (picked pick give is moves)

  abbrev own : Move → List CardEvent
  own move = cond (nat_eq move.port telling.by.port) (given_by_move move) []

  abbrev other : Move → List CardEvent
  other move = cond (nat_eq move.port telling.by.port) [] (given_by_move move)

  own_is : (move : Move) → given_in (own_move_lines telling move) ≡ own move
  own_is move = by (nat_eq move.port telling.by.port)
    where
      by : (here : Bool) → given_in (cond here (move_lines telling move) [])
          ≡ cond here (given_by_move move) []
      by true = move_is move
      by false = refl

  other_is : (move : Move) → given_in (other_move_lines telling move) ≡ other move
  other_is move = by (nat_eq move.port telling.by.port)
    where
      by : (here : Bool) → given_in (cond here [] (move_lines telling move))
          ≡ cond here [] (given_by_move move)
      by true = refl
      by false = move_is move

  own_none : (move : Move) → given_by_move move ≡ [] → own move ≡ []
  own_none move none = by (nat_eq move.port telling.by.port)
    where
      by : (here : Bool) → cond here (given_by_move move) [] ≡ []
      by true = none
      by false = refl

  other_none : (move : Move) → given_by_move move ≡ [] → other move ≡ []
  other_none move none = by (nat_eq move.port telling.by.port)
    where
      by : (here : Bool) → cond here [] (given_by_move move) ≡ []
      by true = refl
      by false = none

  each_none : (give : Move → List CardEvent)
      → ((move : Move) → given_by_move move ≡ [] → give move ≡ []) → (port : ℕ)
      → (moves : List Move)
      → AllByRecursion (λ move. move.port ≢ port → given_by_move move ≡ []) moves
      → AllByRecursion (λ move. move.port ≢ port → give move ≡ []) moves
  each_none give none port [] each = tt
  each_none give none port (move ∷ moves) each = (
    λ apart. none move (each.0 apart),
    each_none give none port moves each.1,
  )

  both : (found : Option Move)
      → given_by own found ++ given_by other found ≡ given_by given_by_move found
  both None = refl
  both (Some move) = by (nat_eq move.port telling.by.port)
    where
      by : (here : Bool) → cond here (given_by_move move) [] ++ cond here [] (given_by_move move)
          ≡ given_by_move move
      by true = append-nil (given_by_move move)
      by false = refl

  -- the lines of moves give a profile what the one move at its port does
  pub lines_give : (port : ℕ) (moves : List Move)
      → EachTwo (λ one other. one.port ≢ other.port) moves
      → AllByRecursion (λ move. move.port ≢ port → given_by_move move ≡ []) moves
      → given_in (moves_lines telling moves) ≡ given_by given_by_move (move_at moves port)
  lines_give port moves once each =
      flat_map-append (entry_gives profile before) (flat_map (own_move_lines telling) moves)
      (flat_map (other_move_lines telling) moves)
      ∙ ap (λ (its : List CardEvent). its
      ++ given_in (flat_map (other_move_lines telling) moves))
      (picked (own_move_lines telling) own own_is moves
      ∙ one_gives own port moves once (each_none own own_none port moves each))
      ∙ ap (λ (its : List CardEvent). given_by own (move_at moves port) ++ its)
      (picked (other_move_lines telling) other other_is moves
      ∙ one_gives other port moves once (each_none other other_none port moves each))
      ∙ both (move_at moves port)
