-- The lines of a statement: whose they are, and their order.
use Rattle.std.proofs.Common.{◌≡◌, ◌≢◌, ◌<◌, ℕ, Bool, true, false, cond, nat_eq, nat_lt}
use Rattle.std.proofs.Common.{List, [], ◌∷◌, ◌++◌, Option, Some, None, Result, Ok, Err, refl, sym}
use Rattle.std.proofs.Common.{◌∙◌, ap, arith, inl, inr, eqb-true, filter, flat_map}
use Rattle.std.proofs.lemmas.Bool.{eq-eqb, eqb-false, ltb-true, ne_eqb}
use Rattle.std.proofs.lemmas.List.Elements.{filter-append}
use Rattle.std.specs.List.{AllByRecursion}
use Rattle.std.specs.Prelude.{◌&&◌}
use Rattle.apdu_codec.specs.Command.{Apdu}
use Rattle.apdu_codec.specs.declared.status.Sw.{Sw}
use Rattle.apdu_codec.specs.declared.status.TheConstants.Sw.{WRONG_CLASS}
use Rattle.isdr_commands.specs.declared.moves.Move.{Move}
use Rattle.lsi_refresh.specs.Lsi.{asked_in_form, done_unless, form_refusal_of, has_class_80}
use Rattle.lsi_refresh.specs.Lsi.{lsi_asked, lsi_of}
use Rattle.lsi_refresh.specs.declared.lsi.Lsi.{Lsi}
use Rattle.lsi_refresh.specs.declared.lsi.Lsi.TheVariants as lsi
use Rattle.plain_lists.specs.EachTwo.{EachTwo}
use Rattle.card_core.proofs.LocalLemmas.{IsOwnLine}
use Rattle.card_core.proofs.RankLemmas.{AtMost, Rank, each_joined, each_two_append}
use Rattle.card_core.proofs.RankLemmas.{each_weaker}
use Rattle.card_core.specs.IsdrCommand.{bound_line}
use Rattle.card_core.specs.IsdrCommand.{move_lines, other_move_lines}
use Rattle.card_core.specs.IsdrCommand.{own_move_lines, unbound_line}
use Rattle.card_core.specs.Merge.{maker_at, maker_of, tells_statement}
use Rattle.card_core.specs.declared.entry.Entry.{Entry}
use Rattle.card_core.specs.declared.entry.Line.{Line}
use Rattle.card_core.specs.declared.entry.Line.TheVariants as lines
use Rattle.card_core.specs.declared.telling.Telling.{Telling}

abbrev pub own_rank : Bool → ℕ
own_rank true = 1
own_rank false = 2

-- lines about a port first, and then those about others from the lowest on
abbrev pub own_first : ℕ → List (Rank Entry)
own_first port =
    record { of = λ entry. own_rank (nat_eq port entry.port); below = 3 }
    ∷ record { of = λ entry. entry.port; below = 0 } ∷ []

pub own_maker : (port number : ℕ) (line : Line) → IsOwnLine number line
    → maker_at port line ≡ record { port = port; number = number }
own_maker port number (lines.Answered its answer cause) is =
    ap (λ (n : ℕ). record { port = port; number = n }) is
own_maker port number (lines.OwnReset its) is =
    ap (λ (n : ℕ). record { port = port; number = n }) is
own_maker port number (lines.Loaded its outcome) is =
    ap (λ (n : ℕ). record { port = port; number = n }) is
own_maker port number (lines.ForeignReset maker) is = absurd is
own_maker port number (lines.Unbound profile refresh kept maker commit) is = absurd is
own_maker port number (lines.Bound profile refresh kept maker commit) is = absurd is

-- the lines that tell a statement
abbrev pub telling_lines : List Entry → List Entry
telling_lines entries = filter (λ entry. tells_statement entry.line) entries

pub own_tells : (number : ℕ) (line : Line) → IsOwnLine number line
    → tells_statement line ≡ true
own_tells number (lines.Answered its answer cause) is = refl
own_tells number (lines.OwnReset its) is = refl
own_tells number (lines.Loaded its outcome) is = refl
own_tells number (lines.ForeignReset maker) is = absurd is
own_tells number (lines.Unbound profile refresh kept maker commit) is = absurd is
own_tells number (lines.Bound profile refresh kept maker commit) is = absurd is

-- a MANAGE LSI resets a port of the card
abbrev pub ResetsBelow : ℕ → Result Lsi Sw → Type 0
ResetsBelow count (Ok lsi.Count) = Unit {0}
ResetsBelow count (Ok (lsi.Reset port)) = port < count
ResetsBelow count (Err sw) = Unit {0}

abbrev AsksBelow : ℕ → Option Lsi → Type 0
AsksBelow count None = Unit {0}
AsksBelow count (Some lsi.Count) = Unit {0}
AsksBelow count (Some (lsi.Reset port)) = port < count

done_below : (count : ℕ) (refusal : Option Sw) (its : Lsi) → AsksBelow count (Some its)
    → ResetsBelow count (done_unless refusal its)
done_below count None lsi.Count below = tt
done_below count None (lsi.Reset port) below = below
done_below count (Some sw) its below = tt

asked_below : (c : Apdu) (count : ℕ) (asked : Option Lsi) → AsksBelow count asked
    → ResetsBelow count (asked_in_form c count asked)
asked_below c count None below = tt
asked_below c count (Some its) below = done_below count (form_refusal_of c count its) its below

asks_below : (c : Apdu) (count : ℕ) → AsksBelow count (lsi_asked c count)
asks_below c count =
    by (nat_eq c.p1 0x00 && nat_eq c.p2 0x00) (nat_eq c.p1 0x01) (nat_lt c.p2 count) refl
  where
    by : (counts resets less : Bool) → nat_lt c.p2 count ≡ less
        → AsksBelow count (cond counts (Some lsi.Count)
        (cond (resets && less) (Some (lsi.Reset c.p2)) None))
    by true resets less is = tt
    by false true true is = ltb-true c.p2 count is
    by false true false is = tt
    by false false less is = tt

pub lsi_below : (c : Apdu) (count : ℕ) → ResetsBelow count (lsi_of c count)
lsi_below c count = by (has_class_80 c)
  where
    by : (special : Bool) → ResetsBelow count (cond special
        (asked_in_form c count (lsi_asked c count)) (Err WRONG_CLASS))
    by true = asked_below c count (lsi_asked c count) (asks_below c count)
    by false = tt

module _ (port : ℕ) where
  -- lines about the port itself
  both_own : (one other : Entry) → one.port ≡ port → other.port ≡ port
      → AtMost (own_first port) one other
  both_own one other is its =
      let first : (n : ℕ) → n ≡ port → own_rank (nat_eq port n) ≡ 1 =
      λ n same. ap own_rank (eq-eqb port n (sym same)) in
      inr (first one.port is ∙ sym (first other.port its), inr (is ∙ sym its, tt))

  pub own_before : (one other : Entry) → one.port ≡ port → other.port ≢ port
      → AtMost (own_first port) one other
  own_before one other is apart =
      let first : own_rank (nat_eq port one.port) ≡ 1 =
      ap own_rank (eq-eqb port one.port (sym is)) in
      let second : own_rank (nat_eq port other.port) ≡ 2 =
      ap own_rank (ne_eqb port other.port (λ same. apart (sym same))) in
      inl (omega (arith, first, second))

  pub others_by_port : (one other : Entry) → one.port ≢ port → other.port ≢ port
      → one.port < other.port → AtMost (own_first port) one other
  others_by_port one other apart away less =
      let second : (n : ℕ) → n ≢ port → own_rank (nat_eq port n) ≡ 2 =
      λ n differs. ap own_rank
      (ne_eqb port n (λ same. differs (sym same))) in
      inr (second one.port apart ∙ sym (second other.port away), inl less)

  pub away_alike : (one other : Entry) → one.port ≢ port → other.port ≢ port → one.port ≡ other.port
      → AtMost (own_first port) one other
  away_alike one other apart away same =
      let second : (n : ℕ) → n ≢ port → own_rank (nat_eq port n) ≡ 2 =
      λ n differs. ap own_rank
      (ne_eqb port n (λ same. differs (sym same))) in
      inr (second one.port apart ∙ sym (second other.port away), inr (same, tt))

  all_own : (entries : List Entry) → AllByRecursion (λ entry. entry.port ≡ port) entries
      → EachTwo (AtMost (own_first port)) entries
  all_own [] each = tt
  all_own (entry ∷ entries) each = (
    each_weaker (λ other. other.port ≡ port) (AtMost (own_first port) entry)
        (λ other is. both_own entry other each.0 is) entries each.1,
    all_own entries each.1,
  )

  -- the lines about the port first
  pub own_then : (own others : List Entry) → AllByRecursion (λ entry. entry.port ≡ port) own
      → AllByRecursion (λ entry. entry.port ≢ port) others
      → EachTwo (AtMost (own_first port)) others → EachTwo (AtMost (own_first port)) (own ++ others)
  own_then own others here away order =
      each_two_append (AtMost (own_first port)) own others (all_own own here) order
      (each_weaker (λ entry. entry.port ≡ port)
      (λ one. AllByRecursion (AtMost (own_first port) one) others)
      (λ one is. each_weaker (λ entry. entry.port ≢ port) (AtMost (own_first port) one)
      (λ other apart. own_before one other is apart) others away) own here)

-- the lines about a move
module _ (telling : Telling) where
  pub record IsToldAt (port : ℕ) (entry : Entry) : Type 0 where
    pub at : entry.port ≡ port
    pub turn : entry.turn ≡ telling.turn
    pub maker : maker_of entry ≡ telling.by

  move_quiet : (move : Move) → telling_lines (move_lines telling move) ≡ []
  move_quiet move =
      filter-append (λ (entry : Entry). tells_statement entry.line)
      (unbound_line telling move move.leaves) (bound_line telling move move.comes)
      ∙ ap (λ (its : List Entry). its ++ telling_lines (bound_line telling move move.comes))
      (unbound move.leaves)
      ∙ bound move.comes
    where
      unbound : (left : Option ℕ) → telling_lines (unbound_line telling move left) ≡ []
      unbound None = refl
      unbound (Some profile) = refl

      bound : (came : Option ℕ) → telling_lines (bound_line telling move came) ≡ []
      bound None = refl
      bound (Some profile) = refl

  -- no line about a move tells a statement
  pub own_quiet : (moves : List Move)
      → telling_lines (flat_map (own_move_lines telling) moves) ≡ []
  own_quiet [] = refl
  own_quiet (move ∷ moves) =
      filter-append (λ (entry : Entry). tells_statement entry.line) (own_move_lines telling move)
      (flat_map (own_move_lines telling) moves)
      ∙ ap (λ (its : List Entry). its
      ++ telling_lines (flat_map (own_move_lines telling) moves))
      (by (nat_eq move.port telling.by.port)) ∙ own_quiet moves
    where
      by : (here : Bool) → telling_lines (cond here (move_lines telling move) []) ≡ []
      by true = move_quiet move
      by false = refl

  pub others_quiet : (moves : List Move)
      → telling_lines (flat_map (other_move_lines telling) moves) ≡ []
  others_quiet [] = refl
  others_quiet (move ∷ moves) =
      filter-append (λ (entry : Entry). tells_statement entry.line)
      (other_move_lines telling move) (flat_map (other_move_lines telling) moves)
      ∙ ap (λ (its : List Entry). its
      ++ telling_lines (flat_map (other_move_lines telling) moves))
      (by (nat_eq move.port telling.by.port)) ∙ others_quiet moves
    where
      by : (here : Bool) → telling_lines (cond here [] (move_lines telling move)) ≡ []
      by true = refl
      by false = move_quiet move

  unbound_told : (move : Move) (left : Option ℕ)
      → AllByRecursion (IsToldAt move.port) (unbound_line telling move left)
  unbound_told move None = tt
  unbound_told move (Some profile) = (record { at = refl; turn = refl; maker = refl }, tt)

  bound_told : (move : Move) (came : Option ℕ)
      → AllByRecursion (IsToldAt move.port) (bound_line telling move came)
  bound_told move None = tt
  bound_told move (Some profile) = (record { at = refl; turn = refl; maker = refl }, tt)

  move_told : (move : Move) → AllByRecursion (IsToldAt move.port) (move_lines telling move)
  move_told move =
      each_joined (IsToldAt move.port) (unbound_line telling move move.leaves)
      (bound_line telling move move.comes) (unbound_told move move.leaves)
      (bound_told move move.comes)

  pub own_told : (move : Move)
      → AllByRecursion (λ entry. IsToldAt move.port entry × (entry.port ≡ telling.by.port))
      (own_move_lines telling move)
  own_told move = by (nat_eq move.port telling.by.port) refl
    where
      by : (here : Bool) → nat_eq move.port telling.by.port ≡ here
          → AllByRecursion (λ entry. IsToldAt move.port entry × (entry.port ≡ telling.by.port))
          (cond here (move_lines telling move) [])
      by true is =
          each_weaker (IsToldAt move.port)
          (λ entry. IsToldAt move.port entry × (entry.port ≡ telling.by.port))
          (λ entry told. (told, told.at ∙ eqb-true move.port telling.by.port is))
          (move_lines telling move) (move_told move)
      by false is = tt

  pub other_told : (move : Move)
      → AllByRecursion (λ entry. IsToldAt move.port entry × (entry.port ≢ telling.by.port))
      (other_move_lines telling move)
  other_told move = by (nat_eq move.port telling.by.port) refl
    where
      by : (here : Bool) → nat_eq move.port telling.by.port ≡ here
          → AllByRecursion (λ entry. IsToldAt move.port entry × (entry.port ≢ telling.by.port))
          (cond here [] (move_lines telling move))
      by true is = tt
      by false is =
          each_weaker (IsToldAt move.port)
          (λ entry. IsToldAt move.port entry × (entry.port ≢ telling.by.port))
          (λ entry told. (
            told,
            λ same. eqb-false move.port telling.by.port is (sym told.at ∙ same),
          ))
          (move_lines telling move) (move_told move)
