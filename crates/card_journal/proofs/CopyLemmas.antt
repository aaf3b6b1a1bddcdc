-- A copy of a card leaves that card.
use Rattle.std.proofs.Common.{◌≡◌, ◌≢◌, ℕ, zero, suc, ◌+◌, ◌<◌, Bool, true, false, cond, nat_eq}
use Rattle.std.proofs.Common.{List, [], ◌∷◌, ◌++◌, length, map, set, replicate, Option, Some, None}
use Rattle.std.proofs.Common.{refl, sym, ◌∙◌, ap, subst, ⊎_elim, arith, eqb-true, eq-eqb}
use Rattle.std.proofs.Common.{append_assoc}
use Rattle.std.specs.Prelude.{IfSome, option_map, slice_get}
use Rattle.std.specs.List.{AllByRecursion}
use Rattle.std.proofs.lemmas.Bool.{false≢true}
use Rattle.std.proofs.lemmas.List.{append-nil, length-append}
use Rattle.file_rows.specs.Content.{IsValid}
use Rattle.file_rows.specs.declared.content.Content.{Content}
use Rattle.file_rows.proofs.ListLemmas.{any_cases, any_none, each_right}
use Rattle.plain_lists.specs.EachTwo.{EachTwo}
use Rattle.port_table.specs.PortOf.{port_of}
use Rattle.port_table.specs.Ports.{holds}
use Rattle.port_table.specs.declared.ports.Ports.{Ports}
use Rattle.card_journal.specs.Copy.{copy_of, put_each}
use Rattle.card_journal.specs.Image.{Follow, Leave}
use Rattle.record_codec.specs.Apply.{apply, fold}
use Rattle.record_codec.specs.FitsCard.{FitsCard}
use Rattle.record_codec.specs.Heads.{IsHeld}
use Rattle.record_codec.specs.IsDurable.{IsDurable, IsHead}
use Rattle.record_codec.specs.PutCard.{new_card}
use Rattle.record_codec.specs.PutProfile.{bound_where}
use Rattle.record_codec.specs.Takes.{IsFreePort}
use Rattle.record_codec.specs.declared.durable.Durable.{Durable}
use Rattle.record_codec.specs.declared.profile.ProfileHead.{ProfileHead}
use Rattle.record_codec.specs.declared.record.Record.{Record}
use Rattle.record_codec.specs.declared.record.Record.TheVariants as records
use Rattle.record_codec.proofs.FitLemmas.{begun, fits_where}
use Rattle.record_codec.proofs.HeldLemmas.{differ_is}

-- whether a profile of that number is among these
abbrev is_in : List ProfileHead → ℕ → Bool
is_in [] number = false
is_in (head ∷ heads) number = cond (nat_eq head.number number) true (is_in heads number)

-- a place without profiles that aren't among these
abbrev only_place : List ProfileHead → Option ℕ → Option ℕ
only_place heads None = None
only_place heads (Some number) = cond (is_in heads number) (Some number) None

abbrev only : List ProfileHead → List (Option ℕ) → List (Option ℕ)
only heads on = map (only_place heads) on

is_in_more : (heads : List ProfileHead) (head : ProfileHead) (number : ℕ) → is_in (heads ++ head ∷ []) number ≡ cond (is_in heads number) true (nat_eq head.number number)
is_in_more [] head number =
    let step : (b : Bool) → cond b true false ≡ b = λ b. elim b as (λ b. cond b true false ≡ b) [ true ↦ refl | false ↦ refl ] in
    step (nat_eq head.number number)
is_in_more (one ∷ heads) head number =
    let rest = is_in_more heads head number in
    let step : (b : Bool) → cond b true (is_in (heads ++ head ∷ []) number) ≡ cond (cond b true (is_in heads number)) true (nat_eq head.number number)
    = λ b. elim b as (λ b. cond b true (is_in (heads ++ head ∷ []) number) ≡ cond (cond b true (is_in heads number)) true (nat_eq head.number number)) [
      | true ↦ refl
      | false ↦ rest
    ]
    in step (nat_eq one.number number)

held_in : (number : ℕ) (heads : List ProfileHead) → IsHeld number heads → is_in heads number ≡ true
held_in number [] held = absurd (any_none (λ head. head.number ≡ number) held)
held_in number (head ∷ heads) held = ⊎_elim
    (λ is. rw (eq-eqb head.number number is) refl)
    (λ later.
    let rest = held_in number heads later in
    let step : (b : Bool) → cond b true (is_in heads number) ≡ true = λ b. elim b as (λ b. cond b true (is_in heads number) ≡ true) [ true ↦ refl | false ↦ rest ] in
    step (nat_eq head.number number))
    (any_cases (λ head. head.number ≡ number) head heads held)

not_in : (number : ℕ) (heads : List ProfileHead) → AllByRecursion (λ head. head.number ≢ number) heads → is_in heads number ≡ false
not_in number [] each = refl
not_in number (head ∷ heads) each = rw (differ_is head.number number each.0) (not_in number heads each.1)

not_held : (number : ℕ) (heads : List ProfileHead) → AllByRecursion (λ head. head.number ≢ number) heads → IsHeld number heads → ⊥
not_held number heads each held = false≢true (sym (not_in number heads each) ∙ held_in number heads held)

-- a profile stands on one port at most
abbrev OnePort : ℕ → List (Option ℕ) → Type 0
OnePort number on = (i j : ℕ) → slice_get on i ≡ Some (Some number) → slice_get on j ≡ Some (Some number) → i ≡ j

tail_one : (number : ℕ) (place : Option ℕ) (on : List (Option ℕ)) → OnePort number (place ∷ on) → OnePort number on
tail_one number place on one i j first second = let e : suc i ≡ suc j = one (suc i) (suc j) first second in omega (arith, e)

held_at : (number : ℕ) (place : Option ℕ) → holds number place ≡ true → place ≡ Some number
held_at number None e = absurd (false≢true e)
held_at number (Some other) e = ap (λ (n : ℕ). Some n) (eqb-true other number e)

module _ (heads : List ProfileHead) (head : ProfileHead) where
  abbrev more : List ProfileHead
  more = heads ++ head ∷ []

  -- a place that doesn't hold the profile is as without it
  same_place : (place : Option ℕ) → holds head.number place ≡ false → only_place heads place ≡ only_place more place
  same_place None other = refl
  same_place (Some number) other =
      let apart : nat_eq head.number number ≡ false = differ_is head.number number (λ e. false≢true (sym other ∙ eq-eqb number head.number (sym e))) in
      let step : (b : Bool) → cond b true false ≡ b = λ b. elim b as (λ b. cond b true false ≡ b) [ true ↦ refl | false ↦ refl ] in
      let same : is_in more number ≡ is_in heads number = is_in_more heads head number ∙ ap (λ (b : Bool). cond (is_in heads number) true b) apart ∙ step (is_in heads number) in
      sym (ap (λ (b : Bool). cond b (Some number) None) same)

  same_all : (on : List (Option ℕ)) → ((j : ℕ) → slice_get on j ≡ Some (Some head.number) → ⊥) → only heads on ≡ only more on
  same_all [] none = refl
  same_all (place ∷ on) none =
      let other : holds head.number place ≡ false = not_held_by place (λ e. none zero (ap (λ (p : Option ℕ). Some p) e)) in
      ap (λ (p : Option ℕ). p ∷ only heads on) (same_place place other)
      ∙ ap (λ (ps : List (Option ℕ)). only_place more place ∷ ps) (same_all on (λ j. none (suc j)))
    where
      not_held_by : (place : Option ℕ) → (place ≡ Some head.number → ⊥) → holds head.number place ≡ false
      not_held_by None apart = refl
      not_held_by (Some number) apart = differ_is number head.number (λ e. apart (ap (λ (n : ℕ). Some n) e))

  with_port : Option ℕ → List (Option ℕ) → List (Option ℕ)
  with_port None on = on
  with_port (Some port) on = set on port (Some head.number)

  later_port : (port : Option ℕ) (place : Option ℕ) (on : List (Option ℕ)) → with_port (option_map suc port) (place ∷ on) ≡ place ∷ with_port port on
  unfolding with_port
  later_port None place on = refl
  later_port (Some port) place on = refl

  last_in : is_in more head.number ≡ true
  last_in =
      let step : (b : Bool) → cond b true true ≡ true = λ b. elim b as (λ b. cond b true true ≡ true) [ true ↦ refl | false ↦ refl ] in
      is_in_more heads head head.number ∙ ap (λ (b : Bool). cond (is_in heads head.number) true b) (eq-eqb head.number head.number refl) ∙ step (is_in heads head.number)

  -- one more profile on its port
  on_more : (on : List (Option ℕ)) → OnePort head.number on → with_port (port_of head.number on) (only heads on) ≡ only more on
  unfolding with_port
  on_more [] one = refl
  on_more (place ∷ on) one =
      let rest = on_more on (tail_one head.number place on one) in
      let step : (b : Bool) → holds head.number place ≡ b
      → with_port (cond b (Some 0) (option_map suc (port_of head.number on))) (only_place heads place ∷ only heads on) ≡ only_place more place ∷ only more on
      = λ b. elim b as (λ b. holds head.number place ≡ b
      → with_port (cond b (Some 0) (option_map suc (port_of head.number on))) (only_place heads place ∷ only heads on) ≡ only_place more place ∷ only more on) [
        | true ↦ λ is.
            let at : place ≡ Some head.number = held_at head.number place is in
            let its : only_place more place ≡ Some head.number = ap (only_place more) at ∙ ap (λ (b : Bool). cond b (Some head.number) None) last_in in
            let none : (j : ℕ) → slice_get on j ≡ Some (Some head.number) → ⊥
            = λ j there. let e : 0 ≡ suc j = one 0 (suc j) (ap (λ (p : Option ℕ). Some p) at) there in omega (arith, e)
            in
            ap (λ (ps : List (Option ℕ)). Some head.number ∷ ps) (same_all on none) ∙ ap (λ (p : Option ℕ). p ∷ only more on) (sym its)
        | false ↦ λ is.
            later_port (port_of head.number on) (only_place heads place) (only heads on)
            ∙ ap (λ (p : Option ℕ). p ∷ with_port (port_of head.number on) (only heads on)) (same_place place is)
            ∙ ap (λ (ps : List (Option ℕ)). only_place more place ∷ ps) rest
      ]
      in step (holds head.number place) refl

  bound_is : (port : Option ℕ) (ports : Ports) → bound_where head.number port ports ≡ record ports { on = with_port port ports.on }
  unfolding with_port
  bound_is None ports = refl
  bound_is (Some port) ports = refl

-- no profile stands on a port yet
only_none : (on : List (Option ℕ)) → only [] on ≡ replicate (length on) None
only_none [] = refl
only_none (None ∷ on) = ap (λ (ps : List (Option ℕ)). None ∷ ps) (only_none on)
only_none (Some number ∷ on) = ap (λ (ps : List (Option ℕ)). None ∷ ps) (only_none on)

-- all that stand on a port are among the profiles
only_all : (heads : List ProfileHead) (on : List (Option ℕ)) → ((port number : ℕ) → slice_get on port ≡ Some (Some number) → IsHeld number heads) → only heads on ≡ on
only_all heads [] held = refl
only_all heads (None ∷ on) held = ap (λ (ps : List (Option ℕ)). None ∷ ps) (only_all heads on (λ port. held (suc port)))
only_all heads (Some number ∷ on) held =
    let there : is_in heads number ≡ true = held_in number heads (held zero number refl) in
    ap (λ (b : Bool). cond b (Some number) None ∷ only heads on) there ∙ ap (λ (ps : List (Option ℕ)). Some number ∷ ps) (only_all heads on (λ port. held (suc port)))

later_there : (number port : ℕ) (place : Option ℕ) (on : List (Option ℕ)) (found : Option ℕ) → ((q : ℕ) → found ≡ Some q → slice_get on q ≡ Some (Some number))
    → option_map suc found ≡ Some port → slice_get (place ∷ on) port ≡ Some (Some number)
later_there number port place on None rest f = absurd (cc)
later_there number port place on (Some q) rest f =
    let up : suc q ≡ port = cc in
    subst (λ (p : ℕ). slice_get (place ∷ on) p ≡ Some (Some number)) up (rest q refl)

-- the port is the one on which the profile stands
port_there : (number port : ℕ) (on : List (Option ℕ)) → port_of number on ≡ Some port → slice_get on port ≡ Some (Some number)
port_there number port [] e = absurd (cc)
port_there number port (place ∷ on) e =
    let rest : (q : ℕ) → port_of number on ≡ Some q → slice_get on q ≡ Some (Some number) = λ q is. port_there number q on is in
    let step : (b : Bool) → holds number place ≡ b → cond b (Some 0) (option_map suc (port_of number on)) ≡ Some port → slice_get (place ∷ on) port ≡ Some (Some number)
    = λ b. elim b as (λ b. holds number place ≡ b → cond b (Some 0) (option_map suc (port_of number on)) ≡ Some port → slice_get (place ∷ on) port ≡ Some (Some number)) [
      | true ↦ λ is f.
          let first : 0 ≡ port = cc in
          subst (λ (p : ℕ). slice_get (place ∷ on) p ≡ Some (Some number)) first (ap (λ (p : Option ℕ). Some p) (held_at number place is))
      | false ↦ λ is f. later_there number port place on (port_of number on) rest f
    ]
    in step (holds number place) refl e

slice_only : (heads : List ProfileHead) (on : List (Option ℕ)) (port : ℕ) (place : Option ℕ) → slice_get on port ≡ Some place → slice_get (only heads on) port ≡ Some (only_place heads place)
slice_only heads [] port place e = absurd (cc)
slice_only heads (one ∷ on) zero place e = let same : one ≡ place = cc in ap (λ (p : Option ℕ). Some (only_place heads p)) same
slice_only heads (one ∷ on) (suc port) place e = slice_only heads on port place e

-- what each element before one has with it
two_before : {X : Type 0} (R : X → X → Type 0) (xs ys : List X) (y : X) → EachTwo R (xs ++ y ∷ ys) → AllByRecursion (λ x. R x y) xs
two_before R [] ys y each = tt
two_before R (x ∷ xs) ys y each = ((each_right (R x) xs (y ∷ ys) each.0).0, two_before R xs ys y each.1)

module _ (card : Durable) (are : IsDurable card) where
  abbrev on : List (Option ℕ)
  on = card.heads.ports.on

  -- the card with these profiles alone
  abbrev with_only : List ProfileHead → List Content → Durable
  with_only heads contents = record {
    heads = record {
      eid = card.heads.eid;
      ports = record card.heads.ports { on = only heads on };
      next_number = card.heads.next_number;
      profiles = heads;
      notes = card.heads.notes;
    };
    contents = contents;
  }

  abbrev record_of : ProfileHead → Content → Record
  record_of head content = records.PutProfile false (record { head = head; content = content }) (port_of head.number on)

  free_port : (heads : List ProfileHead) (contents : List Content) (number : ℕ) → AllByRecursion (λ other. other.number ≢ number) heads → (port : Option ℕ) → port_of number on ≡ port
      → IfSome port (λ port. IsFreePort (with_only heads contents).heads port)
  free_port heads contents number each None is = tt
  free_port heads contents number each (Some port) is =
      let there = port_there number port on is in
      record {
        free = slice_only heads on port (Some number) there ∙ ap (λ (b : Bool). Some (cond b (Some number) None)) (not_in number heads each);
        place = are.heads.ports.rule.places number port there;
      }

  -- the next profile fits
  one_fits : (heads rest : List ProfileHead) (contents others : List Content) (head : ProfileHead) (content : Content)
      → card.heads.profiles ≡ heads ++ head ∷ rest → card.contents ≡ contents ++ content ∷ others → IsDurable (with_only heads contents)
      → FitsCard (with_only heads contents) (record_of head content)
  one_fits heads rest contents others head content profiles_are contents_are is =
      let profiles = subst (λ (ps : List ProfileHead). AllByRecursion IsHead ps) profiles_are are.heads.profiles.each in
      let below = subst (AllByRecursion (λ (h : ProfileHead). h.number < card.heads.next_number)) profiles_are are.heads.profiles.below in
      let numbers = two_before (λ (one other : ProfileHead). one.number ≢ other.number) heads rest head
      (subst (EachTwo (λ (one other : ProfileHead). one.number ≢ other.number)) profiles_are are.heads.profiles.numbers)
      in
      let iccids = two_before (λ (one other : ProfileHead). one.iccid ≢ other.iccid) heads rest head
      (subst (EachTwo (λ (one other : ProfileHead). one.iccid ≢ other.iccid)) profiles_are are.heads.profiles.iccids)
      in
      let valid = subst (AllByRecursion IsValid) contents_are are.contents.valid in
      (fits_where (with_only heads contents) (record_of head content) is).1 (record {
        heads = record {
          few = omega (arith, are.heads.profiles.few, ap (λ (ps : List ProfileHead). length ps) profiles_are, length-append heads (head ∷ rest));
          form = (each_right IsHead heads (head ∷ rest) profiles).0;
          new = not_held head.number heads numbers;
          iccid = iccids;
          next = λ e. absurd (false≢true e);
          before = λ e. (each_right (λ (h : ProfileHead). h.number < card.heads.next_number) heads (head ∷ rest) below).0;
          free = free_port heads contents head.number numbers (port_of head.number on) refl;
          room = λ e. absurd (false≢true e);
        };
        content = (each_right IsValid contents (content ∷ others) valid).0;
      })

  one_port : (number : ℕ) → OnePort number on
  one_port number i j first second = are.heads.ports.rule.one_port number i j first second

  abbrev make : List ProfileHead → List Content → List (Option ℕ) → ℕ → Durable
  make heads contents places next = record {
    heads = record {
      eid = card.heads.eid;
      ports = record card.heads.ports { on = places };
      next_number = next;
      profiles = heads;
      notes = card.heads.notes;
    };
    contents = contents;
  }

  one_more : (heads : List ProfileHead) (contents : List Content) (head : ProfileHead) (content : Content)
      → apply (with_only heads contents) (record_of head content) ≡ with_only (heads ++ head ∷ []) (contents ++ content ∷ [])
  one_more heads contents head content =
      let heads' = heads ++ head ∷ [] in
      let contents' = contents ++ content ∷ [] in
      let with_ports : Ports → ℕ → Durable = λ ports next. record {
        heads = record { eid = card.heads.eid; ports = ports; next_number = next; profiles = heads'; notes = card.heads.notes };
        contents = contents';
      } in
      ap (λ (ports : Ports). with_ports ports (card.heads.next_number + 0)) (bound_is heads head (port_of head.number on) (record card.heads.ports { on = only heads on }))
      ∙ ap (λ (places : List (Option ℕ)). make heads' contents' places (card.heads.next_number + 0)) (on_more heads head on (one_port head.number))
      ∙ ap (λ (next : ℕ). make heads' contents' (only heads' on) next) (let e : card.heads.next_number + 0 ≡ card.heads.next_number = omega arith in e)

  abbrev Goes : List ProfileHead → List Content → List ProfileHead → List Content → Type 0
  Goes heads contents rest others =
      Follow (with_only heads contents) (put_each on rest others)
      × (fold (with_only heads contents) (put_each on rest others) ≡ with_only (heads ++ rest) (contents ++ others))

  goes : (heads rest : List ProfileHead) (contents others : List Content) → card.heads.profiles ≡ heads ++ rest → card.contents ≡ contents ++ others
      → length others ≡ length rest → IsDurable (with_only heads contents) → Goes heads contents rest others
  goes heads [] contents [] profiles_are contents_are pairs is =
      (tt, ap (λ (hs : List ProfileHead). with_only hs contents) (sym (append-nil heads)) ∙ ap (λ (cs : List Content). with_only (heads ++ []) cs) (sym (append-nil contents)))
  goes heads [] contents (other ∷ others) profiles_are contents_are pairs is = absurd (omega (arith, pairs))
  goes heads (head ∷ rest) contents [] profiles_are contents_are pairs is = absurd (omega (arith, pairs))
  goes heads (head ∷ rest) contents (content ∷ others) profiles_are contents_are pairs is =
      let fits = one_fits heads rest contents others head content profiles_are contents_are is in
      let next = one_more heads contents head content in
      let heads' = heads ++ head ∷ [] in
      let contents' = contents ++ content ∷ [] in
      let more_heads : heads' ++ rest ≡ heads ++ head ∷ rest = append_assoc heads (head ∷ []) rest in
      let more_contents : contents' ++ others ≡ contents ++ content ∷ others = append_assoc contents (content ∷ []) others in
      let later = goes heads' rest contents' others (profiles_are ∙ sym more_heads) (contents_are ∙ sym more_contents) (omega (arith, pairs)) (subst IsDurable next fits.after) in (
        ((λ none. none), fits, subst (λ (d : Durable). Follow d (put_each on rest others)) (sym next) later.0),
        ap (λ (d : Durable). fold d (put_each on rest others)) next ∙ later.1
            ∙ ap (λ (hs : List ProfileHead). with_only hs (contents' ++ others)) more_heads
            ∙ ap (λ (cs : List Content). with_only (heads ++ head ∷ rest) cs) more_contents,
      )

  -- the copy of a card leaves the card
  pub copied : Leave (copy_of card) card
  copied =
      let held = card.heads in
      let empty : with_only [] [] ≡ new_card held.ports.mode held.ports.count held.eid held.next_number held.notes.next held.notes.list
      = ap (λ (places : List (Option ℕ)). make [] [] places held.next_number) (only_none on ∙ ap (λ (n : ℕ). replicate n None) are.heads.ports.rule.count)
      in
      let first = begun held.ports.mode held.ports.count held.eid held.next_number held.notes.next held.notes.list (with_only [] []) empty
      (record { some = are.heads.ports.some; few = are.heads.ports.few; pending = are.heads.notes })
      in
      let all = goes [] held.profiles [] card.contents refl refl are.contents.pairs first.valid in
      let whole : with_only held.profiles card.contents ≡ card
      = ap (λ (places : List (Option ℕ)). make held.profiles card.contents places held.next_number) (only_all held.profiles on (λ port number there. are.heads.ports.held number port there))
      in (with_only [] [], first, all.0, sym (all.1 ∙ whole))
