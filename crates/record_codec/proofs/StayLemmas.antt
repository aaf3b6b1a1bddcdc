-- The heads, ports and notifications that a record leaves alone.
use Rattle.std.proofs.Common.{◌≡◌, ◌≢◌, ◌↔◌, ℕ, zero, suc, Bool, true, false, cond, not, nat_eq}
use Rattle.std.proofs.Common.{List, [], ◌∷◌, ◌++◌, map, filter, set, Option, Some, None, refl, sym}
use Rattle.std.proofs.Common.{◌∙◌, ap, inl, inr, ⊎_elim, arith, eqb-true}
use Rattle.std.specs.Prelude.{option_and_then, slice_get}
use Rattle.std.specs.List.{Contains}
use Rattle.std.proofs.lemmas.Bool.{true≢false}
use Rattle.std.proofs.lemmas.List.{get_or_append_left, length-append}
use Rattle.file_rows.proofs.ListLemmas.{filter-contains}
use Rattle.notify_list.specs.Notes.{NoteList, with_note}
use Rattle.notify_list.specs.declared.note.Note.{Note}
use Rattle.notify_list.specs.declared.note.Operation.{Operation}
use Rattle.notify_list.specs.declared.note.Operation.TheVariants.{Install, Enable, Disable, Delete}
use Rattle.port_table.specs.Ports.{StandsOn, bound, unbound}
use Rattle.port_table.specs.declared.ports.Ports.{Ports}
use Rattle.port_table.proofs.PortLemmas.{others}
use Rattle.record_codec.specs.Apply.{apply, heads_after}
use Rattle.record_codec.specs.FitsCard.{FitsCard}
use Rattle.record_codec.specs.Gone.{is_among, unbound_each}
use Rattle.record_codec.specs.Heads.{head_of}
use Rattle.record_codec.specs.Local.{TakesNote, TouchesHead, TouchesPort}
use Rattle.record_codec.specs.Name.{named}
use Rattle.record_codec.specs.Noted.{names, noted, noted_each, noted_where, with_each}
use Rattle.record_codec.specs.declared.durable.Durable.{Durable}
use Rattle.record_codec.specs.declared.profile.NoteTarget.{NoteTarget}
use Rattle.record_codec.specs.declared.profile.ProfileHead.{ProfileHead}
use Rattle.record_codec.specs.declared.record.Record.{Record}
use Rattle.record_codec.specs.declared.record.Record.TheVariants as records
use Rattle.record_codec.proofs.HeldLemmas.{differ_is, named_number}
use Rattle.record_codec.proofs.PortLemmas.{set_cases, were_on}

-- another element than the one at the place where one is put stays
set_stays : {X : Type 0} (xs : List X) (i j : ℕ) (v y z : X) → slice_get xs i ≡ Some z → slice_get xs j ≡ Some y → (z ≡ y → ⊥) → slice_get (set xs i v) j ≡ Some y
set_stays [] i j v y z at is apart = is
set_stays (x ∷ xs) zero zero v y z at is apart = absurd (apart (cc))
set_stays (x ∷ xs) zero (suc j) v y z at is apart = is
set_stays (x ∷ xs) (suc i) zero v y z at is apart = is
set_stays (x ∷ xs) (suc i) (suc j) v y z at is apart = set_stays xs i j v y z at is apart

-- binding a profile leaves the ports of others alone, but for what it displaces
bound_stays : (ports : Ports) (profile port : ℕ) (displaced : Option ℕ) (another other : ℕ) → slice_get ports.on port ≡ Some displaced
    → profile ≢ another → (displaced ≡ Some another → ⊥) → StandsOn (bound profile port ports) another other ↔ StandsOn ports another other
bound_stays ports profile port displaced another other there unlike kept = (
  λ stands. ⊎_elim
      (λ here. absurd (unlike (let same : Some profile ≡ Some another = here.1 in cc)))
      (λ stood. stood)
      (set_cases ports.on port other (Some profile) (Some another) stands),
  λ stood. set_stays ports.on port other (Some profile) (Some another) displaced there stood kept,
)

among_first : (number another : ℕ) (numbers : List ℕ) → (is_among (number ∷ numbers) another ≡ true → ⊥) → (another ≢ number) × (is_among numbers another ≡ true → ⊥)
among_first number another numbers none =
    let step : (b : Bool) → nat_eq number another ≡ b → (another ≢ number) × (is_among numbers another ≡ true → ⊥)
    = λ b. elim b as (λ b. nat_eq number another ≡ b → (another ≢ number) × (is_among numbers another ≡ true → ⊥)) [
      | true ↦ λ is. absurd (none (rw is refl))
      | false ↦ λ is. (λ same. true≢false (let eq : nat_eq number another ≡ true = ap (nat_eq number) same ∙ same_eq number in sym eq ∙ is), λ among. none (rw is among))
    ]
    in step (nat_eq number another) refl
  where
    same_eq : (n : ℕ) → nat_eq n n ≡ true
    same_eq n = grind arith

each_stays : (numbers : List ℕ) (ports : Ports) (another port : ℕ) → (is_among numbers another ≡ true → ⊥) → StandsOn ports another port → StandsOn (unbound_each numbers ports) another port
each_stays [] ports another port none stands = stands
each_stays (number ∷ numbers) ports another port none stands =
    let first = among_first number another numbers none in
    each_stays numbers (unbound number ports) another port first.1 ((others number ports another port first.0).1 stands)

pub ports_stay : (durable : Durable) (entry : Record) (profile port : ℕ) → FitsCard durable entry → (TouchesPort entry profile → ⊥)
    → StandsOn (apply durable entry).heads.ports profile port ↔ StandsOn durable.heads.ports profile port
ports_stay durable (records.PutCard mode ports eid next_number next_note notes) profile port fits unlike = absurd (unlike tt)
ports_stay durable (records.PutProfile installation its None) profile port fits unlike = (λ stands. stands, λ stands. stands)
ports_stay durable (records.PutProfile installation its (Some at)) profile port fits unlike =
    bound_stays durable.heads.ports its.head.number at None profile port fits.place.free unlike (λ e. cc)
ports_stay durable (records.Content other its) profile port fits unlike = (λ stands. stands, λ stands. stands)
ports_stay durable (records.Bind other at displaced) profile port fits unlike =
    bound_stays durable.heads.ports other at displaced profile port fits.place.there (λ e. unlike (inl e)) (λ e. unlike (inr e))
ports_stay durable (records.Unbind other) profile port fits unlike = others other durable.heads.ports profile port (λ e. unlike (sym e))
ports_stay durable (records.Gone numbers) profile port fits unlike = (
  λ stands. (were_on numbers durable.heads.ports profile port stands).0,
  λ stands. each_stays numbers durable.heads.ports profile port unlike stands,
)
ports_stay durable (records.Name other nickname) profile port fits unlike = (λ stands. stands, λ stands. stands)
ports_stay durable (records.NoteGone number) profile port fits unlike = (λ stands. stands, λ stands. stands)

module _ (number : ℕ) where
  head_more : (heads : List ProfileHead) (head : ProfileHead) → head.number ≢ number → head_of number (heads ++ head ∷ []) ≡ head_of number heads
  head_more [] head unlike = rw (differ_is head.number number unlike) refl
  head_more (one ∷ heads) head unlike = ap (λ (rest : Option ProfileHead). cond (nat_eq one.number number) (Some one) rest) (head_more heads head unlike)

  head_left : (numbers : List ℕ) → (is_among numbers number ≡ true → ⊥) → (heads : List ProfileHead)
      → head_of number (filter (λ head. not (is_among numbers head.number)) heads) ≡ head_of number heads
  head_left numbers none [] = refl
  head_left numbers none (head ∷ heads) =
      let left : List ProfileHead = filter (λ head. not (is_among numbers head.number)) heads in
      let rest : head_of number left ≡ head_of number heads = head_left numbers none heads in
      let step : (b : Bool) → is_among numbers head.number ≡ b → head_of number (cond (not b) (head ∷ left) left) ≡ head_of number (head ∷ heads)
      = λ b. elim b as (λ b. is_among numbers head.number ≡ b → head_of number (cond (not b) (head ∷ left) left) ≡ head_of number (head ∷ heads)) [
        | true ↦ λ is. rw (differ_is head.number number (λ e. none (ap (is_among numbers) (sym e) ∙ is))) rest
        | false ↦ λ is. ap (λ (found : Option ProfileHead). cond (nat_eq head.number number) (Some head) found) rest
      ]
      in step (is_among numbers head.number) refl

  unnamed : (profile : ℕ) (nickname : List ℕ) (head : ProfileHead) → head.number ≢ profile → named profile nickname head ≡ head
  unnamed profile nickname head unlike = rw (differ_is head.number profile unlike) refl

  head_named : (profile : ℕ) (nickname : List ℕ) → profile ≢ number → (heads : List ProfileHead)
      → head_of number (map (named profile nickname) heads) ≡ head_of number heads
  head_named profile nickname unlike [] = refl
  head_named profile nickname unlike (head ∷ heads) =
      let after : ProfileHead = named profile nickname head in
      let rest = head_named profile nickname unlike heads in
      let step : (b : Bool) → nat_eq head.number number ≡ b → cond b (Some after) (head_of number (map (named profile nickname) heads)) ≡ cond b (Some head) (head_of number heads)
      = λ b. elim b as (λ b. nat_eq head.number number ≡ b → cond b (Some after) (head_of number (map (named profile nickname) heads)) ≡ cond b (Some head) (head_of number heads)) [
        | true ↦ λ is. ap (λ (h : ProfileHead). Some h) (unnamed profile nickname head (λ e. unlike (sym e ∙ eqb-true head.number number is)))
        | false ↦ λ is. rest
      ]
      in
      ap (λ (n : ℕ). cond (nat_eq n number) (Some after) (head_of number (map (named profile nickname) heads))) (named_number profile nickname head)
      ∙ step (nat_eq head.number number) refl

pub heads_stay : (durable : Durable) (entry : Record) (profile : ℕ) → (TouchesHead entry profile → ⊥)
    → head_of profile (apply durable entry).heads.profiles ≡ head_of profile durable.heads.profiles
heads_stay durable (records.PutCard mode ports eid next_number next_note notes) profile unlike = absurd (unlike tt)
heads_stay durable (records.PutProfile installation its port) profile unlike = head_more profile durable.heads.profiles its.head unlike
heads_stay durable (records.Content other its) profile unlike = refl
heads_stay durable (records.Bind other at displaced) profile unlike = refl
heads_stay durable (records.Unbind other) profile unlike = refl
heads_stay durable (records.Gone numbers) profile unlike = head_left profile numbers unlike durable.heads.profiles
heads_stay durable (records.Name other nickname) profile unlike = head_named profile other nickname unlike durable.heads.profiles
heads_stay durable (records.NoteGone number) profile unlike = refl

module _ (note : Note) where
  abbrev IsIn : NoteList → Type 0
  IsIn notes = Contains notes.list note

  in_more : (xs ys : List Note) → Contains xs note → Contains (xs ++ ys) note
  in_more xs ys there = (there.0, omega (arith, there.1, length-append xs ys), get_or_append_left xs ys note there.0 there.1 ∙ there.2)

  in_each : (operation : Operation) (iccid : List ℕ) (targets : List NoteTarget) (notes : NoteList) → IsIn notes → IsIn (with_each operation iccid targets notes)
  in_each operation iccid [] notes there = there
  in_each operation iccid (target ∷ targets) notes there =
      in_each operation iccid targets (with_note operation iccid target.address notes) (in_more notes.list _ there)

  in_noted : (operation : Operation) (head : ProfileHead) (notes : NoteList) → IsIn notes → IsIn (noted operation head notes)
  in_noted operation head notes there = in_each operation head.iccid (filter (names operation) head.targets) notes there

  in_where : (operation : Operation) (found : Option ProfileHead) (notes : NoteList) → IsIn notes → IsIn (noted_where operation found notes)
  in_where operation None notes there = there
  in_where operation (Some head) notes there = in_noted operation head notes there

  in_numbers : (operation : Operation) (numbers : List ℕ) (profiles : List ProfileHead) (notes : NoteList) → IsIn notes → IsIn (noted_each operation numbers profiles notes)
  in_numbers operation [] profiles notes there = there
  in_numbers operation (number ∷ numbers) profiles notes there =
      in_numbers operation numbers profiles (noted_where operation (head_of number profiles) notes) (in_where operation (head_of number profiles) notes there)

  pub notes_stay : (durable : Durable) (entry : Record) → (TakesNote entry note → ⊥) → IsIn durable.heads.notes → IsIn (apply durable entry).heads.notes
  notes_stay durable (records.PutCard mode ports eid next_number next_note notes) kept there = absurd (kept tt)
  notes_stay durable (records.PutProfile true its port) kept there = in_noted Install its.head durable.heads.notes there
  notes_stay durable (records.PutProfile false its port) kept there = there
  notes_stay durable (records.Content other its) kept there = there
  notes_stay durable (records.Bind other at displaced) kept there =
      let profiles = durable.heads.profiles in
      let gone = option_and_then (λ number. head_of number profiles) displaced in
      in_where Enable (head_of other profiles) (noted_where Disable gone durable.heads.notes) (in_where Disable gone durable.heads.notes there)
  notes_stay durable (records.Unbind other) kept there = in_where Disable (head_of other durable.heads.profiles) durable.heads.notes there
  notes_stay durable (records.Gone numbers) kept there = in_numbers Delete numbers durable.heads.profiles durable.heads.notes there
  notes_stay durable (records.Name other nickname) kept there = there
  notes_stay durable (records.NoteGone number) kept there =
      filter-contains (λ n. not (nat_eq n.number number)) durable.heads.notes.list note there (ap not (differ_is note.number number kept))

-- what a record does beside the contents depends on no content
pub heads_alone : (durable : Durable) (entry : Record) → (apply durable entry).heads ≡ heads_after durable.heads entry
heads_alone durable (records.PutCard mode ports eid next_number next_note notes) = refl
heads_alone durable (records.PutProfile installation its port) = refl
heads_alone durable (records.Content other its) = refl
heads_alone durable (records.Bind other at displaced) = refl
heads_alone durable (records.Unbind other) = refl
heads_alone durable (records.Gone numbers) = refl
heads_alone durable (records.Name other nickname) = refl
heads_alone durable (records.NoteGone number) = refl
