-- What a record leaves alone.
use Rattle.std.proofs.Common.{◌≡◌, ℕ, Bool, true, false, cond, not, nat_eq, List, [], ◌∷◌, ◌++◌}
use Rattle.std.proofs.Common.{length, map, filter, Option, Some, None, refl, sym, ◌∙◌, ap, arith}
use Rattle.std.proofs.Common.{eqb-true}
use Rattle.file_rows.specs.declared.content.Content.{Content}
use Rattle.record_codec.proofs.HeldLemmas.{differ_is, named_number}
use Rattle.record_codec.specs.Apply.{apply}
use Rattle.record_codec.specs.Content.{contents_with}
use Rattle.record_codec.specs.Gone.{contents_without, is_among}
use Rattle.record_codec.specs.Heads.{content_at, held_content}
use Rattle.record_codec.specs.Local.{TouchesContent}
use Rattle.record_codec.specs.Name.{named}
use Rattle.record_codec.specs.declared.durable.Durable.{Durable}
use Rattle.record_codec.specs.declared.profile.ProfileHead.{ProfileHead}
use Rattle.record_codec.specs.declared.record.Record.{Record}
use Rattle.record_codec.specs.declared.record.Record.TheVariants as records

module _ (number : ℕ) where
  no_content : (heads : List ProfileHead) → content_at {X = Content} number heads [] ≡ None
  no_content [] = refl
  no_content (head ∷ heads) = refl

  -- one profile more
  put : (heads : List ProfileHead) (contents : List Content) (head : ProfileHead) (content : Content) → length contents ≡ length heads
      → (head.number ≡ number → ⊥)
      → content_at number (heads ++ head ∷ []) (contents ++ content ∷ []) ≡ content_at number heads contents
  put [] [] head content pairs unlike = rw (differ_is head.number number unlike) refl
  put [] (one ∷ contents) head content pairs unlike = absurd (omega (arith, pairs))
  put (one ∷ heads) [] head content pairs unlike = absurd (omega (arith, pairs))
  put (one ∷ heads) (its ∷ contents) head content pairs unlike =
      ap (λ (rest : Option Content). cond (nat_eq one.number number) (Some its) rest) (put heads contents head content (omega (arith, pairs)) unlike)

  -- another content changed
  change : (other : ℕ) (f : Content → Content) → (other ≡ number → ⊥) → (heads : List ProfileHead) (contents : List Content)
      → content_at number heads (contents_with other f heads contents) ≡ content_at number heads contents
  change other f unlike [] contents = refl
  change other f unlike (head ∷ heads) [] = refl
  change other f unlike (head ∷ heads) (content ∷ contents) =
      let after : List Content = contents_with other f heads contents in
      let changed : Content = cond (nat_eq head.number other) (f content) content in
      let step : (b : Bool) → nat_eq head.number number ≡ b
      → cond b (Some changed) (content_at number heads after) ≡ cond b (Some content) (content_at number heads contents)
      = λ b. elim b as (λ b. nat_eq head.number number ≡ b
      → cond b (Some changed) (content_at number heads after) ≡ cond b (Some content) (content_at number heads contents)) [
        | true ↦ λ is.
            let same : head.number ≡ number = eqb-true head.number number is in
            ap (λ (b : Bool). Some (cond b (f content) content)) (differ_is head.number other (λ e. unlike (sym e ∙ same)))
        | false ↦ λ is. change other f unlike heads contents
      ]
      in step (nat_eq head.number number) refl

  -- a nickname set
  name : (profile : ℕ) (nickname : List ℕ) (heads : List ProfileHead) (contents : List Content)
      → content_at number (map (named profile nickname) heads) contents ≡ content_at number heads contents
  name profile nickname [] contents = refl
  name profile nickname (head ∷ heads) [] = refl
  name profile nickname (head ∷ heads) (content ∷ contents) =
      ap (λ (n : ℕ). cond (nat_eq n number) (Some content) (content_at number (map (named profile nickname) heads) contents)) (named_number profile nickname head)
      ∙ ap (λ (rest : Option Content). cond (nat_eq head.number number) (Some content) rest) (name profile nickname heads contents)

  -- others gone
  gone : (numbers : List ℕ) → (is_among numbers number ≡ true → ⊥) → (heads : List ProfileHead) (contents : List Content)
      → content_at number (filter (λ head. not (is_among numbers head.number)) heads) (contents_without numbers heads contents) ≡ content_at number heads contents
  gone numbers unlike [] contents = refl
  gone numbers unlike (head ∷ heads) [] = no_content (filter (λ head. not (is_among numbers head.number)) (head ∷ heads))
  gone numbers unlike (head ∷ heads) (content ∷ contents) =
      let left : List ProfileHead = filter (λ head. not (is_among numbers head.number)) heads in
      let after : List Content = contents_without numbers heads contents in
      let rest : content_at number left after ≡ content_at number heads contents = gone numbers unlike heads contents in
      let step : (b : Bool) → is_among numbers head.number ≡ b
      → content_at number (cond (not b) (head ∷ left) left) (cond b after (content ∷ after))
      ≡ cond (nat_eq head.number number) (Some content) (content_at number heads contents)
      = λ b. elim b as (λ b. is_among numbers head.number ≡ b
      → content_at number (cond (not b) (head ∷ left) left) (cond b after (content ∷ after))
      ≡ cond (nat_eq head.number number) (Some content) (content_at number heads contents)) [
        | true ↦ λ is.
            let other : nat_eq head.number number ≡ false = differ_is head.number number (λ e. unlike (ap (is_among numbers) (sym e) ∙ is)) in
            rest ∙ sym (ap (λ (b : Bool). cond b (Some content) (content_at number heads contents)) other)
        | false ↦ λ is. ap (λ (r : Option Content). cond (nat_eq head.number number) (Some content) r) rest
      ]
      in step (is_among numbers head.number) refl

pub contents_stay : (durable : Durable) (entry : Record) (profile : ℕ) → length durable.contents ≡ length durable.heads.profiles
    → (TouchesContent entry profile → ⊥) → held_content profile (apply durable entry) ≡ held_content profile durable
contents_stay durable (records.PutCard mode ports eid next_number next_note notes) profile pairs unlike = absurd (unlike tt)
contents_stay durable (records.PutProfile installation its port) profile pairs unlike =
    put profile durable.heads.profiles durable.contents its.head its.content pairs unlike
contents_stay durable (records.Content other its) profile pairs unlike = change profile other _ unlike durable.heads.profiles durable.contents
contents_stay durable (records.Bind other port displaced) profile pairs unlike = refl
contents_stay durable (records.Unbind other) profile pairs unlike = refl
contents_stay durable (records.Gone numbers) profile pairs unlike = gone profile numbers unlike durable.heads.profiles durable.contents
contents_stay durable (records.Name other nickname) profile pairs unlike = name profile other nickname durable.heads.profiles durable.contents
contents_stay durable (records.NoteGone note) profile pairs unlike = refl
