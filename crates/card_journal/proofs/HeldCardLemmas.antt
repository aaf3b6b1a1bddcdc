-- What a record needs of a card whose contents have room for their quotas.
use Rattle.std.proofs.Common.{◌≡◌, ◌∙◌, ℕ, ◌<◌, ◌≤◌, List, [], ◌∷◌, ◌++◌, Bool, length, Option}
use Rattle.std.proofs.Common.{Some, sym, ap, subst, arith}
use Rattle.std.specs.Prelude.{IsSomeAnd}
use Rattle.std.proofs.lemmas.List.{length-append}
use Rattle.card_journal.specs.Held.{PutsProfile, RoomIsFor}
use Rattle.card_journal.specs.Image.{MakesCard}
use Rattle.record_codec.specs.FitsCard.{FitsCard, NamesWhatIsHeld}
use Rattle.record_codec.specs.IsDurable.{IsDurable}
use Rattle.record_codec.specs.Room.{HasLists}
use Rattle.record_codec.specs.declared.durable.Durable.{Durable}
use Rattle.record_codec.specs.declared.record.Record.{Record}
use Rattle.record_codec.specs.declared.profile.Profile.{Profile}
use Rattle.record_codec.specs.declared.record.Record.TheVariants as records
use Rattle.file_rows.specs.Change.{Fits}
use Rattle.file_rows.specs.Content.{IsValid}
use Rattle.file_rows.specs.declared.change.Change.{Change}
use Rattle.file_rows.specs.declared.content.Content.{Content}
use Rattle.file_rows.proofs.EditLemmas.{is_some_and, some_is}
use Rattle.record_codec.specs.Apply.{apply}
use Rattle.record_codec.specs.Heads.{held_content}
use Rattle.record_codec.proofs.HeldLemmas.{content_valid}
use Rattle.record_codec.proofs.SizeLemmas.{last}

-- among the records that make no card, that of one more profile alone has lists
pub listed_puts : (entry : Record) → HasLists entry → (MakesCard entry → ⊥) → PutsProfile entry
listed_puts (records.PutCard mode ports eid next_number next_note notes) lists later = later tt
listed_puts (records.PutProfile installation profile port) lists later = tt
listed_puts (records.Content profile its) lists later = lists
listed_puts (records.Bind profile port displaced) lists later = lists
listed_puts (records.Unbind profile) lists later = lists
listed_puts (records.Gone profiles) lists later = lists
listed_puts (records.Name profile nickname) lists later = lists
listed_puts (records.NoteGone number) lists later = lists

-- one more profile, for which its content is there
module _ (held : Durable) (entry : Record) (installation : Bool) (profile : Profile)
    (port : Option ℕ) (is : entry ≡ records.PutProfile installation profile port)
    (fits : FitsCard held entry) where
  its_fits : FitsCard held (records.PutProfile installation profile port)
  its_fits = subst (λ (e : Record). FitsCard held e) is fits

  -- its content is valid
  pub put_valid : IsValid profile.content
  put_valid = last IsValid held.contents profile.content its_fits.after.contents.valid

  -- there is a place for it
  pub put_place : length held.contents < 16
  put_place =
      let after = its_fits.after in
      omega (
        arith,
        after.heads.profiles.few,
        after.contents.pairs,
        length-append held.contents (profile.content ∷ []),
        length-append held.heads.profiles (profile.head ∷ []),
      )

  -- the content that is there is its own
  its_room : (room : Option Content) → RoomIsFor entry room
      → IsSomeAnd room (λ its. its ≡ profile.content)
  its_room room said = subst (λ (e : Record). RoomIsFor e room) is said

  pub put_room : (room : Option Content) → RoomIsFor entry room → (capacity : ℕ) → 16 ≤ capacity
      → IsSomeAnd room (λ its. length held.contents < capacity)
  put_room room said capacity place =
      let there = some_is room (λ its. its ≡ profile.content) (its_room room said) in
      is_some_and room (λ its. length held.contents < capacity) there.0 there.1
      (omega (arith, put_place, place))

  pub put_after : (room : Option Content) → RoomIsFor entry room → (after : List Content)
      → IsSomeAnd room (λ its. after ≡ held.contents ++ its ∷ [])
      → after ≡ (apply held entry).contents
  put_after room said after added =
      let there = some_is room (λ its. its ≡ profile.content) (its_room room said) in
      let more = some_is room (λ its. after ≡ held.contents ++ its ∷ []) added in
      let one : Some more.0 ≡ Some there.0 = sym more.1 ∙ there.1 in
      let same : more.0 ≡ there.0 = cc in
      more.2 ∙ ap (λ (its : Content). held.contents ++ its ∷ []) (same ∙ there.2)
      ∙ sym (ap (λ (e : Record). (apply held e).contents) is)

-- a change of a content that fits finds a valid content
pub change_takes : (held : Durable) (entry : Record) (profile : ℕ) (its : Change)
    → entry ≡ records.Content profile its → IsDurable held → FitsCard held entry
    → IsSomeAnd (held_content profile held) (λ content. IsValid content × Fits content its)
change_takes held entry profile its is are fits =
    let place = subst (λ (e : Record). NamesWhatIsHeld held e) is fits.place in
    let there = some_is (held_content profile held) (λ content. Fits content its) place in
    is_some_and (held_content profile held) (λ content. IsValid content × Fits content its)
    there.0 there.1 (
      content_valid profile held.heads.profiles held.contents there.0 are.contents.valid there.1,
      there.2,
    )
