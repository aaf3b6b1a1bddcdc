-- What a statement at one port leaves of the others.
use Rattle.std.proofs.Common.{◌≡◌, ◌≢◌, ℕ, List, Option, Some, None, Ok, refl}
use Rattle.std.proofs.lemmas.List.{get_or-set_other}
use Rattle.std.specs.Prelude.{slice_index_or, slice_set}
use Rattle.file_rows.specs.declared.change.Change.{Change}
use Rattle.record_codec.specs.Apply.{apply}
use Rattle.record_codec.specs.Heads.{held_content}
use Rattle.record_codec.specs.IsDurable.{IsDurable}
use Rattle.record_codec.specs.declared.durable.Durable.{Durable}
use Rattle.record_codec.specs.declared.record.Record.TheVariants as records
use Rattle.card_core.proofs.PortLemmas.{made_elsewhere, made_of_others}
use Rattle.card_core.specs.OwnCommand.{changed_where}
use Rattle.card_core.specs.Port.{content_on, profile_on, with_change_of}
use Rattle.card_core.specs.PortState.{PortState, fresh_port}

module _ (durable : Durable) (are : IsDurable durable) (port : ℕ) where
  by_profile : (change : Change) (other : ℕ) → other ≢ port → (on : Option ℕ)
      → profile_on durable port ≡ on
      → content_on (with_change_of on change durable) other ≡ content_on durable other
  by_profile change other apart None on = refl
  by_profile change other apart (Some profile) on =
      made_elsewhere {X = Unit {0}} {Y = Unit {0}} durable
      (apply durable (records.Content profile change)) port profile change on (Ok tt) are refl tt
      other apart

  -- a change at a port leaves the content at another
  pub content_elsewhere : (change : Option Change) (other : ℕ) → other ≢ port
      → content_on (changed_where durable port change) other ≡ content_on durable other
  content_elsewhere None other apart = refl
  content_elsewhere (Some change) other apart =
      by_profile change other apart (profile_on durable port) refl

  held_by : (change : Change) (profile : ℕ) → profile_on durable port ≢ Some profile
      → (on : Option ℕ) → profile_on durable port ≡ on
      → held_content profile (with_change_of on change durable) ≡ held_content profile durable
  held_by change profile apart None on = refl
  held_by change profile apart (Some here) on =
      made_of_others {X = Unit {0}} {Y = Unit {0}} durable
      (apply durable (records.Content here change)) port here change on (Ok tt) are refl tt
      profile apart

  -- and the content of each profile that doesn't stand there
  pub held_elsewhere : (change : Option Change) (profile : ℕ)
      → profile_on durable port ≢ Some profile
      → held_content profile (changed_where durable port change) ≡ held_content profile durable
  held_elsewhere None profile apart = refl
  held_elsewhere (Some change) profile apart =
      held_by change profile apart (profile_on durable port) refl

pub heads_by : (durable : Durable) (change : Change) (on : Option ℕ)
    → (with_change_of on change durable).heads ≡ durable.heads
heads_by durable change None = refl
heads_by durable change (Some profile) = refl

-- a change of a content leaves all that isn't content
pub heads_where : (durable : Durable) (port : ℕ) (change : Option Change)
    → (changed_where durable port change).heads ≡ durable.heads
heads_where durable port None = refl
heads_where durable port (Some change) = heads_by durable change (profile_on durable port)

-- another port than the one that is put
pub other_port : (ports : List PortState) (number other : ℕ) (put : PortState) → other ≢ number
    → slice_index_or (slice_set ports number put) other fresh_port
    ≡ slice_index_or ports other fresh_port
other_port ports number other put apart =
    get_or-set_other ports number other put fresh_port apart
