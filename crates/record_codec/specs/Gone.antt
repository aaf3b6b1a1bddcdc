-- Profiles that go.
use Rattle.std.specs.Prelude.{ℕ, Bool, false, not, ◌≢◌, ◌==◌, ◌||◌, if◌then◌else◌, List, [], ◌∷◌}
use Rattle.std.specs.Prelude.{filter}
use Rattle.std.specs.List.{AllByRecursion}
use Rattle.notify_list.specs.declared.note.Operation.TheVariants.{Delete}
use Rattle.plain_lists.specs.EachTwo.{EachTwo}
use Rattle.port_table.specs.Ports.{unbound}
use Rattle.port_table.specs.declared.ports.Ports.{Ports}
use Rattle.record_codec.specs.Heads.{IsHeld}
use Rattle.record_codec.specs.Noted.{noted_each}
use Rattle.record_codec.specs.declared.durable.Durable.{Durable}
use Rattle.record_codec.specs.declared.profile.ProfileHead.{ProfileHead}

-- whether a number is one of these
abbrev pub is_among : List ℕ → ℕ → Bool
is_among [] number = false
is_among (one ∷ numbers) number = (one == number) || is_among numbers number

-- the contents of the profiles that stay
abbrev pub contents_without : {X : Type 0} → List ℕ → List ProfileHead → List X → List X
contents_without numbers [] contents = contents
contents_without numbers (head ∷ heads) [] = []
contents_without numbers (head ∷ heads) (content ∷ contents) =
    if is_among numbers head.number then contents_without numbers heads contents
    else content ∷ contents_without numbers heads contents

-- the ports without these profiles
abbrev pub unbound_each : List ℕ → Ports → Ports
unbound_each [] ports = ports
unbound_each (number ∷ numbers) ports = unbound_each numbers (unbound number ports)

-- these profiles are gone, with their contents and from their ports, and their deletions notified
abbrev pub without_profiles : List ℕ → Durable → Durable
without_profiles numbers durable = record {
  heads = record durable.heads {
    ports = unbound_each numbers durable.heads.ports;
    profiles = filter (λ head. not (is_among numbers head.number)) durable.heads.profiles;
    notes = noted_each Delete numbers durable.heads.profiles durable.heads.notes;
  };
  contents = contents_without numbers durable.heads.profiles durable.contents;
}

-- the profiles differ and are held
pub record MayGo (durable : Durable) (numbers : List ℕ) : Type 0 where
  pub differ : EachTwo (λ one other. one ≢ other) numbers
  pub held : AllByRecursion (λ number. IsHeld number durable.heads.profiles) numbers
