-- What a card may hold.
use Rattle.std.specs.Prelude.{ℕ, ◌≡◌, ◌≢◌, ◌<◌, ◌≤◌, List, length}
use Rattle.std.specs.List.{AllByRecursion}
use Rattle.file_rows.specs.Content.{IsValid}
use Rattle.notify_list.specs.Notes.{AreNumbered, NoteList}
use Rattle.plain_lists.specs.EachTwo.{EachTwo}
use Rattle.port_table.specs.Ports.{KeepsPortRule, StandsOn}
use Rattle.port_table.specs.declared.port_mode.PortMode.{PortMode}
use Rattle.port_table.specs.declared.port_mode.PortMode.TheVariants.{A1, A2, B}
use Rattle.port_table.specs.declared.ports.Ports.{Ports}
use Rattle.record_codec.specs.Heads.{IsHeld}
use Rattle.record_codec.specs.declared.durable.Durable.{Durable}
use Rattle.record_codec.specs.declared.durable.Heads.{Heads}
use Rattle.record_codec.specs.declared.profile.ProfileHead.{ProfileHead}

-- an address: 1 to 64 printable ASCII characters without the space
pub record IsAddress (address : List ℕ) : Type 0 where
  pub some : 1 ≤ length address
  pub few : length address ≤ 64
  pub each : AllByRecursion (λ character. (0x21 ≤ character) × (character ≤ 0x7E)) address

-- the lengths of a profile's names, and its targets
pub record IsHead (head : ProfileHead) : Type 0 where
  pub provider : length head.provider ≤ 32
  pub name : length head.name ≤ 64
  pub nickname : length head.nickname ≤ 64
  pub few : length head.targets ≤ 8
  pub addresses : AllByRecursion (λ target. IsAddress target.address) head.targets

-- the profiles of a card: each with a number of its own below the next one, and an ICCID of its own
pub record AreProfiles (next_number : ℕ) (profiles : List ProfileHead) : Type 0 where
  pub few : length profiles ≤ 16
  pub each : AllByRecursion IsHead profiles
  pub below : AllByRecursion (λ head. head.number < next_number) profiles
  pub numbers : EachTwo (λ one other. one.number ≢ other.number) profiles
  pub iccids : EachTwo (λ one other. one.iccid ≢ other.iccid) profiles

-- a card has 1 to 8 ports, and at least 2 where port 0 holds no profile
abbrev pub fewest_ports : PortMode → ℕ
fewest_ports A1 = 2
fewest_ports A2 = 2
fewest_ports B = 1

-- the ports of a card: of their number, under the port rule, and with profiles that are held
pub record ArePorts (profiles : List ProfileHead) (ports : Ports) : Type 0 where
  pub some : fewest_ports ports.mode ≤ ports.count
  pub few : ports.count ≤ 8
  pub rule : KeepsPortRule ports
  pub held : (profile port : ℕ) → StandsOn ports profile port → IsHeld profile profiles

-- the notifications of a card: at most 256, by number, with numbers from 1 to 4,294,967,295
pub record AreNotes (notes : NoteList) : Type 0 where
  pub few : length notes.list ≤ 256
  pub numbered : AreNumbered notes
  pub numbers : AllByRecursion (λ note. (1 ≤ note.number) × (note.number ≤ 4294967295)) notes.list
  pub addresses : AllByRecursion (λ note. IsAddress note.address) notes.list

-- what a card holds beside the contents
pub record AreHeads (heads : Heads) : Type 0 where
  pub profiles : AreProfiles heads.next_number heads.profiles
  pub ports : ArePorts heads.profiles heads.ports
  pub notes : AreNotes heads.notes

-- a content for each profile, and each one valid
pub record AreContents (durable : Durable) : Type 0 where
  pub pairs : length durable.contents ≡ length durable.heads.profiles
  pub valid : AllByRecursion IsValid durable.contents

pub record IsDurable (durable : Durable) : Type 0 where
  pub heads : AreHeads durable.heads
  pub contents : AreContents durable
