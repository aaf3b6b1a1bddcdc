-- GSMA SGP.22, ES10c.eUICCMemoryReset.
use Rattle.std.specs.Prelude.{ℕ, Bool, true, ◌+◌, ◌==◌, ◌&&◌, ◌||◌, if◌then◌else◌, List, [], ◌∷◌}
use Rattle.std.specs.Prelude.{length, map, filter, Option, Some, None}
use Rattle.std.specs.List.{list_any}
use Rattle.isdr_commands.specs.Ascending.{ascending}
use Rattle.isdr_commands.specs.Decision.{accepted, refused_with}
use Rattle.isdr_commands.specs.Profiles.{is_busy, lacks_room}
use Rattle.isdr_commands.specs.declared.decision.Decision.{Decision}
use Rattle.isdr_commands.specs.declared.moves.Move.{Move}
use Rattle.notify_list.specs.declared.note.Operation.TheVariants.{Delete}
use Rattle.record_codec.specs.Gone.{is_among}
use Rattle.record_codec.specs.Noted.{count_of_each}
use Rattle.record_codec.specs.declared.durable.Heads.{Heads}
use Rattle.record_codec.specs.declared.profile.ProfileHead.{ProfileHead}
use Rattle.record_codec.specs.declared.record.Record.TheVariants.{Gone}

-- a profile of class 2 where the operational ones are asked for, of class 0 where the test ones are
abbrev pub is_reset : Bool → Bool → ProfileHead → Bool
is_reset operational test head =
    (operational && (head.class == 2)) || (test && (head.class == 0))

abbrev pub numbers_reset : Bool → Bool → List ProfileHead → List ℕ
numbers_reset operational test profiles =
    map (λ head. head.number) (filter (is_reset operational test) profiles)

-- the profile at a place, where it is one of these
abbrev pub number_leaving : List ℕ → Option ℕ → Option ℕ
number_leaving numbers None = None
number_leaving numbers (Some profile) = if is_among numbers profile then Some profile else None

-- a port whose profile leaves, announcing a REFRESH, before the other moves
abbrev pub freed_before : ℕ → Option ℕ → List Move → List Move
freed_before port None moves = moves
freed_before port (Some profile) moves =
    record { port = port; leaves = Some profile; comes = None; refresh = true } ∷ moves

-- the ports from this one on that these profiles leave
abbrev pub freed_from : ℕ → List ℕ → List (Option ℕ) → List Move
freed_from port numbers [] = []
freed_from port numbers (place ∷ places) =
    freed_before port (number_leaving numbers place) (freed_from (port + 1) numbers places)

-- 1 there is none of them, 5 the REFRESH of one of their ports isn't over, 127 no room for the
-- notifications; else they all go, enabled ones and those with policy rules included
abbrev pub resetting : Heads → List Bool → List ℕ → List Move → Decision
resetting heads busy numbers moves =
    if length numbers == 0 then refused_with 0xBF34 1
    else (if list_any (λ move. is_busy busy move.port) moves then refused_with 0xBF34 5
    else (if lacks_room heads.notes (count_of_each Delete numbers heads.profiles)
    then refused_with 0xBF34 127
    else accepted 0xBF34 (Gone numbers) moves))

-- the profiles go by number
abbrev pub resetting_all : Heads → List Bool → List ℕ → Decision
resetting_all heads busy numbers =
    resetting heads busy numbers (freed_from 0 numbers heads.ports.on)

abbrev pub memory_reset : Heads → List Bool → Bool → Bool → Decision
memory_reset heads busy operational test =
    resetting_all heads busy (ascending (numbers_reset operational test heads.profiles))
