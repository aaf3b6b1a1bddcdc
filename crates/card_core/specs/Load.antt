-- The steps of a load, which installs a profile.
use Rattle.std.specs.Prelude.{ℕ, ◌≡◌, ◌+◌, ◌<◌, ◌^◌, Bool, true, false, List, length, [], ◌∷◌}
use Rattle.std.specs.Prelude.{◌++◌, MatchOption, Option, Some, None}
use Rattle.std.specs.Prelude.{Result, Ok, Err, option_map}
use Rattle.std.specs.Option.{ForSome}
use Rattle.file_rows.specs.declared.content.Content.{Content}
use Rattle.isdr_codec.specs.Metadata.{metadata_of}
use Rattle.isdr_codec.specs.declared.metadata.MetaFault.{MetaFault}
use Rattle.isdr_commands.specs.Installation.{install_refusal}
use Rattle.isdr_commands.specs.declared.install.LoadRefusal.{LoadRefusal}
use Rattle.profile_install.specs.Package.{Answers, PackageGives}
use Rattle.profile_install.specs.declared.work.BuildFault.{BuildFault}
use Rattle.profile_install.specs.declared.work.BuildFault.TheVariants.{OutOfMemory}
use Rattle.profile_install.specs.declared.work.Refusal.{Refusal}
use Rattle.record_codec.specs.Apply.{apply}
use Rattle.record_codec.specs.declared.durable.Durable.{Durable}
use Rattle.record_codec.specs.declared.profile.Profile.{Profile}
use Rattle.record_codec.specs.declared.profile.ProfileHead.{ProfileHead}
use Rattle.record_codec.specs.declared.record.Record.TheVariants.{PutProfile}
use Rattle.card_core.specs.LoadState.{LoadState}
use Rattle.card_core.specs.PortState.{counted}
use Rattle.card_core.specs.World.{Made, WorldState, count_if, entry_at, next_maker, port_in}
use Rattle.card_core.specs.World.{with_port}
use Rattle.card_core.specs.declared.entry.Loading.{Loading}
use Rattle.card_core.specs.declared.entry.Loading.TheVariants.{Begun, Done, Element, Memory}
use Rattle.card_core.specs.declared.entry.Loading.TheVariants.{Metadata, NotBegun, Refused, Taken}
use Rattle.card_core.specs.declared.entry.Line.TheVariants.{Loaded}

-- what a step comes to: the load that is then there, and what is told of the step
pub record LoadOutcome : Type 0 where
  pub load : Option LoadState
  pub outcome : Loading

abbrev pub load_step : WorldState → ℕ → LoadOutcome → Made
load_step state port step = record {
  state = with_port state port (record (counted (port_in state port)) { load = step.load });
  entries = entry_at state port (Loaded (next_maker state port).number step.outcome) ∷ [];
}

-- a load of a profile with this head, of whose package no byte came
abbrev pub fresh_load : ProfileHead → LoadState
fresh_load head = record { head = head; received = Some [] }

-- it begins: refused metadata leave the load that is there
abbrev pub load_begun : Option LoadState → Result ProfileHead MetaFault → LoadOutcome
load_begun load (Err fault) = record { load = load; outcome = Metadata }
load_begun load (Ok head) = record { load = Some (fresh_load head); outcome = Begun }

abbrev pub begin_made : WorldState → ℕ → List ℕ → Made
begin_made state port metadata =
    load_step state port (load_begun (port_in state port).load (metadata_of metadata))

-- the load with the next bytes of its package; a spoiled one stays spoiled
abbrev pub with_piece : LoadState → List ℕ → LoadState
with_piece load piece =
    record load { received = option_map (λ bytes. bytes ++ piece) load.received }

-- a package has fewer than 4,294,967,296 bytes, also with this piece
abbrev pub HasRoomForPiece : Option LoadState → List ℕ → Type 0
HasRoomForPiece load piece = ForSome load
    (λ its. ForSome its.received (λ bytes. length bytes + length piece < 2 ^ 32))

-- a load for whose bytes memory was wanting takes none any more
abbrev pub piece_outcome : Option (List ℕ) → Loading
piece_outcome None = Memory
piece_outcome (Some bytes) = Taken

abbrev pub piece_taken : Option LoadState → List ℕ → LoadOutcome
piece_taken None piece = record { load = None; outcome = NotBegun }
piece_taken (Some load) piece = record {
  load = Some (with_piece load piece);
  outcome = piece_outcome load.received;
}

abbrev pub piece_made : WorldState → ℕ → List ℕ → Made
piece_made state port piece =
    load_step state port (piece_taken (port_in state port).load piece)

-- what the end of a load comes to: what the card then keeps, whether that is by a record, and what
-- is told
pub record LoadEnd : Type 0 where
  pub durable : Durable
  pub recorded : Bool
  pub outcome : Loading

-- nothing is installed
abbrev pub ends_with : Durable → Loading → LoadEnd
ends_with durable outcome =
    record { durable = durable; recorded = false; outcome = outcome }

-- the profile that is installed, under the next number
abbrev pub installed : Durable → ProfileHead → Content → Profile
installed durable head content = record {
  head = record head { number = durable.heads.next_number };
  content = content;
}

-- where nothing refuses it the profile is held from then on, by the record of this number
abbrev pub installing : Durable → ℕ → ProfileHead → Content → Option LoadRefusal → LoadEnd
installing durable commit head content (Some refusal) = ends_with durable (Refused refusal)
installing durable commit head content None = record {
  durable = apply durable (PutProfile true (installed durable head content) None);
  recorded = true;
  outcome = Done durable.heads.next_number commit;
}

-- a faulty element refuses it first
abbrev pub load_built : Durable → ℕ → ProfileHead → Result Content Refusal → LoadEnd
load_built durable commit head (Err refusal) =
    ends_with durable (Element refusal.place refusal.result)
load_built durable commit head (Ok content) =
    installing durable commit head content (install_refusal durable.heads head)

-- what a builder answers of the package of a load; of a spoiled one it answers out of memory
abbrev pub AnswersLoad : LoadState → Result Content BuildFault → Type 0
AnswersLoad load result = MatchOption load.received (result ≡ Err OutOfMemory)
    (λ bytes. Answers load.head.iccid bytes result)

abbrev pub EndsBytes : Durable → ℕ → LoadState → Option (List ℕ) → LoadEnd → Type 0
EndsBytes durable commit load None end = end ≡ ends_with durable Memory
EndsBytes durable commit load (Some bytes) end =
    (answer : Result Content Refusal) × PackageGives load.head.iccid bytes answer
    × (end ≡ load_built durable commit load.head answer)

-- it ends: where one was begun, as the package that came says
abbrev pub EndsLoad : Durable → ℕ → Option LoadState → LoadEnd → Type 0
EndsLoad durable commit None end = end ≡ ends_with durable NotBegun
EndsLoad durable commit (Some load) end = EndsBytes durable commit load load.received end

-- the end of a load is a shared statement, and the load is gone
abbrev pub end_made : WorldState → ℕ → LoadEnd → Made
end_made state port end =
    let told = load_step state port (record { load = None; outcome = end.outcome }) in
    record told {
      state = record told.state {
        durable = end.durable;
        shared = state.shared + 1;
        commits = state.commits + count_if end.recorded;
      };
    }

abbrev pub MakesEnd : WorldState → ℕ → Made → Type 0
MakesEnd state port made =
    (end : LoadEnd) × EndsLoad state.durable (state.commits + 1) (port_in state port).load end
    × (made ≡ end_made state port end)
