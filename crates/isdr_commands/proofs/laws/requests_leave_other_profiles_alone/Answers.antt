use Rattle.isdr_commands.proofs.AloneLemmas.{managed_passes}
use Rattle.isdr_commands.proofs.ManagedLemmas.{managed_carries}
use Rattle.record_codec.proofs.LocalLemmas.{contents_stay}
use Rattle.record_codec.proofs.StayLemmas.{heads_stay, ports_stay}
use Rattle.isdr_commands.proofs.laws.requests_leave_other_profiles_alone.Goals as goal

pub returns : goal.returns
returns c = λ durable busy came number request entry asked unnamed undisplaced e.
    let passes = managed_passes durable.heads asked.card.heads.profiles.numbers busy number entry
    came request unnamed e undisplaced in
    let fits = (managed_carries durable asked.card busy entry came request asked e).fits in
    record {
      content = contents_stay durable entry number asked.card.contents.pairs passes.content;
      head = heads_stay durable entry number passes.head;
      port = λ port. ports_stay durable entry number port fits passes.port;
    }
