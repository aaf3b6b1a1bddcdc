-- What the record of any accepted request does.
use Rattle.std.proofs.Common.{◌≡◌, ◌≢◌, ◌≤◌, ◌+◌, ℕ, Bool, true, false, cond, nat_eq, List, []}
use Rattle.std.proofs.Common.{length, Option, Some, None, refl, ap, subst, arith}
use Rattle.std.specs.List.{AllByRecursion, list_any}
use Rattle.std.specs.Prelude.{slice_get}
use Rattle.isdr_codec.specs.declared.request.Request.{Request}
use Rattle.isdr_codec.specs.declared.request.Request.TheVariants as requests
use Rattle.isdr_codec.specs.declared.request.Who.TheVariants.{Iccid}
use Rattle.isdr_commands.proofs.CarryLemmas.{carried, deleting_carries, disabling_carries}
use Rattle.isdr_commands.proofs.CarryLemmas.{enabling_carries}
use Rattle.isdr_commands.proofs.FoundLemmas.{found_held}
use Rattle.isdr_commands.proofs.PassLemmas.{has_room, past, past_profile}
use Rattle.isdr_commands.proofs.ResetLemmas.{free_stays, moves_each, moves_once, none_stays}
use Rattle.isdr_commands.proofs.ResetLemmas.{one_leaves, other_stays, others_stay, reset_differ}
use Rattle.isdr_commands.proofs.ResetLemmas.{reset_held, staying_is}
use Rattle.isdr_commands.specs.Ascending.{ascending}
use Rattle.isdr_commands.specs.Decision.{accepted, refused_with}
use Rattle.isdr_commands.specs.Laws.{AreMoves, IsAsked, IsCarriedOut}
use Rattle.isdr_commands.specs.Profiles.{is_busy, is_identified, lacks_room, profile_named}
use Rattle.isdr_commands.specs.MemoryReset.{freed_from, number_leaving, memory_reset, numbers_reset}
use Rattle.isdr_commands.specs.Request.{managed}
use Rattle.isdr_commands.specs.SetNickname.{naming, naming_head}
use Rattle.isdr_commands.specs.declared.decision.Decision.{Decision}
use Rattle.isdr_commands.specs.declared.moves.Move.{Move}
use Rattle.notify_list.specs.declared.note.Operation.TheVariants.{Delete}
use Rattle.port_table.specs.declared.ports.Ports.{Ports}
use Rattle.record_codec.proofs.FitLemmas.{fits_where}
use Rattle.record_codec.specs.Gone.{unbound_each}
use Rattle.record_codec.specs.IsDurable.{IsDurable}
use Rattle.record_codec.specs.Noted.{count_of_each}
use Rattle.record_codec.specs.declared.durable.Durable.{Durable}
use Rattle.record_codec.specs.declared.record.Record.{Record}
use Rattle.record_codec.specs.declared.record.Record.TheVariants as records

-- a port that no move names
module _ (numbers : List ℕ) (ports : Ports) (port : ℕ) where
  stays_at : (place : Option (Option ℕ)) → slice_get ports.on port ≡ place
      → ((here : Option ℕ) → place ≡ Some here → number_leaving numbers here ≡ None)
      → slice_get (unbound_each numbers ports).on port ≡ place
  stays_at None e stays = none_stays numbers ports port e
  stays_at (Some None) e stays = free_stays numbers ports port e
  stays_at (Some (Some profile)) e stays =
      other_stays profile numbers ports port
      (staying_is numbers profile (stays (Some profile) refl)) e

  pub stays : AllByRecursion (λ move. move.port ≢ port) (freed_from 0 numbers ports.on)
      → slice_get (unbound_each numbers ports).on port ≡ slice_get ports.on port
  stays unmoved =
      let on : port ≡ 0 + port = omega arith in
      stays_at (slice_get ports.on port) refl (λ here at.
      others_stay numbers 0 port ports.on here
      (subst (λ (n : ℕ). AllByRecursion (λ move. move.port ≢ n) (freed_from 0 numbers ports.on)) on
      unmoved) at)

pub moves_are : (numbers : List ℕ) (ports : Ports) → AreMoves ports (unbound_each numbers ports)
    (freed_from 0 numbers ports.on)
moves_are numbers ports = record {
  each = moves_each numbers ports (unbound_each numbers ports)
      (λ port profile on among. one_leaves profile numbers ports port among on) 0 ports.on
      (λ k. let on : k ≡ 0 + k = omega arith in ap (slice_get ports.on) on);
  once = moves_once numbers 0 ports.on;
  others = λ port unmoved. stays numbers ports port unmoved;
}

module _ (durable : Durable) (are : IsDurable durable) (busy : List Bool) (entry : Record) where
  abbrev Carries : Decision → Type 0
  Carries = IsCarriedOut durable entry

  resetting_carries : (operational test : Bool)
      → (memory_reset durable.heads busy operational test).entry ≡ Some entry
      → Carries (memory_reset durable.heads busy operational test)
  resetting_carries operational test =
      let numbers : List ℕ = ascending (numbers_reset operational test durable.heads.profiles) in
      let moves : List Move = freed_from 0 numbers durable.heads.ports.on in
      past Carries entry 0xBF34 1 _ (nat_eq (length numbers) 0) (λ some.
      past Carries entry 0xBF34 5 _ (list_any (λ move. is_busy busy move.port) moves) (λ quiet.
      past Carries entry 0xBF34 127 _
      (lacks_room durable.heads.notes (count_of_each Delete numbers durable.heads.profiles))
      (λ room.
      carried durable 0xBF34 (records.Gone numbers) moves entry (record {
        fits = (fits_where durable (records.Gone numbers) are).1 (record {
          heads = record {
            differ = reset_differ operational test durable.heads.profiles
                are.heads.profiles.numbers;
            held = reset_held operational test durable.heads.profiles;
            room = has_room durable.heads.notes
                (count_of_each Delete numbers durable.heads.profiles) room;
          };
          content = tt;
        });
        moves = moves_are numbers durable.heads.ports;
      }))))

  naming_carries : (iccid name : List ℕ) → length name ≤ 64
      → (naming durable.heads iccid name).entry ≡ Some entry
      → Carries (naming durable.heads iccid name)
  naming_carries iccid name few =
      past_profile Carries entry 0xBF29 (naming_head name)
      (profile_named (Iccid iccid) durable.heads.profiles) (λ head found.
      carried durable 0xBF29 (records.Name head.number name) [] entry (record {
        fits = (fits_where durable (records.Name head.number name) are).1 (record {
          heads = (found_held (is_identified (Iccid iccid)) head durable.heads.profiles found, few);
          content = tt;
        });
        moves = record { each = tt; once = tt; others = λ port unmoved. refl };
      }))

  sent_carries : (number : ℕ) (pending : Bool)
      → (cond pending (accepted 0xBF30 (records.NoteGone number) []) (refused_with 0xBF30 1)).entry
      ≡ Some entry
      → Carries (cond pending (accepted 0xBF30 (records.NoteGone number) [])
      (refused_with 0xBF30 1))
  sent_carries number false e = absurd cc
  sent_carries number true e =
      carried durable 0xBF30 (records.NoteGone number) [] entry (record {
        fits = (fits_where durable (records.NoteGone number) are).1
            (record { heads = tt; content = tt });
        moves = record { each = tt; once = tt; others = λ port unmoved. refl };
      }) e

  pub managed_carries : (came : ℕ) (request : Request) → IsAsked durable came request
      → (managed durable.heads busy came request).entry ≡ Some entry
      → Carries (managed durable.heads busy came request)
  managed_carries came (requests.Info search fields) asked e = absurd cc
  managed_carries came (requests.Nickname iccid name) asked e =
      naming_carries iccid name asked.nickname e
  managed_carries came (requests.Enable who refresh given) asked e =
      enabling_carries durable are busy entry came who refresh given asked.below e
  managed_carries came (requests.Disable who refresh) asked e =
      disabling_carries durable are busy entry who refresh e
  managed_carries came (requests.Delete who) asked e = deleting_carries durable are busy entry who e
  managed_carries came (requests.MemoryReset operational test) asked e =
      resetting_carries operational test e
  managed_carries came requests.Eid asked e = absurd cc
  managed_carries came (requests.NoteList operations) asked e = absurd cc
  managed_carries came (requests.NoteSent number) asked e =
      sent_carries number (list_any (λ note. nat_eq note.number number) durable.heads.notes.list) e
