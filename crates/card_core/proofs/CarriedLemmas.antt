-- The ports that move with a command for the ISD-R are those whose profile changes, and its record
-- changes no content.
use Rattle.std.proofs.Common.{◌≡◌, ◌<◌, ◌≤◌, ◌+◌, ℕ, Bool, true, false, cond, nat_eq, List, []}
use Rattle.std.proofs.Common.{◌∷◌, arith, length, Option, Some, None, Result, Ok, Err, refl, subst}
use Rattle.std.proofs.Common.{sym}
use Rattle.std.specs.List.{AllByRecursion, list_any}
use Rattle.std.specs.Prelude.{IfSome, is_some, ⊤}
use Rattle.apdu_codec.specs.Command.{Apdu}
use Rattle.isdr_codec.specs.declared.request.Request.{Request}
use Rattle.isdr_codec.specs.declared.request.Request.TheVariants as requests
use Rattle.isdr_codec.specs.declared.request.Who.TheVariants.{Iccid}
use Rattle.isdr_commands.proofs.ManagedLemmas.{managed_carries}
use Rattle.isdr_commands.proofs.RefusedLemmas.{managed_quiet}
use Rattle.isdr_commands.specs.Ascending.{ascending}
use Rattle.isdr_commands.specs.Decision.{accepted, at_profile, refused_with}
use Rattle.isdr_commands.specs.DeleteProfile.{deleting_head}
use Rattle.isdr_commands.specs.DisableProfile.{disabling_head, disabling_on}
use Rattle.isdr_commands.specs.EnableProfile.{enabling_head, enabling_on}
use Rattle.isdr_commands.specs.Laws.{AreMoves, HasShortNickname}
use Rattle.isdr_commands.specs.MemoryReset.{freed_before, freed_from, number_leaving, numbers_reset}
use Rattle.isdr_commands.specs.Profiles.{head_on, is_busy, is_kept, keeps_enabled, keeps_held}
use Rattle.isdr_commands.specs.Profiles.{lacks_room, profile_named}
use Rattle.isdr_commands.specs.Request.{managed}
use Rattle.isdr_commands.specs.SetNickname.{naming_head}
use Rattle.isdr_commands.specs.declared.decision.Decision.{Decision}
use Rattle.isdr_commands.specs.declared.moves.Move.{Move}
use Rattle.notify_list.specs.declared.note.Operation.TheVariants.{Delete, Disable, Enable}
use Rattle.plain_lists.specs.EachTwo.{EachTwo}
use Rattle.port_table.specs.PortOf.{port_of}
use Rattle.port_table.specs.Target.{target_port}
use Rattle.port_table.specs.declared.ports.Ports.{Ports}
use Rattle.port_table.specs.declared.target.TargetFault.{TargetFault}
use Rattle.record_codec.specs.FitsCard.{FitsCard}
use Rattle.record_codec.specs.IsDurable.{IsDurable}
use Rattle.record_codec.specs.Noted.{count_of, count_of_each, count_where}
use Rattle.record_codec.specs.declared.durable.Durable.{Durable}
use Rattle.record_codec.specs.declared.durable.Heads.{Heads}
use Rattle.record_codec.specs.declared.profile.ProfileHead.{ProfileHead}
use Rattle.record_codec.specs.declared.record.Record.{Record}
use Rattle.record_codec.specs.declared.record.Record.TheVariants as records
use Rattle.card_core.proofs.RankLemmas.{each_weaker}
use Rattle.card_core.proofs.OutcomeLemmas.{desk_outcome-has}
use Rattle.card_core.specs.Desk.{desk_outcome}
use Rattle.card_core.specs.Recorded.{recorded}
use Rattle.card_core.specs.declared.desk.Desk.{Desk}

-- a record of a request: it puts nothing and changes no content
abbrev pub IsOfRequest : Record → Type 0
IsOfRequest (records.PutCard mode ports eid next_number next_note notes) = ⊥
IsOfRequest (records.PutProfile installation profile port) = ⊥
IsOfRequest (records.Content profile change) = ⊥
IsOfRequest (records.Bind profile port displaced) = ⊤
IsOfRequest (records.Unbind profile) = ⊤
IsOfRequest (records.Gone profiles) = ⊤
IsOfRequest (records.Name profile nickname) = ⊤
IsOfRequest (records.NoteGone number) = ⊤

-- the ports that move, from the lowest on
abbrev pub MoveInOrder : List Move → Type 0
MoveInOrder moves = EachTwo (λ one other. one.port < other.port) moves

abbrev Fine : Decision → Type 0
Fine decision = IfSome decision.entry IsOfRequest × MoveInOrder decision.moves

unless : (tag result : ℕ) (goes : Decision) (test : Bool) → Fine goes
    → Fine (cond test (refused_with tag result) goes)
unless tag result goes true fine = (tt, tt)
unless tag result goes false fine = fine

at_found : (tag : ℕ) (goes : ProfileHead → Decision) (found : Option ProfileHead)
    → ((head : ProfileHead) → Fine (goes head)) → Fine (at_profile tag found goes)
at_found tag goes None fine = (tt, tt)
at_found tag goes (Some head) fine = fine head

-- the ports that profiles leave
freed_behind : (numbers : List ℕ) (first : ℕ) (places : List (Option ℕ))
    → AllByRecursion (λ move. first ≤ move.port) (freed_from first numbers places)
freed_behind numbers first [] = tt
freed_behind numbers first (place ∷ places) =
    by (number_leaving numbers place) (freed_from (first + 1) numbers places)
    (each_weaker (λ move. first + 1 ≤ move.port) (λ move. first ≤ move.port)
    (λ move more. omega (arith, more)) (freed_from (first + 1) numbers places)
    (freed_behind numbers (first + 1) places))
  where
    by : (left : Option ℕ) (moves : List Move) → AllByRecursion (λ move. first ≤ move.port) moves
        → AllByRecursion (λ move. first ≤ move.port) (freed_before first left moves)
    by None moves each = each
    by (Some profile) moves each = (omega arith, each)

freed_in_order : (numbers : List ℕ) (first : ℕ) (places : List (Option ℕ))
    → MoveInOrder (freed_from first numbers places)
freed_in_order numbers first [] = tt
freed_in_order numbers first (place ∷ places) =
    by (number_leaving numbers place) (freed_from (first + 1) numbers places)
    (each_weaker (λ move. first + 1 ≤ move.port) (λ move. first < move.port)
    (λ move more. omega (arith, more)) (freed_from (first + 1) numbers places)
    (freed_behind numbers (first + 1) places))
    (freed_in_order numbers (first + 1) places)
  where
    by : (left : Option ℕ) (moves : List Move) → AllByRecursion (λ move. first < move.port) moves
        → MoveInOrder moves → MoveInOrder (freed_before first left moves)
    by None moves each order = order
    by (Some profile) moves each order = (each, order)

module _ (heads : Heads) (busy : List Bool) where
  enabling : (refresh : Bool) (head : ProfileHead) (target : Result ℕ TargetFault)
      → Fine (enabling_on heads busy refresh head target)
  enabling refresh head (Err fault) = (tt, tt)
  enabling refresh head (Ok port) =
      let more : ℕ = count_where Disable (head_on port heads) + count_of Enable head in
      unless 0xBF31 3 _ (is_kept (head_on port heads))
      (unless 0xBF31 5 _ (is_busy busy port)
      (unless 0xBF31 127 _ (lacks_room heads.notes more) (tt, (tt, tt))))

  disabling : (refresh : Bool) (head : ProfileHead) (place : Option ℕ)
      → Fine (disabling_on heads busy refresh head place)
  disabling refresh head None = (tt, tt)
  disabling refresh head (Some port) =
      unless 0xBF32 3 _ (keeps_enabled head)
      (unless 0xBF32 5 _ (is_busy busy port)
      (unless 0xBF32 127 _ (lacks_room heads.notes (count_of Disable head)) (tt, (tt, tt))))

  sent : (number : ℕ) (pending : Bool)
      → Fine (cond pending (accepted 0xBF30 (records.NoteGone number) []) (refused_with 0xBF30 1))
  sent number true = (tt, tt)
  sent number false = (tt, tt)

  resetting : (numbers : List ℕ) (moves : List Move) (busy_one : Bool) → MoveInOrder moves
      → Fine (
      cond (nat_eq (length numbers) 0) (refused_with 0xBF34 1)
      (cond busy_one (refused_with 0xBF34 5)
      (cond (lacks_room heads.notes (count_of_each Delete numbers heads.profiles))
      (refused_with 0xBF34 127) (accepted 0xBF34 (records.Gone numbers) moves))))
  resetting numbers moves busy_one order =
      let more : ℕ = count_of_each Delete numbers heads.profiles in
      unless 0xBF34 1 _ (nat_eq (length numbers) 0)
      (unless 0xBF34 5 _ busy_one
      (unless 0xBF34 127 _ (lacks_room heads.notes more) (tt, order)))

  kind_of : (came : ℕ) (request : Request) → Fine (managed heads busy came request)
  kind_of came (requests.Info search fields) = (tt, tt)
  kind_of came (requests.Nickname iccid name) =
      at_found 0xBF29 (naming_head name) (profile_named (Iccid iccid) heads.profiles)
      (λ head. (tt, tt))
  kind_of came (requests.Enable who refresh given) =
      at_found 0xBF31 (enabling_head heads busy came refresh given)
      (profile_named who heads.profiles) (λ head.
      unless 0xBF31 2 _ (is_some (port_of head.number heads.ports.on))
      (enabling refresh head (target_port heads.ports came given)))
  kind_of came (requests.Disable who refresh) =
      at_found 0xBF32 (disabling_head heads busy refresh) (profile_named who heads.profiles)
      (λ head. disabling refresh head (port_of head.number heads.ports.on))
  kind_of came (requests.Delete who) =
      at_found 0xBF33 (deleting_head heads) (profile_named who heads.profiles) (λ head.
      unless 0xBF33 2 _ (is_some (port_of head.number heads.ports.on))
      (unless 0xBF33 3 _ (keeps_held head)
      (unless 0xBF33 127 _ (lacks_room heads.notes (count_of Delete head)) (tt, tt))))
  kind_of came (requests.MemoryReset operational test) =
      let numbers : List ℕ = ascending (numbers_reset operational test heads.profiles) in
      let moves : List Move = freed_from 0 numbers heads.ports.on in
      resetting numbers moves (list_any (λ move. is_busy busy move.port) moves)
      (freed_in_order numbers 0 heads.ports.on)
  kind_of came requests.Eid = (tt, tt)
  kind_of came (requests.NoteList operations) = (tt, tt)
  kind_of came (requests.NoteSent number) =
      sent number (list_any (λ note. nat_eq note.number number) heads.notes.list)

-- just the ports that move have changed, and the record is one of a request, which fits the card;
-- the moves are told from the lowest port on
pub record IsCarried (durable : Durable) (entry : Option Record) (moving : List Move)
    : Type 0 where
  pub moves : AreMoves durable.heads.ports (recorded durable entry).heads.ports moving
  pub kind : IfSome entry IsOfRequest
  pub fits : IfSome entry (FitsCard durable)
  pub order : MoveInOrder moving

quiet : (ports : Ports) → AreMoves ports ports []
quiet ports = record { each = tt; once = tt; others = λ port unmoved. refl }

nothing : (durable : Durable) → IsCarried durable None []
nothing durable =
    record { moves = quiet durable.heads.ports; kind = tt; fits = tt; order = tt }

module _ (durable : Durable) (are : IsDurable durable) (busy : List Bool) (port : ℕ)
    (below : port < durable.heads.ports.count) where
  request_carried : (request : Request) → HasShortNickname request
      → IsCarried durable (managed durable.heads busy port request).entry
      (managed durable.heads busy port request).moves
  request_carried request short = by (managed durable.heads busy port request).entry refl
    where
      by : (entry : Option Record) → (managed durable.heads busy port request).entry ≡ entry
          → IsCarried durable (managed durable.heads busy port request).entry
          (managed durable.heads busy port request).moves
      by None is = record {
        moves = subst (λ (its : Option Record). AreMoves durable.heads.ports
            (recorded durable its).heads.ports (managed durable.heads busy port request).moves)
            (sym is)
            (subst (λ (its : List Move). AreMoves durable.heads.ports durable.heads.ports its)
            (sym (managed_quiet durable.heads busy port request is)) (quiet durable.heads.ports));
        kind = (kind_of durable.heads busy port request).0;
        order = (kind_of durable.heads busy port request).1;
        fits = subst (λ (its : Option Record). IfSome its (FitsCard durable)) (sym is) tt;
      }
      by (Some entry) is = record {
        moves = subst (λ (its : Option Record). AreMoves durable.heads.ports
            (recorded durable its).heads.ports (managed durable.heads busy port request).moves)
            (sym is)
            (managed_carries durable are busy entry port request
            (record { card = are; below = below; nickname = short }) is).moves;
        kind = (kind_of durable.heads busy port request).0;
        order = (kind_of durable.heads busy port request).1;
        fits = subst (λ (its : Option Record). IfSome its (FitsCard durable)) (sym is)
            (managed_carries durable are busy entry port request
            (record { card = are; below = below; nickname = short }) is).fits;
      }

  pub desk_carried : (desk : Desk) (c : Apdu) → let outcome = desk_outcome desk durable.heads busy
      port c in IsCarried durable outcome.entry outcome.moves
  desk_carried desk c =
      desk_outcome-has (λ outcome. IsCarried durable outcome.entry outcome.moves) desk
      durable.heads busy port c (λ sw. nothing durable) (λ sw. nothing durable)
      (λ block. nothing durable) request_carried (nothing durable)
