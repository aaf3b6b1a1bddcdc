-- What holds of each reply alone and of each acceptance holds of each decision.
use Rattle.std.proofs.Common.{◌+◌, ℕ, Bool, true, false, cond, nat_eq, List, [], length}
use Rattle.std.proofs.Common.{Option, Some, None, Result, Ok, Err, rules}
use Rattle.std.specs.List.{list_any}
use Rattle.std.specs.Prelude.{is_some}
use Rattle.isdr_codec.specs.Reply.{HasItsTag}
use Rattle.isdr_codec.specs.declared.reply.Reply.{Reply}
use Rattle.isdr_codec.specs.declared.reply.Reply.TheVariants as replies
use Rattle.isdr_codec.specs.declared.request.Request.{Request}
use Rattle.isdr_codec.specs.declared.request.Request.TheVariants as requests
use Rattle.isdr_codec.specs.declared.request.Who.TheVariants.{Iccid}
use Rattle.isdr_commands.specs.Ascending.{ascending}
use Rattle.isdr_commands.specs.Decision.{accepted, at_profile, refused_with, told}
use Rattle.isdr_commands.specs.DeleteProfile.{deleting_head}
use Rattle.isdr_commands.specs.DisableProfile.{disabling_head, disabling_on}
use Rattle.isdr_commands.specs.EnableProfile.{enabling_head, enabling_on}
use Rattle.isdr_commands.specs.MemoryReset.{freed_from, numbers_reset}
use Rattle.isdr_commands.specs.Profiles.{head_on, is_busy, is_kept, keeps_enabled, keeps_held}
use Rattle.isdr_commands.specs.Profiles.{lacks_room, profile_named}
use Rattle.isdr_commands.specs.Request.{managed}
use Rattle.isdr_commands.specs.SetNickname.{naming_head}
use Rattle.isdr_commands.specs.declared.decision.Decision.{Decision}
use Rattle.isdr_commands.specs.declared.moves.Move.{Move}
use Rattle.notify_list.specs.declared.note.Operation.TheVariants.{Delete, Disable, Enable}
use Rattle.port_table.specs.PortOf.{port_of}
use Rattle.port_table.specs.Target.{fault_number, target_port}
use Rattle.port_table.specs.declared.target.TargetFault.{TargetFault}
use Rattle.record_codec.specs.Noted.{count_of, count_of_each, count_where}
use Rattle.record_codec.specs.declared.durable.Heads.{Heads}
use Rattle.record_codec.specs.declared.profile.ProfileHead.{ProfileHead}
use Rattle.record_codec.specs.declared.record.Record.{Record}
use Rattle.record_codec.specs.declared.record.Record.TheVariants.{Gone, NoteGone}

-- a tag under which a result may stand
abbrev IsTag : ℕ → Type 0
IsTag tag = HasItsTag (replies.Outcome tag 0)

-- the requests that have a result
tag_nickname : IsTag 0xBF29
tag_nickname = search rules

tag_enable : IsTag 0xBF31
tag_enable = search rules

tag_disable : IsTag 0xBF32
tag_disable = search rules

tag_delete : IsTag 0xBF33
tag_delete = search rules

tag_reset : IsTag 0xBF34
tag_reset = search rules

tag_sent : IsTag 0xBF30
tag_sent = search rules

module _ (Fine : Decision → Type 0)
    (alone : (reply : Reply) → HasItsTag reply → Fine (told reply))
    (carried : (tag : ℕ) (entry : Record) (moves : List Move) → IsTag tag
    → Fine (accepted tag entry moves)) where
  refused : (tag result : ℕ) → IsTag tag → Fine (refused_with tag result)
  refused tag result is = alone (replies.Outcome tag result) is

  unless : (tag result : ℕ) (goes : Decision) (test : Bool) → IsTag tag → Fine goes
      → Fine (cond test (refused_with tag result) goes)
  unless tag result goes true is fine = refused tag result is
  unless tag result goes false is fine = fine

  at_found : (tag : ℕ) (goes : ProfileHead → Decision) (found : Option ProfileHead) → IsTag tag
      → ((head : ProfileHead) → Fine (goes head)) → Fine (at_profile tag found goes)
  at_found tag goes None is fine = refused tag 1 is
  at_found tag goes (Some head) is fine = fine head

  module _ (heads : Heads) (busy : List Bool) where
    enabling : (refresh : Bool) (head : ProfileHead) (target : Result ℕ TargetFault)
        → Fine (enabling_on heads busy refresh head target)
    enabling refresh head (Err fault) = refused 0xBF31 (fault_number fault) tag_enable
    enabling refresh head (Ok port) =
        let more : ℕ = count_where Disable (head_on port heads) + count_of Enable head in
        unless 0xBF31 3 _ (is_kept (head_on port heads)) tag_enable
        (unless 0xBF31 5 _ (is_busy busy port) tag_enable
        (unless 0xBF31 127 _ (lacks_room heads.notes more) tag_enable
        (carried 0xBF31 _ _ tag_enable)))

    disabling : (refresh : Bool) (head : ProfileHead) (place : Option ℕ)
        → Fine (disabling_on heads busy refresh head place)
    disabling refresh head None = refused 0xBF32 2 tag_disable
    disabling refresh head (Some port) =
        unless 0xBF32 3 _ (keeps_enabled head) tag_disable
        (unless 0xBF32 5 _ (is_busy busy port) tag_disable
        (unless 0xBF32 127 _ (lacks_room heads.notes (count_of Disable head)) tag_disable
        (carried 0xBF32 _ _ tag_disable)))

    sent : (number : ℕ) (pending : Bool)
        → Fine (cond pending (accepted 0xBF30 (NoteGone number) []) (refused_with 0xBF30 1))
    sent number true = carried 0xBF30 (NoteGone number) [] tag_sent
    sent number false = refused 0xBF30 1 tag_sent

    resetting : (numbers : List ℕ) (moves : List Move) (busy_one : Bool) → Fine (
        cond (nat_eq (length numbers) 0) (refused_with 0xBF34 1)
        (cond busy_one (refused_with 0xBF34 5)
        (cond (lacks_room heads.notes (count_of_each Delete numbers heads.profiles))
        (refused_with 0xBF34 127) (accepted 0xBF34 (Gone numbers) moves))))
    resetting numbers moves busy_one =
        let more : ℕ = count_of_each Delete numbers heads.profiles in
        unless 0xBF34 1 _ (nat_eq (length numbers) 0) tag_reset
        (unless 0xBF34 5 _ busy_one tag_reset
        (unless 0xBF34 127 _ (lacks_room heads.notes more) tag_reset
        (carried 0xBF34 _ _ tag_reset)))

    pub each : (came : ℕ) (request : Request) → Fine (managed heads busy came request)
    each came (requests.Info search fields) = alone (replies.Infos _ fields) tt
    each came (requests.Nickname iccid name) =
        at_found 0xBF29 (naming_head name) (profile_named (Iccid iccid) heads.profiles) tag_nickname
        (λ head. carried 0xBF29 _ [] tag_nickname)
    each came (requests.Enable who refresh given) =
        at_found 0xBF31 (enabling_head heads busy came refresh given)
        (profile_named who heads.profiles) tag_enable (λ head.
        unless 0xBF31 2 _ (is_some (port_of head.number heads.ports.on)) tag_enable
        (enabling refresh head (target_port heads.ports came given)))
    each came (requests.Disable who refresh) =
        at_found 0xBF32 (disabling_head heads busy refresh) (profile_named who heads.profiles)
        tag_disable (λ head. disabling refresh head (port_of head.number heads.ports.on))
    each came (requests.Delete who) =
        at_found 0xBF33 (deleting_head heads) (profile_named who heads.profiles) tag_delete (λ head.
        unless 0xBF33 2 _ (is_some (port_of head.number heads.ports.on)) tag_delete
        (unless 0xBF33 3 _ (keeps_held head) tag_delete
        (unless 0xBF33 127 _ (lacks_room heads.notes (count_of Delete head)) tag_delete
        (carried 0xBF33 _ [] tag_delete))))
    each came (requests.MemoryReset operational test) =
        let numbers : List ℕ = ascending (numbers_reset operational test heads.profiles) in
        let moves : List Move = freed_from 0 numbers heads.ports.on in
        resetting numbers moves (list_any (λ move. is_busy busy move.port) moves)
    each came requests.Eid = alone replies.Eid tt
    each came (requests.NoteList operations) = alone (replies.Notes operations) tt
    each came (requests.NoteSent number) =
        sent number (list_any (λ note. nat_eq note.number number) heads.notes.list)
