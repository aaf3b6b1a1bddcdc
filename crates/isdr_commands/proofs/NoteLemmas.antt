-- Requests that leave a pending notification.
use Rattle.std.proofs.Common.{◌≡◌, ◌≢◌, ◌+◌, ℕ, Bool, true, false, cond, nat_eq, List, [], ◌∷◌}
use Rattle.std.proofs.Common.{length, Option, Some, None, Result, Ok, Err, ap, sym}
use Rattle.std.specs.List.{list_any}
use Rattle.std.specs.Prelude.{is_some}
use Rattle.isdr_codec.specs.declared.request.Request.{Request}
use Rattle.isdr_codec.specs.declared.request.Request.TheVariants as requests
use Rattle.isdr_codec.specs.declared.request.Who.TheVariants.{Iccid}
use Rattle.isdr_commands.proofs.KeptLemmas.{without}
use Rattle.isdr_commands.proofs.PassLemmas.{past, past_profile}
use Rattle.isdr_commands.specs.Ascending.{ascending}
use Rattle.isdr_commands.specs.Decision.{accepted, refused_with}
use Rattle.isdr_commands.specs.DeleteProfile.{deleting_head}
use Rattle.isdr_commands.specs.DisableProfile.{disabling_head, disabling_on}
use Rattle.isdr_commands.specs.EnableProfile.{enabling_head, enabling_on}
use Rattle.isdr_commands.specs.Profiles.{head_on, is_busy, is_kept, keeps_enabled, keeps_held}
use Rattle.isdr_commands.specs.Profiles.{lacks_room, profile_named, number_on}
use Rattle.isdr_commands.specs.MemoryReset.{freed_from, numbers_reset}
use Rattle.isdr_commands.specs.Request.{managed}
use Rattle.isdr_commands.specs.SetNickname.{naming_head}
use Rattle.isdr_commands.specs.declared.decision.Decision.{Decision}
use Rattle.notify_list.specs.declared.note.Note.{Note}
use Rattle.notify_list.specs.declared.note.Operation.TheVariants.{Delete, Disable, Enable}
use Rattle.port_table.specs.PortOf.{port_of}
use Rattle.port_table.specs.Target.{target_port}
use Rattle.port_table.specs.declared.target.TargetFault.{TargetFault}
use Rattle.record_codec.specs.Local.{TakesNote}
use Rattle.record_codec.specs.Noted.{count_of, count_of_each, count_where}
use Rattle.record_codec.specs.declared.durable.Heads.{Heads}
use Rattle.record_codec.specs.declared.profile.ProfileHead.{ProfileHead}
use Rattle.record_codec.specs.declared.record.Record.{Record}
use Rattle.record_codec.specs.declared.record.Record.TheVariants as records

module _ (heads : Heads) (busy : List Bool) (note : Note) (entry : Record) where
  abbrev Leaves : Decision → Type 0
  Leaves decision = TakesNote entry note → ⊥

  abbrev Takes : Record → Type 0
  Takes entry = TakesNote entry note

  enabling_leaves : (refresh : Bool) (head : ProfileHead) (target : Result ℕ TargetFault)
      → (enabling_on heads busy refresh head target).entry ≡ Some entry
      → Takes entry → ⊥
  enabling_leaves refresh head (Err fault) = λ e. absurd cc
  enabling_leaves refresh head (Ok port) =
      past Leaves entry 0xBF31 3 _ (is_kept (head_on port heads)) (λ kept.
      past Leaves entry 0xBF31 5 _ (is_busy busy port) (λ quiet.
      past Leaves entry 0xBF31 127 _
      (lacks_room heads.notes (count_where Disable (head_on port heads) + count_of Enable head))
      (λ room.
      without Takes (records.Bind head.number port (number_on port heads)) entry (λ none. none))))

  disabling_leaves : (refresh : Bool) (head : ProfileHead) (place : Option ℕ)
      → (disabling_on heads busy refresh head place).entry ≡ Some entry → Takes entry → ⊥
  disabling_leaves refresh head None = λ e. absurd cc
  disabling_leaves refresh head (Some port) =
      past Leaves entry 0xBF32 3 _ (keeps_enabled head) (λ kept.
      past Leaves entry 0xBF32 5 _ (is_busy busy port) (λ quiet.
      past Leaves entry 0xBF32 127 _ (lacks_room heads.notes (count_of Disable head)) (λ room.
      without Takes (records.Unbind head.number) entry (λ none. none))))

  sent_leaves : (number : ℕ) (pending : Bool) → (note.number ≡ number → ⊥)
      → (cond pending (accepted 0xBF30 (records.NoteGone number) []) (refused_with 0xBF30 1)).entry
      ≡ Some entry → Takes entry → ⊥
  sent_leaves number true other = without Takes (records.NoteGone number) entry other
  sent_leaves number false other = λ e. absurd cc

  pub managed_leaves : (came : ℕ) (request : Request) → request ≢ requests.NoteSent note.number
      → (managed heads busy came request).entry ≡ Some entry
      → Takes entry → ⊥
  managed_leaves came (requests.Info search fields) other e = absurd cc
  managed_leaves came (requests.Nickname iccid name) other e =
      past_profile Leaves entry 0xBF29 (naming_head name)
      (profile_named (Iccid iccid) heads.profiles) (λ head found.
      without Takes (records.Name head.number name) entry (λ none. none)) e
  managed_leaves came (requests.Enable who refresh given) other e =
      past_profile Leaves entry 0xBF31 (enabling_head heads busy came refresh given)
      (profile_named who heads.profiles) (λ head found.
      past Leaves entry 0xBF31 2 _ (is_some (port_of head.number heads.ports.on)) (λ off.
      enabling_leaves refresh head (target_port heads.ports came given))) e
  managed_leaves came (requests.Disable who refresh) other e =
      past_profile Leaves entry 0xBF32 (disabling_head heads busy refresh)
      (profile_named who heads.profiles) (λ head found.
      disabling_leaves refresh head (port_of head.number heads.ports.on)) e
  managed_leaves came (requests.Delete who) other e =
      past_profile Leaves entry 0xBF33 (deleting_head heads) (profile_named who heads.profiles)
      (λ head found.
      past Leaves entry 0xBF33 2 _ (is_some (port_of head.number heads.ports.on)) (λ off.
      past Leaves entry 0xBF33 3 _ (keeps_held head) (λ kept.
      past Leaves entry 0xBF33 127 _ (lacks_room heads.notes (count_of Delete head)) (λ room.
      without Takes (records.Gone (head.number ∷ [])) entry (λ none. none))))) e
  managed_leaves came (requests.MemoryReset operational test) other e =
      let numbers : List ℕ = ascending (numbers_reset operational test heads.profiles) in
      past Leaves entry 0xBF34 1 _ (nat_eq (length numbers) 0) (λ some.
      past Leaves entry 0xBF34 5 _
      (list_any (λ move. is_busy busy move.port) (freed_from 0 numbers heads.ports.on))
      (λ quiet.
      past Leaves entry 0xBF34 127 _
      (lacks_room heads.notes (count_of_each Delete numbers heads.profiles)) (λ room.
      without Takes (records.Gone numbers) entry (λ none. none)))) e
  managed_leaves came requests.Eid other e = absurd cc
  managed_leaves came (requests.NoteList operations) other e = absurd cc
  managed_leaves came (requests.NoteSent number) other e =
      sent_leaves number (list_any (λ note. nat_eq note.number number) heads.notes.list)
      (λ same. other (ap (λ (n : ℕ). requests.NoteSent n) (sym same))) e
