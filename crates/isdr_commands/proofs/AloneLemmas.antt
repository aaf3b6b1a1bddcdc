-- Profiles that a request neither names nor displaces.
use Rattle.std.proofs.Common.{◌≡◌, ◌≢◌, ◌+◌, ⊎_elim, ℕ, Bool, true, false, cond, nat_eq, List}
use Rattle.std.proofs.Common.{[], ◌∷◌, filter, length, Option, Some, None, Result, Ok, Err, refl}
use Rattle.std.proofs.Common.{sym, ap, subst, eq-eqb}
use Rattle.std.specs.List.{Any, AllByRecursion, list_any}
use Rattle.std.specs.Prelude.{IsSomeAnd, is_some}
use Rattle.file_rows.proofs.EachLemmas.{each_of_map}
use Rattle.file_rows.proofs.ListLemmas.{any_first, each_kept}
use Rattle.isdr_codec.specs.declared.request.Request.{Request}
use Rattle.isdr_codec.specs.declared.request.Request.TheVariants as requests
use Rattle.isdr_codec.specs.declared.request.Who.{Who}
use Rattle.isdr_codec.specs.declared.request.Who.TheVariants.{Iccid}
use Rattle.isdr_commands.proofs.FoundLemmas.{HasOther}
use Rattle.isdr_commands.proofs.KeptLemmas.{among_holds}
use Rattle.isdr_commands.proofs.PassLemmas.{past, past_profile}
use Rattle.isdr_commands.proofs.ResetLemmas.{each_ascending}
use Rattle.isdr_commands.specs.Ascending.{ascending}
use Rattle.isdr_commands.specs.Decision.{accepted, refused_with}
use Rattle.isdr_commands.specs.DeleteProfile.{deleting_head}
use Rattle.isdr_commands.specs.DisableProfile.{disabling_head, disabling_on}
use Rattle.isdr_commands.specs.EnableProfile.{enabling_head, enabling_on}
use Rattle.isdr_commands.specs.Laws.{Displaces, NamesProfile}
use Rattle.isdr_commands.specs.Profiles.{head_on, is_busy, is_kept, keeps_enabled, keeps_held}
use Rattle.isdr_commands.specs.Profiles.{lacks_room, profile_named, number_on}
use Rattle.isdr_commands.specs.MemoryReset.{freed_from, is_reset, numbers_reset}
use Rattle.isdr_commands.specs.Request.{managed}
use Rattle.isdr_commands.specs.SetNickname.{naming_head}
use Rattle.isdr_commands.specs.declared.decision.Decision.{Decision}
use Rattle.isdr_commands.specs.declared.moves.Move.{Move}
use Rattle.notify_list.specs.declared.note.Operation.TheVariants.{Delete, Disable, Enable}
use Rattle.plain_lists.specs.EachTwo.{EachTwo}
use Rattle.port_table.specs.PortOf.{port_of}
use Rattle.port_table.specs.Target.{target_port}
use Rattle.port_table.specs.declared.target.TargetFault.{TargetFault}
use Rattle.record_codec.proofs.HeldLemmas.{differ_is}
use Rattle.record_codec.specs.Gone.{is_among}
use Rattle.record_codec.specs.Heads.{head_of}
use Rattle.record_codec.specs.Local.{TouchesContent, TouchesHead, TouchesPort}
use Rattle.record_codec.specs.Noted.{count_of, count_of_each, count_where}
use Rattle.record_codec.specs.declared.durable.Heads.{Heads}
use Rattle.record_codec.specs.declared.profile.ProfileHead.{ProfileHead}
use Rattle.record_codec.specs.declared.record.Record.{Record}
use Rattle.record_codec.specs.declared.record.Record.TheVariants as records

-- the record touches nothing of the profile
pub record Passes (number : ℕ) (entry : Record) : Type 0 where
  pub content : TouchesContent entry number → ⊥
  pub head : TouchesHead entry number → ⊥
  pub port : TouchesPort entry number → ⊥

-- each profile is the one of its number
its_own : (profiles : List ProfileHead) → EachTwo HasOther profiles
    → AllByRecursion (λ (head : ProfileHead). head_of head.number profiles ≡ Some head) profiles
its_own [] differ = tt
its_own (one ∷ profiles) differ = (
  ap (λ (b : Bool). cond b (Some one) (head_of one.number profiles))
      (eq-eqb one.number one.number refl),
  later profiles differ.0 (its_own profiles differ.1),
)
  where
    later : (others : List ProfileHead) → AllByRecursion (HasOther one) others
        → AllByRecursion (λ (head : ProfileHead). head_of head.number profiles ≡ Some head) others
        → AllByRecursion (λ (head : ProfileHead). head_of head.number (one ∷ profiles) ≡ Some head)
        others
    later [] unlike each = tt
    later (head ∷ others) unlike each =
        (rw (differ_is one.number head.number unlike.0) each.0, later others unlike.1 each.1)

module _ (heads : Heads) (differ : EachTwo HasOther heads.profiles) (busy : List Bool) (number : ℕ)
    (entry : Record) where
  -- what a decision owes to a profile that it doesn't displace
  abbrev Spares : Decision → Type 0
  Spares decision = (Displaces decision number → ⊥) → Passes number entry

  recorded : (tag : ℕ) (its : Record) (moves : List Move)
      → ((Any (λ (move : Move). move.leaves ≡ Some number) moves → ⊥) → Passes number its)
      → (accepted tag its moves).entry ≡ Some entry → Spares (accepted tag its moves)
  recorded tag its moves passes e undisplaced =
      let same : its ≡ entry = cc in
      subst (Passes number) same (passes undisplaced)

  enabling_on_passes : (one : ProfileHead) (refresh : Bool) (target : Result ℕ TargetFault)
      → one.number ≢ number
      → (enabling_on heads busy refresh one target).entry ≡ Some entry
      → Spares (enabling_on heads busy refresh one target)
  enabling_on_passes one refresh (Err fault) other = λ e. absurd cc
  enabling_on_passes one refresh (Ok port) other =
      past Spares entry 0xBF31 3 _ (is_kept (head_on port heads)) (λ kept.
      past Spares entry 0xBF31 5 _ (is_busy busy port) (λ quiet.
      past Spares entry 0xBF31 127 _
      (lacks_room heads.notes (count_where Disable (head_on port heads) + count_of Enable one))
      (λ room.
      recorded 0xBF31 (records.Bind one.number port (number_on port heads)) (record {
        port = port;
        leaves = number_on port heads;
        comes = Some one.number;
        refresh = refresh;
      } ∷ []) (λ undisplaced. record {
        content = λ none. none;
        head = λ none. none;
        port = λ touches. ⊎_elim (λ same. other same)
            (λ displaced. undisplaced
            (any_first (λ (move : Move). move.leaves ≡ Some number) (record {
              port = port;
              leaves = number_on port heads;
              comes = Some one.number;
              refresh = refresh;
            }) [] displaced)) touches;
      }))))

  disabling_on_passes : (one : ProfileHead) (refresh : Bool) (place : Option ℕ)
      → one.number ≢ number
      → (disabling_on heads busy refresh one place).entry ≡ Some entry
      → Spares (disabling_on heads busy refresh one place)
  disabling_on_passes one refresh None other = λ e. absurd cc
  disabling_on_passes one refresh (Some port) other =
      past Spares entry 0xBF32 3 _ (keeps_enabled one) (λ kept.
      past Spares entry 0xBF32 5 _ (is_busy busy port) (λ quiet.
      past Spares entry 0xBF32 127 _ (lacks_room heads.notes (count_of Disable one)) (λ room.
      recorded 0xBF32 (records.Unbind one.number) (record {
        port = port;
        leaves = Some one.number;
        comes = None;
        refresh = refresh;
      } ∷ [])
      (λ undisplaced. record { content = λ none. none; head = λ none. none; port = other }))))

  gone_passes : (numbers : List ℕ) → (is_among numbers number ≡ true → ⊥)
      → Passes number (records.Gone numbers)
  gone_passes numbers none = record { content = none; head = none; port = none }

  -- the numbers that go are those of profiles that are reset
  goes_where : (operational test : Bool)
      → AllByRecursion (λ one. one ≡ number → IsSomeAnd (head_of number heads.profiles)
      (λ head. is_reset operational test head ≡ true))
      (ascending (numbers_reset operational test heads.profiles))
  goes_where operational test =
      each_ascending (λ one. one ≡ number → IsSomeAnd (head_of number heads.profiles)
      (λ head. is_reset operational test head ≡ true))
      (numbers_reset operational test heads.profiles)
      ((each_of_map (λ (one : ProfileHead). one.number) (λ one. one ≡ number
      → IsSomeAnd (head_of number heads.profiles) (λ head. is_reset operational test head ≡ true))
      (filter (is_reset operational test) heads.profiles)).0
      (each_kept (λ (one : ProfileHead). head_of one.number heads.profiles ≡ Some one)
      (λ (one : ProfileHead). one.number ≡ number → IsSomeAnd (head_of number heads.profiles)
      (λ head. is_reset operational test head ≡ true))
      (is_reset operational test)
      (λ one its passes same.
      let there : head_of number heads.profiles ≡ Some one =
      subst (λ (n : ℕ). head_of n heads.profiles ≡ Some one) same its in
      subst
      (λ (o : Option ProfileHead). IsSomeAnd o (λ head. is_reset operational test head ≡ true))
      (sym there) passes)
      heads.profiles (its_own heads.profiles differ)))

  -- who is named isn't the profile
  not_named : (who : Who) (one : ProfileHead)
      → (IsSomeAnd (profile_named who heads.profiles) (λ head. head.number ≡ number) → ⊥)
      → profile_named who heads.profiles ≡ Some one → one.number ≢ number
  not_named who one unnamed found same =
      unnamed (subst (λ (o : Option ProfileHead). IsSomeAnd o (λ head. head.number ≡ number))
      (sym found) same)

  sent_passes : (sent : ℕ) (pending : Bool)
      → (cond pending (accepted 0xBF30 (records.NoteGone sent) []) (refused_with 0xBF30 1)).entry
      ≡ Some entry
      → Spares (cond pending (accepted 0xBF30 (records.NoteGone sent) []) (refused_with 0xBF30 1))
  sent_passes sent true = recorded 0xBF30 (records.NoteGone sent) []
      (λ undisplaced. record { content = λ none. none; head = λ none. none; port = λ none. none })
  sent_passes sent false = λ e. absurd cc

  pub managed_passes : (came : ℕ) (request : Request)
      → (NamesProfile heads.profiles request number → ⊥) → (managed heads busy came request).entry
      ≡ Some entry
      → Spares (managed heads busy came request)
  managed_passes came (requests.Info search fields) unnamed = λ e. absurd cc
  managed_passes came (requests.Nickname iccid name) unnamed =
      past_profile Spares entry 0xBF29 (naming_head name)
      (profile_named (Iccid iccid) heads.profiles) (λ one found.
      recorded 0xBF29 (records.Name one.number name) [] (λ undisplaced. record {
        content = λ none. none;
        head = not_named (Iccid iccid) one unnamed found;
        port = λ none. none;
      }))
  managed_passes came (requests.Enable who refresh given) unnamed =
      past_profile Spares entry 0xBF31 (enabling_head heads busy came refresh given)
      (profile_named who heads.profiles) (λ one found.
      past Spares entry 0xBF31 2 _ (is_some (port_of one.number heads.ports.on)) (λ off.
      enabling_on_passes one refresh (target_port heads.ports came given)
      (not_named who one unnamed found)))
  managed_passes came (requests.Disable who refresh) unnamed =
      past_profile Spares entry 0xBF32 (disabling_head heads busy refresh)
      (profile_named who heads.profiles) (λ one found.
      disabling_on_passes one refresh (port_of one.number heads.ports.on)
      (not_named who one unnamed found))
  managed_passes came (requests.Delete who) unnamed =
      past_profile Spares entry 0xBF33 (deleting_head heads) (profile_named who heads.profiles)
      (λ one found.
      past Spares entry 0xBF33 2 _ (is_some (port_of one.number heads.ports.on)) (λ off.
      past Spares entry 0xBF33 3 _ (keeps_held one) (λ kept.
      past Spares entry 0xBF33 127 _ (lacks_room heads.notes (count_of Delete one)) (λ room.
      recorded 0xBF33 (records.Gone (one.number ∷ [])) [] (λ undisplaced.
      gone_passes (one.number ∷ [])
      (λ among. among_holds ⊥ number (one.number ∷ []) (not_named who one unnamed found, tt)
      among))))))
  managed_passes came (requests.MemoryReset operational test) unnamed =
      let numbers : List ℕ = ascending (numbers_reset operational test heads.profiles) in
      past Spares entry 0xBF34 1 _ (nat_eq (length numbers) 0) (λ some.
      past Spares entry 0xBF34 5 _
      (list_any (λ move. is_busy busy move.port) (freed_from 0 numbers heads.ports.on))
      (λ quiet.
      past Spares entry 0xBF34 127 _
      (lacks_room heads.notes (count_of_each Delete numbers heads.profiles)) (λ room.
      recorded 0xBF34 (records.Gone numbers) (freed_from 0 numbers heads.ports.on) (λ undisplaced.
      gone_passes numbers (λ among.
      unnamed
      (among_holds
      (IsSomeAnd (head_of number heads.profiles)
      (λ head. is_reset operational test head ≡ true)) number numbers
      (goes_where operational test) among))))))
  managed_passes came requests.Eid unnamed = λ e. absurd cc
  managed_passes came (requests.NoteList operations) unnamed = λ e. absurd cc
  managed_passes came (requests.NoteSent sent) unnamed =
      sent_passes sent (list_any (λ note. nat_eq note.number sent) heads.notes.list)
