-- What requests leave alone.
use Rattle.std.proofs.Common.{◌≡◌, ◌≢◌, ◌+◌, ⊎_elim, ℕ, Bool, true, false, cond}
use Rattle.std.proofs.Common.{nat_eq, List, [], ◌∷◌, filter, length, Option, Some, None}
use Rattle.std.proofs.Common.{Result, Ok, Err, refl, sym, ◌∙◌, ap, subst, eq-eqb, eqb-true}
use Rattle.std.specs.List.{AllByRecursion, list_any}
use Rattle.std.specs.Prelude.{◌||◌, is_some, option_and_then}
use Rattle.std.proofs.lemmas.Bool.{true≢false}
use Rattle.file_rows.proofs.EachLemmas.{each_of_map, each_weaker}
use Rattle.file_rows.proofs.ListLemmas.{each_kept}
use Rattle.isdr_codec.specs.declared.request.Request.{Request}
use Rattle.isdr_codec.specs.declared.request.Request.TheVariants as requests
use Rattle.isdr_codec.specs.declared.request.Who.{Who}
use Rattle.isdr_codec.specs.declared.request.Who.TheVariants.{Iccid}
use Rattle.isdr_commands.proofs.FoundLemmas.{HasOther, found_head}
use Rattle.isdr_commands.proofs.PassLemmas.{none_there, past, past_profile}
use Rattle.isdr_commands.proofs.ResetLemmas.{each_ascending}
use Rattle.isdr_commands.specs.Ascending.{ascending}
use Rattle.isdr_commands.specs.Decision.{accepted, refused_with}
use Rattle.isdr_commands.specs.DeleteProfile.{deleting_named, deleting_head}
use Rattle.isdr_commands.specs.DisableProfile.{disabling_named, disabling_head, disabling_on}
use Rattle.isdr_commands.specs.EnableProfile.{enabling_named, enabling_head, enabling_on}
use Rattle.isdr_commands.specs.Laws.{Resets}
use Rattle.isdr_commands.specs.Profiles.{head_on, is_busy, is_kept, is_identified, keeps_enabled}
use Rattle.isdr_commands.specs.Profiles.{keeps_held, lacks_room, profile_named, number_on}
use Rattle.isdr_commands.specs.MemoryReset.{freed_from, is_reset, memory_reset, numbers_reset}
use Rattle.isdr_commands.specs.Request.{managed}
use Rattle.isdr_commands.specs.SetNickname.{naming_head}
use Rattle.isdr_commands.specs.declared.decision.Decision.{Decision}
use Rattle.notify_list.specs.declared.note.Operation.TheVariants.{Delete, Disable, Enable}
use Rattle.plain_lists.specs.EachTwo.{EachTwo}
use Rattle.port_table.proofs.PortOfLemmas.{nowhere_found}
use Rattle.port_table.specs.PortOf.{port_of}
use Rattle.port_table.specs.Ports.{StandsNowhere, StandsOn}
use Rattle.port_table.specs.Target.{target_port}
use Rattle.port_table.specs.declared.target.TargetFault.{TargetFault}
use Rattle.record_codec.specs.Gone.{is_among}
use Rattle.record_codec.specs.Heads.{head_of}
use Rattle.record_codec.specs.Local.{TouchesPort}
use Rattle.record_codec.specs.Noted.{count_of, count_of_each, count_where}
use Rattle.record_codec.specs.declared.durable.Heads.{Heads}
use Rattle.record_codec.specs.declared.profile.ProfileHead.{ProfileHead}
use Rattle.record_codec.specs.declared.record.Record.{Record}
use Rattle.record_codec.specs.declared.record.Record.TheVariants as records

-- what isn't so of a decision's record isn't so of the one that is named
pub without : (T : Record → Type 0) (its entry : Record) → (T its → ⊥) → Some its ≡ Some entry
    → T entry → ⊥
without T its entry none e there =
    let same : entry ≡ its = cc in
    none (subst T same there)

-- one head to a number
module _ (number : ℕ) (head : ProfileHead) where
  same_head : (profiles : List ProfileHead) → EachTwo HasOther profiles → head_of number profiles
      ≡ Some head
      → AllByRecursion (λ other. other.number ≡ number → other ≡ head) profiles
  same_head [] differ e = tt
  same_head (one ∷ profiles) differ e =
      let step : (b : Bool) → nat_eq one.number number ≡ b → cond b (Some one)
      (head_of number profiles) ≡ Some head
      → AllByRecursion (λ other. other.number ≡ number → other ≡ head) (one ∷ profiles)
      =
      λ b. elim b as
      (λ b. nat_eq one.number number ≡ b → cond b (Some one) (head_of number profiles)
      ≡ Some head
      → AllByRecursion (λ other. other.number ≡ number → other ≡ head) (one ∷ profiles)) [
        | true ↦ λ is e.
            let first : one ≡ head = cc in (
              λ same. first,
              each_weaker (HasOther one) (λ other. other.number ≡ number → other ≡ head)
                  (λ other differs same. absurd
                  (differs (eqb-true one.number number is ∙ sym same))) profiles differ.0,
            )
        | false ↦ λ is e. (
          λ same. let there : nat_eq one.number number ≡ true = eq-eqb one.number number same in
              absurd cc,
          same_head profiles differ.1 e,
        )
      ]
      in step (nat_eq one.number number) refl e

  -- a head that passes a test, among those that do
  kept_passes : (test : ProfileHead → Bool) (profiles : List ProfileHead)
      → AllByRecursion (λ other. other.number ≡ number → other ≡ head) profiles
      → AllByRecursion (λ other. other.number ≡ number → test head ≡ true) (filter test profiles)
  kept_passes test profiles each =
      each_kept (λ other. other.number ≡ number → other ≡ head)
      (λ other. other.number ≡ number → test head ≡ true) test
      (λ other is passes same. subst (λ (h : ProfileHead). test h ≡ true) (is same) passes) profiles
      each

pub among_holds : (R : Type 0) (number : ℕ) (numbers : List ℕ)
    → AllByRecursion (λ one. one ≡ number → R) numbers → is_among numbers number ≡ true → R
among_holds R number [] each among = absurd cc
among_holds R number (one ∷ numbers) each among =
    let step : (b : Bool) → nat_eq one number ≡ b → (b || is_among numbers number) ≡ true → R
    = λ b. elim b as (λ b. nat_eq one number ≡ b → (b || is_among numbers number) ≡ true → R) [
      | true ↦ λ is among. each.0 (eqb-true one number is)
      | false ↦ λ is among. among_holds R number numbers each.1 among
    ]
    in step (nat_eq one number) refl among

-- an enabled profile with PPR1 stays on its port
module _ (heads : Heads) (differ : EachTwo HasOther heads.profiles) (busy : List Bool)
    (head : ProfileHead) (its_port : ℕ) (entry : Record)
    (its : head_of head.number heads.profiles ≡ Some head) (keeps : keeps_enabled head ≡ true)
    (on : StandsOn heads.ports head.number its_port) where
  abbrev Spares : Decision → Type 0
  Spares decision = TouchesPort entry head.number → ⊥

  abbrev Touches : Record → Type 0
  Touches entry = TouchesPort entry head.number

  -- a profile that stands nowhere is another one
  is_other : (number : ℕ) → StandsNowhere heads.ports number → number ≢ head.number
  is_other number nowhere same =
      nowhere its_port (subst (λ (n : ℕ). StandsOn heads.ports n its_port) (sym same) on)

  kept_on : (port : ℕ) → number_on port heads ≡ Some head.number → is_kept (head_on port heads)
      ≡ true
  kept_on port at =
      ap (λ (o : Option ℕ). is_kept (option_and_then (λ number. head_of number heads.profiles) o))
      at
      ∙ ap is_kept its ∙ keeps

  enabling_on_spares : (one : ProfileHead) (refresh : Bool) (target : Result ℕ TargetFault)
      → StandsNowhere heads.ports one.number
      → (enabling_on heads busy refresh one target).entry ≡ Some entry → Touches entry → ⊥
  enabling_on_spares one refresh (Err fault) nowhere = λ e. absurd cc
  enabling_on_spares one refresh (Ok port) nowhere =
      past Spares entry 0xBF31 3 _ (is_kept (head_on port heads)) (λ kept.
      past Spares entry 0xBF31 5 _ (is_busy busy port) (λ quiet.
      past Spares entry 0xBF31 127 _
      (lacks_room heads.notes (count_where Disable (head_on port heads) + count_of Enable one))
      (λ room.
      without Touches (records.Bind one.number port (number_on port heads)) entry (λ touches.
      ⊎_elim (λ same. is_other one.number nowhere same)
      (λ displaced. true≢false (sym (kept_on port displaced) ∙ kept)) touches))))

  enabling_spares : (came : ℕ) (who : Who) (refresh : Bool) (given : Option ℕ)
      → (enabling_named heads busy came who refresh given).entry ≡ Some entry → Touches entry → ⊥
  enabling_spares came who refresh given =
      past_profile Spares entry 0xBF31 (enabling_head heads busy came refresh given)
      (profile_named who heads.profiles) (λ one found.
      past Spares entry 0xBF31 2 _ (is_some (port_of one.number heads.ports.on)) (λ off.
      enabling_on_spares one refresh (target_port heads.ports came given)
      ((nowhere_found one.number heads.ports).0
      (none_there (port_of one.number heads.ports.on) off))))

  disabling_on_spares : (one : ProfileHead) (refresh : Bool) (place : Option ℕ)
      → head_of one.number heads.profiles ≡ Some one
      → (disabling_on heads busy refresh one place).entry ≡ Some entry → Touches entry → ⊥
  disabling_on_spares one refresh None is = λ e. absurd cc
  disabling_on_spares one refresh (Some port) is =
      past Spares entry 0xBF32 3 _ (keeps_enabled one) (λ kept.
      past Spares entry 0xBF32 5 _ (is_busy busy port) (λ quiet.
      past Spares entry 0xBF32 127 _ (lacks_room heads.notes (count_of Disable one)) (λ room.
      without Touches (records.Unbind one.number) entry (λ same.
      let there : head_of head.number heads.profiles ≡ Some one =
      subst (λ (n : ℕ). head_of n heads.profiles ≡ Some one) same is in
      let one_is : one ≡ head = cc in
      true≢false (sym keeps ∙ sym (ap keeps_enabled one_is) ∙ kept)))))

  disabling_spares : (who : Who) (refresh : Bool) → (disabling_named heads busy who refresh).entry
      ≡ Some entry → Touches entry → ⊥
  disabling_spares who refresh =
      past_profile Spares entry 0xBF32 (disabling_head heads busy refresh)
      (profile_named who heads.profiles) (λ one found.
      disabling_on_spares one refresh (port_of one.number heads.ports.on)
      (found_head (is_identified who) one heads.profiles differ found))

  deleting_spares : (who : Who) → (deleting_named heads who).entry ≡ Some entry → Touches entry → ⊥
  deleting_spares who =
      past_profile Spares entry 0xBF33 (deleting_head heads) (profile_named who heads.profiles)
      (λ one found.
      past Spares entry 0xBF33 2 _ (is_some (port_of one.number heads.ports.on)) (λ off.
      past Spares entry 0xBF33 3 _ (keeps_held one) (λ kept.
      past Spares entry 0xBF33 127 _ (lacks_room heads.notes (count_of Delete one)) (λ room.
      without Touches (records.Gone (one.number ∷ [])) entry (λ among.
      among_holds ⊥ head.number (one.number ∷ []) (
        is_other one.number
            ((nowhere_found one.number heads.ports).0
            (none_there (port_of one.number heads.ports.on) off)),
        tt,
      ) among)))))

  -- the numbers that go have the head's only where it is reset
  goes_where : (operational test : Bool)
      → AllByRecursion (λ one. one ≡ head.number → is_reset operational test head ≡ true)
      (ascending (numbers_reset operational test heads.profiles))
  goes_where operational test =
      each_ascending (λ one. one ≡ head.number → is_reset operational test head ≡ true)
      (numbers_reset operational test heads.profiles)
      ((each_of_map (λ (one : ProfileHead). one.number) (λ one. one ≡ head.number
      → is_reset operational test head ≡ true)
      (filter (is_reset operational test) heads.profiles)).0
      (kept_passes head.number head (is_reset operational test) heads.profiles
      (same_head head.number head heads.profiles differ its)))

  resetting_spares : (operational test : Bool) → (is_reset operational test head ≡ true → ⊥)
      → (memory_reset heads busy operational test).entry ≡ Some entry → Touches entry → ⊥
  resetting_spares operational test other =
      let numbers : List ℕ = ascending (numbers_reset operational test heads.profiles) in
      past Spares entry 0xBF34 1 _ (nat_eq (length numbers) 0) (λ some.
      past Spares entry 0xBF34 5 _
      (list_any (λ move. is_busy busy move.port) (freed_from 0 numbers heads.ports.on))
      (λ quiet.
      past Spares entry 0xBF34 127 _
      (lacks_room heads.notes (count_of_each Delete numbers heads.profiles)) (λ room.
      without Touches (records.Gone numbers) entry (λ among.
      other (among_holds (is_reset operational test head ≡ true) head.number numbers
      (goes_where operational test) among)))))

  pub managed_spares : (came : ℕ) (request : Request) → (Resets request head → ⊥)
      → (managed heads busy came request).entry ≡ Some entry → Touches entry → ⊥
  managed_spares came (requests.Info search fields) other e = absurd cc
  managed_spares came (requests.Nickname iccid name) other e =
      past_profile Spares entry 0xBF29 (naming_head name)
      (profile_named (Iccid iccid) heads.profiles) (λ one found.
      without Touches (records.Name one.number name) entry (λ none. none)) e
  managed_spares came (requests.Enable who refresh given) other e =
      enabling_spares came who refresh given e
  managed_spares came (requests.Disable who refresh) other e = disabling_spares who refresh e
  managed_spares came (requests.Delete who) other e = deleting_spares who e
  managed_spares came (requests.MemoryReset operational test) other e =
      resetting_spares operational test other e
  managed_spares came requests.Eid other e = absurd cc
  managed_spares came (requests.NoteList operations) other e = absurd cc
  managed_spares came (requests.NoteSent number) other e =
      sent_spares number (list_any (λ note. nat_eq note.number number) heads.notes.list) e
    where
      sent_spares : (number : ℕ) (pending : Bool)
          → (cond pending (accepted 0xBF30 (records.NoteGone number) [])
          (refused_with 0xBF30 1)).entry ≡ Some entry
          → Touches entry → ⊥
      sent_spares number true e = without Touches (records.NoteGone number) entry (λ none. none) e
      sent_spares number false e = absurd cc
