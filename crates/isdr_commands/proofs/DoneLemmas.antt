-- An accepted request does what it asks for.
use Rattle.std.proofs.Common.{◌≡◌, ◌<◌, ℕ, Bool, true, false, not, cond, nat_eq, List, [], ◌∷◌}
use Rattle.std.proofs.Common.{length, map, filter, Option, Some, None, Ok, refl, sym, ◌∙◌, ap}
use Rattle.std.proofs.Common.{subst}
use Rattle.std.proofs.Common.{arith, eq-eqb}
use Rattle.std.specs.List.{AllByRecursion, list_any}
use Rattle.std.specs.Prelude.{◌||◌, nat_le, is_some}
use Rattle.std.proofs.lemmas.Bool.{false≢true}
use Rattle.file_rows.proofs.EachLemmas.{each_weaker}
use Rattle.file_rows.proofs.ListLemmas.{each_kept}
use Rattle.isdr_codec.specs.declared.request.Request.TheVariants as requests
use Rattle.isdr_codec.specs.declared.request.Who.{Who}
use Rattle.isdr_codec.specs.declared.request.Who.TheVariants.{Iccid}
use Rattle.isdr_commands.proofs.FoundLemmas.{found_head}
use Rattle.isdr_commands.proofs.MoveLemmas.{place_there, target_is}
use Rattle.isdr_commands.proofs.PassLemmas.{past}
use Rattle.isdr_commands.specs.Ascending.{ascending, inserted}
use Rattle.isdr_commands.specs.Decision.{accepted, at_profile, refused_with}
use Rattle.isdr_commands.specs.DeleteProfile.{deleting_head}
use Rattle.isdr_commands.specs.DisableProfile.{disabling_head, disabling_on}
use Rattle.isdr_commands.specs.EnableProfile.{enabling_count, enabling_head, enabling_on}
use Rattle.isdr_commands.specs.Laws.{IsAsked}
use Rattle.isdr_commands.specs.MemoryReset.{freed_from, is_reset, numbers_reset}
use Rattle.isdr_commands.specs.Profiles.{head_on, is_busy, is_identified, is_kept, keeps_enabled}
use Rattle.isdr_commands.specs.Profiles.{keeps_held, lacks_room, number_on, profile_named}
use Rattle.isdr_commands.specs.Request.{managed}
use Rattle.isdr_commands.specs.SetNickname.{naming_head}
use Rattle.isdr_commands.specs.declared.decision.Decision.{Decision}
use Rattle.isdr_commands.specs.declared.moves.Move.{Move}
use Rattle.notify_list.proofs.NoteLemmas.{any_of_none, each_passes, gone}
use Rattle.notify_list.specs.Notes.{IsPending}
use Rattle.notify_list.specs.declared.note.Operation.TheVariants.{Delete, Disable}
use Rattle.port_table.proofs.PortLemmas.{nowhere}
use Rattle.port_table.specs.PortOf.{port_of}
use Rattle.port_table.specs.Ports.{StandsNowhere, StandsOn}
use Rattle.port_table.specs.Target.{target_port}
use Rattle.record_codec.proofs.HeldLemmas.{named_number}
use Rattle.record_codec.proofs.PortLemmas.{set_there}
use Rattle.record_codec.specs.Apply.{apply}
use Rattle.record_codec.specs.Gone.{is_among}
use Rattle.record_codec.specs.Heads.{IsHeld, head_of}
use Rattle.record_codec.specs.Name.{named}
use Rattle.record_codec.specs.Noted.{count_of, count_of_each}
use Rattle.record_codec.specs.declared.durable.Durable.{Durable}
use Rattle.record_codec.specs.declared.profile.ProfileHead.{ProfileHead}
use Rattle.record_codec.specs.declared.record.Record.{Record}
use Rattle.record_codec.specs.declared.record.Record.TheVariants as records

-- the record of an accepted decision is the one it has
its_record : (G : Record → Type 0) (tag : ℕ) (its : Record) (moves : List Move) (entry : Record)
    → G its → (accepted tag its moves).entry ≡ Some entry → G entry
its_record G tag its moves entry holds e = let same : its ≡ entry = cc in subst G same holds

-- a profile that is found
at_its : (tag : ℕ) (goes : ProfileHead → Decision) (found : Option ProfileHead)
    (head : ProfileHead) (entry : Record) → found ≡ Some head
    → (at_profile tag found goes).entry ≡ Some entry → (goes head).entry ≡ Some entry
at_its tag goes found head entry is =
    subst (λ (o : Option ProfileHead). (at_profile tag o goes).entry ≡ Some entry) is

-- which numbers are among those in ascending order
module _ (number : ℕ) where
  turned : (one other rest : Bool) → (other || (one || rest)) ≡ (one || (other || rest))
  turned true true rest = refl
  turned true false rest = refl
  turned false true rest = refl
  turned false false rest = refl

  among_inserted : (one : ℕ) (numbers : List ℕ)
      → is_among (inserted one numbers) number ≡ (nat_eq one number || is_among numbers number)
  among_inserted one [] = refl
  among_inserted one (other ∷ others) =
      let step : (b : Bool)
      → is_among (cond b (one ∷ other ∷ others) (other ∷ inserted one others)) number
      ≡ (nat_eq one number || (nat_eq other number || is_among others number))
      = λ b. elim b as (λ b.
      is_among (cond b (one ∷ other ∷ others) (other ∷ inserted one others)) number
      ≡ (nat_eq one number || (nat_eq other number || is_among others number))) [
        | true ↦ refl
        | false ↦
            ap (λ (rest : Bool). nat_eq other number || rest) (among_inserted one others)
            ∙ turned (nat_eq one number) (nat_eq other number) (is_among others number)
      ]
      in step (nat_le one other)

  among_ascending : (numbers : List ℕ)
      → is_among (ascending numbers) number ≡ is_among numbers number
  among_ascending [] = refl
  among_ascending (one ∷ numbers) =
      among_inserted one (ascending numbers)
      ∙ ap (λ (rest : Bool). nat_eq one number || rest) (among_ascending numbers)

later_among : (first rest : Bool) → rest ≡ true → (first || rest) ≡ true
later_among true rest e = refl
later_among false rest e = e

-- the profiles that an eUICCMemoryReset is about are among those that go
module _ (operational test : Bool) where
  abbrev IsAmong : List ℕ → ProfileHead → Type 0
  IsAmong numbers head = is_reset operational test head ≡ true → is_among numbers head.number ≡ true

  among_reset : (profiles : List ProfileHead)
      → AllByRecursion (IsAmong (numbers_reset operational test profiles)) profiles
  among_reset [] = tt
  among_reset (head ∷ profiles) =
      let numbers : List ℕ = numbers_reset operational test profiles in
      let rest : AllByRecursion (IsAmong numbers) profiles = among_reset profiles in
      let both : List ℕ = head.number ∷ numbers in
      let step : (b : Bool) → is_reset operational test head ≡ b
      → AllByRecursion (IsAmong (map (λ one. one.number)
      (cond b (head ∷ filter (is_reset operational test) profiles)
      (filter (is_reset operational test) profiles)))) (head ∷ profiles)
      = λ b. elim b as (λ b. is_reset operational test head ≡ b
      → AllByRecursion (IsAmong (map (λ one. one.number)
      (cond b (head ∷ filter (is_reset operational test) profiles)
      (filter (is_reset operational test) profiles)))) (head ∷ profiles)) [
        | true ↦ λ is. (
          λ its. ap (λ (b : Bool). b || is_among numbers head.number)
              (eq-eqb head.number head.number refl),
          each_weaker (IsAmong numbers) (IsAmong both) (λ one later its.
              later_among (nat_eq head.number one.number) (is_among numbers one.number) (later its))
              profiles rest,
        )
        | false ↦ λ is. (λ its. absurd (false≢true (sym is ∙ its)), rest)
      ]
      in step (is_reset operational test head) refl

  left_after : (profiles : List ProfileHead)
      → AllByRecursion (λ head. is_reset operational test head ≡ false) (filter (λ head. not
      (is_among (ascending (numbers_reset operational test profiles)) head.number)) profiles)
  left_after profiles =
      let numbers : List ℕ = numbers_reset operational test profiles in
      each_kept (IsAmong numbers) (λ head. is_reset operational test head ≡ false)
      (λ head. not (is_among (ascending numbers) head.number)) (λ head among stays.
      let step : (b : Bool) → is_reset operational test head ≡ b → b ≡ false
      = λ b. elim b as (λ b. is_reset operational test head ≡ b → b ≡ false) [
        | true ↦ λ is.
            let goes : is_among (ascending numbers) head.number ≡ true =
            among_ascending head.number numbers ∙ among is in
            absurd (false≢true (sym (ap not goes) ∙ stays))
        | false ↦ λ is. refl
      ]
      in step (is_reset operational test head) refl) profiles (among_reset profiles)

-- a profile that goes is held no more
not_left : (numbers : List ℕ) (number : ℕ) → is_among numbers number ≡ true
    → (profiles : List ProfileHead)
    → IsHeld number (filter (λ head. not (is_among numbers head.number)) profiles) → ⊥
not_left numbers number among profiles =
    any_of_none (λ (head : ProfileHead). head.number ≡ number)
    (filter (λ head. not (is_among numbers head.number)) profiles)
    (each_passes (λ (head : ProfileHead). head.number ≡ number → ⊥)
    (λ head. not (is_among numbers head.number)) (λ head stays same.
    let goes : is_among numbers head.number ≡ true = ap (is_among numbers) same ∙ among in
    false≢true (sym (ap not goes) ∙ stays)) profiles)

-- the head of a profile that is named
module _ (number : ℕ) (name : List ℕ) (head : ProfileHead) where
  named_found : (profiles : List ProfileHead) → head_of number profiles ≡ Some head
      → head_of number (map (named number name) profiles) ≡ Some (named number name head)
  named_found [] e = absurd cc
  named_found (one ∷ profiles) e =
      let rest : Option ProfileHead = head_of number (map (named number name) profiles) in
      let step : (b : Bool) → cond b (Some one) (head_of number profiles) ≡ Some head
      → cond b (Some (named number name one)) rest ≡ Some (named number name head)
      = λ b. elim b as (λ b. cond b (Some one) (head_of number profiles) ≡ Some head
      → cond b (Some (named number name one)) rest ≡ Some (named number name head)) [
        | true ↦ λ is.
            let same : one ≡ head = cc in
            ap (λ (its : ProfileHead). Some (named number name its)) same
        | false ↦ λ is. named_found profiles is
      ]
      in
      ap (λ (n : ℕ). cond (nat_eq n number) (Some (named number name one)) rest)
      (named_number number name one)
      ∙ step (nat_eq one.number number) e

module _ (durable : Durable) (busy : List Bool) (entry : Record) (head : ProfileHead) where
  pub enabled : (came port : ℕ) (who : Who) (refresh : Bool) (given : Option ℕ)
      → IsAsked durable came (requests.Enable who refresh given)
      → profile_named who durable.heads.profiles ≡ Some head
      → target_port durable.heads.ports came given ≡ Ok port
      → (managed durable.heads busy came (requests.Enable who refresh given)).entry ≡ Some entry
      → StandsOn (apply durable entry).heads.ports head.number port
  enabled came port who refresh given asked found target e =
      let heads = durable.heads in
      let rule = asked.card.heads.ports.rule in
      let is = target_is heads.ports came port given rule.count asked.below target in
      let within : port < length heads.ports.on = omega (arith, is.0, rule.count) in
      let its : Record = records.Bind head.number port (number_on port heads) in
      let move : Move = record {
        port = port;
        leaves = number_on port heads;
        comes = Some head.number;
        refresh = refresh;
      } in
      let G : Record → Type 0 = λ r. StandsOn (apply durable r).heads.ports head.number port in
      let there : G its =
      set_there heads.ports.on port (Some head.number) (number_on port heads)
      (place_there heads.ports.on port within) in
      past (λ decision. G entry) entry 0xBF31 2
      (enabling_on heads busy refresh head (target_port heads.ports came given))
      (is_some (port_of head.number heads.ports.on)) (λ disabled goes.
      past (λ decision. G entry) entry 0xBF31 3 _ (is_kept (head_on port heads)) (λ free.
      past (λ decision. G entry) entry 0xBF31 5 _ (is_busy busy port) (λ quiet.
      past (λ decision. G entry) entry 0xBF31 127 _
      (lacks_room heads.notes (enabling_count heads head port)) (λ room.
      its_record G 0xBF31 its (move ∷ []) entry there)))
      (subst (λ t. (enabling_on heads busy refresh head t).entry ≡ Some entry) target goes))
      (at_its 0xBF31 (enabling_head heads busy came refresh given)
      (profile_named who heads.profiles) head entry found e)

  disabled_at : (refresh : Bool) (place : Option ℕ)
      → (disabling_on durable.heads busy refresh head place).entry ≡ Some entry
      → StandsNowhere (apply durable entry).heads.ports head.number
  disabled_at refresh None e = absurd cc
  disabled_at refresh (Some port) e =
      let heads = durable.heads in
      let move : Move = record {
        port = port;
        leaves = Some head.number;
        comes = None;
        refresh = refresh;
      } in
      let G : Record → Type 0 = λ r. StandsNowhere (apply durable r).heads.ports head.number in
      past (λ decision. G entry) entry 0xBF32 3 _ (keeps_enabled head) (λ free.
      past (λ decision. G entry) entry 0xBF32 5 _ (is_busy busy port) (λ quiet.
      past (λ decision. G entry) entry 0xBF32 127 _
      (lacks_room heads.notes (count_of Disable head)) (λ room.
      its_record G 0xBF32 (records.Unbind head.number) (move ∷ []) entry
      (nowhere head.number heads.ports)))) e

  pub disabled : (came : ℕ) (who : Who) (refresh : Bool)
      → profile_named who durable.heads.profiles ≡ Some head
      → (managed durable.heads busy came (requests.Disable who refresh)).entry ≡ Some entry
      → StandsNowhere (apply durable entry).heads.ports head.number
  disabled came who refresh found e =
      disabled_at refresh (port_of head.number durable.heads.ports.on)
      (at_its 0xBF32 (disabling_head durable.heads busy refresh)
      (profile_named who durable.heads.profiles) head entry found e)

  pub deleted : (came : ℕ) (who : Who)
      → profile_named who durable.heads.profiles ≡ Some head
      → (managed durable.heads busy came (requests.Delete who)).entry ≡ Some entry
      → IsHeld head.number (apply durable entry).heads.profiles → ⊥
  deleted came who found e =
      let heads = durable.heads in
      let numbers : List ℕ = head.number ∷ [] in
      let G : Record → Type 0 = λ r. IsHeld head.number (apply durable r).heads.profiles → ⊥ in
      past (λ decision. G entry) entry 0xBF33 2 _
      (is_some (port_of head.number heads.ports.on)) (λ disabled.
      past (λ decision. G entry) entry 0xBF33 3 _ (keeps_held head) (λ free.
      past (λ decision. G entry) entry 0xBF33 127 _
      (lacks_room heads.notes (count_of Delete head)) (λ room.
      its_record G 0xBF33 (records.Gone numbers) [] entry
      (not_left numbers head.number
      (ap (λ (b : Bool). b || false) (eq-eqb head.number head.number refl)) heads.profiles))))
      (at_its 0xBF33 (deleting_head heads) (profile_named who heads.profiles) head entry found e)

  pub nicknamed : (came : ℕ) (iccid name : List ℕ)
      → IsAsked durable came (requests.Nickname iccid name)
      → profile_named (Iccid iccid) durable.heads.profiles ≡ Some head
      → (managed durable.heads busy came (requests.Nickname iccid name)).entry ≡ Some entry
      → head_of head.number (apply durable entry).heads.profiles
      ≡ Some (record head { nickname = name })
  nicknamed came iccid name asked found e =
      let profiles : List ProfileHead = durable.heads.profiles in
      let its : head_of head.number profiles ≡ Some head =
      found_head (is_identified (Iccid iccid)) head profiles
      asked.card.heads.profiles.numbers found in
      let after : ProfileHead = record head { nickname = name } in
      let G : Record → Type 0 = λ r. head_of head.number (apply durable r).heads.profiles
      ≡ Some after in
      let there : G (records.Name head.number name) =
      named_found head.number name head profiles its
      ∙ ap (λ (b : Bool). Some (cond b after head)) (eq-eqb head.number head.number refl) in
      its_record G 0xBF29 (records.Name head.number name) [] entry there
      (at_its 0xBF29 (naming_head name) (profile_named (Iccid iccid) profiles) head entry found e)

module _ (durable : Durable) (busy : List Bool) (entry : Record) where
  pub reset : (came : ℕ) (operational test : Bool)
      → (managed durable.heads busy came (requests.MemoryReset operational test)).entry ≡ Some entry
      → AllByRecursion (λ head. is_reset operational test head ≡ false)
      (apply durable entry).heads.profiles
  reset came operational test e =
      let heads = durable.heads in
      let numbers : List ℕ = ascending (numbers_reset operational test heads.profiles) in
      let moves : List Move = freed_from 0 numbers heads.ports.on in
      let G : Record → Type 0 = λ r. AllByRecursion
      (λ head. is_reset operational test head ≡ false) (apply durable r).heads.profiles in
      past (λ decision. G entry) entry 0xBF34 1 _ (nat_eq (length numbers) 0) (λ some.
      past (λ decision. G entry) entry 0xBF34 5 _
      (list_any (λ move. is_busy busy move.port) moves) (λ quiet.
      past (λ decision. G entry) entry 0xBF34 127 _
      (lacks_room heads.notes (count_of_each Delete numbers heads.profiles)) (λ room.
      its_record G 0xBF34 (records.Gone numbers) moves entry
      (left_after operational test heads.profiles)))) e

  sent_at : (number : ℕ) (pending : Bool)
      → (cond pending (accepted 0xBF30 (records.NoteGone number) []) (refused_with 0xBF30 1)).entry
      ≡ Some entry
      → IsPending number (apply durable entry).heads.notes → ⊥
  sent_at number false e = absurd cc
  sent_at number true e =
      its_record (λ r. IsPending number (apply durable r).heads.notes → ⊥) 0xBF30
      (records.NoteGone number) [] entry (gone durable.heads.notes number) e

  pub sent : (came number : ℕ)
      → (managed durable.heads busy came (requests.NoteSent number)).entry ≡ Some entry
      → IsPending number (apply durable entry).heads.notes → ⊥
  sent came number e =
      sent_at number (list_any (λ note. nat_eq note.number number) durable.heads.notes.list) e
