-- An installation that nothing refuses.
use Rattle.std.proofs.Common.{◌≡◌, ◌≢◌, ◌<◌, ℕ, Bool, true, false, cond, List, [], ◌∷◌}
use Rattle.std.proofs.Common.{length, Some, None, refl, subst, arith, ⊎_elim}
use Rattle.std.specs.List.{AllByRecursion, list_any}
use Rattle.std.specs.Prelude.{◌||◌, nat_le, nat_lt}
use Rattle.std.specs.Str.{bytes_eq}
use Rattle.std.proofs.lemmas.Slice.Eq.{bytes_eq-Decides}
use Rattle.file_rows.specs.Content.{IsValid}
use Rattle.file_rows.proofs.ListLemmas.{any_cases, any_none}
use Rattle.isdr_commands.proofs.PassLemmas.{has_room}
use Rattle.isdr_commands.specs.Installation.{install_refusal}
use Rattle.isdr_commands.specs.Profiles.{lacks_room}
use Rattle.isdr_commands.specs.declared.install.LoadRefusal.TheVariants.{IccidExists}
use Rattle.isdr_commands.specs.declared.install.LoadRefusal.TheVariants.{NotificationsFull}
use Rattle.isdr_commands.specs.declared.install.LoadRefusal.TheVariants.{ProfilesFull}
use Rattle.notify_list.specs.declared.note.Operation.TheVariants.{Install}
use Rattle.record_codec.proofs.FitLemmas.{fits_where}
use Rattle.record_codec.specs.FitsCard.{FitsCard}
use Rattle.record_codec.specs.Heads.{IsHeld}
use Rattle.record_codec.specs.IsDurable.{IsDurable, IsHead}
use Rattle.record_codec.specs.Noted.{count_of}
use Rattle.record_codec.specs.declared.durable.Durable.{Durable}
use Rattle.record_codec.specs.declared.profile.Profile.{Profile}
use Rattle.record_codec.specs.declared.profile.ProfileHead.{ProfileHead}
use Rattle.record_codec.specs.declared.record.Record.TheVariants as records

-- each test but the last is false where there is no refusal
none_of : (one other last : Bool) → cond one (Some IccidExists)
    (cond other (Some ProfilesFull) (cond last (Some NotificationsFull) None)) ≡ None
    → (one ≡ false) × (other ≡ false) × (last ≡ false)
none_of true other last e = absurd cc
none_of false true last e = absurd cc
none_of false false true e = absurd cc
none_of false false false e = (refl, refl, refl)

-- no number at or above all of them is held
not_held : (next : ℕ) (profiles : List ProfileHead) → AllByRecursion (λ head. head.number < next)
    profiles → IsHeld next profiles → ⊥
not_held next [] below held = any_none (λ head. head.number ≡ next) held
not_held next (head ∷ profiles) below held =
    ⊎_elim
    (λ same. let less : head.number < next = below.0 in omega (arith, less, same))
    (λ later. not_held next profiles below.1 later)
    (any_cases (λ head. head.number ≡ next) head profiles held)

-- no profile has these bytes as its ICCID
none_alike : (iccid : List ℕ) (profiles : List ProfileHead)
    → list_any (λ (other : ProfileHead). bytes_eq other.iccid iccid) profiles ≡ false
    → AllByRecursion (λ (other : ProfileHead). other.iccid ≢ iccid) profiles
none_alike iccid [] e = tt
none_alike iccid (head ∷ profiles) e =
    let step : (b : Bool) → bytes_eq head.iccid iccid ≡ b
    → (b || list_any (λ (other : ProfileHead). bytes_eq other.iccid iccid) profiles) ≡ false
    → (head.iccid ≢ iccid)
    × (list_any (λ (other : ProfileHead). bytes_eq other.iccid iccid) profiles ≡ false)
    =
    λ b. elim b as
    (λ b. bytes_eq head.iccid iccid ≡ b
    → (b || list_any (λ (other : ProfileHead). bytes_eq other.iccid iccid) profiles) ≡ false
    → (head.iccid ≢ iccid)
    × (list_any (λ (other : ProfileHead). bytes_eq other.iccid iccid) profiles ≡ false)) [
      | true ↦ λ is e. absurd cc
      | false ↦ λ is e. (
        λ same.
            let alike : bytes_eq head.iccid iccid ≡ true =
            (bytes_eq-Decides head.iccid iccid).1 same in
            absurd cc,
        e,
      )
    ]
    in
    let both = step (bytes_eq head.iccid iccid) refl e in
    (both.0, none_alike iccid profiles both.1)

few_of : (held next : ℕ) → (nat_le 16 held || nat_lt 0xFFFF next) ≡ false → held < 16
few_of held next e = grind arith

pub installation_fits : (durable : Durable) → IsDurable durable → (profile : Profile)
    → IsHead profile.head → IsValid profile.content
    → profile.head.number ≡ durable.heads.next_number → install_refusal durable.heads profile.head
    ≡ None
    → FitsCard durable (records.PutProfile true profile None)
installation_fits durable are profile head valid next none =
    let tests =
    none_of
    (list_any (λ (other : ProfileHead). bytes_eq other.iccid profile.head.iccid)
    durable.heads.profiles)
    (nat_le 16 (length durable.heads.profiles) || nat_lt 0xFFFF durable.heads.next_number)
    (lacks_room durable.heads.notes (count_of Install profile.head)) none in
    (fits_where durable (records.PutProfile true profile None) are).1 (record {
      heads = record {
        few = few_of (length durable.heads.profiles) durable.heads.next_number tests.1;
        form = head;
        new = λ held. not_held durable.heads.next_number durable.heads.profiles
            are.heads.profiles.below
            (subst (λ (n : ℕ). IsHeld n durable.heads.profiles) next held);
        iccid = none_alike profile.head.iccid durable.heads.profiles tests.0;
        next = λ installation. next;
        before = λ copy. absurd cc;
        free = tt;
        room = λ installation. has_room durable.heads.notes (count_of Install profile.head) tests.2;
      };
      content = valid;
    })
