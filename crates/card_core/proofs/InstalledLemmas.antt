-- What an installation leaves.
use Rattle.std.proofs.Common.{◌≡◌, ◌≤◌, ℕ, Bool, true, false, List, Option, Some, None, refl}
use Rattle.std.proofs.Common.{Result, Ok, Err, sym, ◌∙◌, ap, subst, arith, length, cond}
use Rattle.std.specs.List.{list_any}
use Rattle.std.specs.Prelude.{◌||◌, nat_le, nat_lt, unwrap_or}
use Rattle.std.specs.Str.{bytes_eq}
use Rattle.file_rows.specs.Content.{IsValid}
use Rattle.file_rows.specs.declared.content.Content.{Content}
use Rattle.isdr_commands.proofs.InstallLemmas.{installation_fits}
use Rattle.isdr_commands.specs.Installation.{install_refusal}
use Rattle.isdr_commands.specs.Profiles.{lacks_room}
use Rattle.isdr_commands.specs.declared.install.LoadRefusal.{LoadRefusal}
use Rattle.isdr_commands.specs.declared.install.LoadRefusal.TheVariants.{IccidExists}
use Rattle.isdr_commands.specs.declared.install.LoadRefusal.TheVariants.{NotificationsFull}
use Rattle.isdr_commands.specs.declared.install.LoadRefusal.TheVariants.{ProfilesFull}
use Rattle.notify_list.specs.declared.note.Operation.TheVariants.{Install}
use Rattle.profile_install.specs.declared.work.Refusal.{Refusal}
use Rattle.record_codec.proofs.LocalLemmas.{contents_stay}
use Rattle.record_codec.specs.Apply.{apply}
use Rattle.record_codec.specs.FitsCard.{FitsCard}
use Rattle.record_codec.specs.Heads.{IsHeld}
use Rattle.record_codec.specs.IsDurable.{IsDurable, IsHead}
use Rattle.record_codec.specs.Noted.{count_of}
use Rattle.record_codec.specs.declared.durable.Durable.{Durable}
use Rattle.record_codec.specs.declared.durable.Heads.{Heads}
use Rattle.record_codec.specs.declared.profile.ProfileHead.{ProfileHead}
use Rattle.record_codec.specs.declared.record.Record.{Record}
use Rattle.record_codec.specs.declared.record.Record.TheVariants as records
use Rattle.port_table.specs.declared.ports.Ports.{Ports}
use Rattle.card_core.proofs.KeptLemmas.{not_next}
use Rattle.card_core.proofs.MovedLemmas.{stands}
use Rattle.card_core.specs.AtPort.{AreAtPorts}
use Rattle.card_core.specs.Load.{EndsBytes, EndsLoad, LoadEnd, installed, installing, load_built}
use Rattle.card_core.specs.LoadState.{LoadState}
use Rattle.card_core.specs.Port.{blank_content, content_held, content_on, profile_on}
use Rattle.card_core.specs.declared.port.Port.{Port}

-- a profile that may be installed has a number of 16 bits
small : (exists full few : Bool) (next : ℕ) → cond exists (Some IccidExists)
    (cond (full || nat_lt 0xFFFF next) (Some ProfilesFull)
    (cond few (Some NotificationsFull) None)) ≡ None
    → nat_lt 0xFFFF next ≡ false
small true full few next none = absurd cc
small false true few next none = absurd cc
small false false few next none = by (nat_lt 0xFFFF next) none
  where
    by : (is : Bool) → cond is (Some ProfilesFull) (cond few (Some NotificationsFull) None) ≡ None
        → is ≡ false
    by true none = absurd cc
    by false none = refl

pub small_number : (heads : Heads) (head : ProfileHead) → install_refusal heads head ≡ None
    → heads.next_number ≤ 0xFFFF
small_number heads head none =
    let not_less : nat_lt 0xFFFF heads.next_number ≡ false =
    small (list_any (λ (other : ProfileHead). bytes_eq other.iccid head.iccid) heads.profiles)
    (nat_le 16 (length heads.profiles)) (lacks_room heads.notes (count_of Install head))
    heads.next_number none in
    grind arith

-- the head with the next number may be installed as well
pub installed_fits : (durable : Durable) (head : ProfileHead) (content : Content)
    → IsDurable durable → IsHead head → IsValid content
    → install_refusal durable.heads head ≡ None
    → FitsCard durable (records.PutProfile true (installed durable head content) None)
installed_fits durable head content are good valid none =
    installation_fits durable are (installed durable head content)
    (record {
      provider = good.provider;
      name = good.name;
      nickname = good.nickname;
      few = good.few;
      addresses = good.addresses;
    }) valid refl none

-- so may it be on each card with the same heads
pub install_fits : (heads : Heads) (head : ProfileHead) (content : Content) (entry : Record)
    → entry ≡ records.PutProfile true (record {
      head = record head { number = heads.next_number };
      content = content;
    }) None
    → install_refusal heads head ≡ None → IsHead head → IsValid content
    → (durable : Durable) → IsDurable durable → durable.heads ≡ heads → FitsCard durable entry
install_fits heads head content entry made none good valid durable are same =
    subst (λ (its : Heads). entry ≡ records.PutProfile true (record {
      head = record head { number = its.next_number };
      content = content;
    }) None
    → install_refusal its head ≡ None → FitsCard durable entry) same
    (λ made none. subst (FitsCard durable) (sym made)
    (installed_fits durable head content are good valid none)) made none

module _ (durable : Durable) (are : IsDurable durable) where
  -- an installation changes no port and no content at one
  abbrev pub LeavesPorts : Durable → Type 0
  LeavesPorts after = (after.heads.ports ≡ durable.heads.ports)
      × ((port : ℕ) → content_on after port ≡ content_on durable port)

  unchanged : LeavesPorts durable
  unchanged = (refl, λ port. refl)

  pub put_leaves : (head : ProfileHead) (content : Content)
      → LeavesPorts (apply durable (records.PutProfile true (installed durable head content) None))
  put_leaves head content = (refl, λ port. by port (profile_on durable port) refl)
    where
      by : (port : ℕ) (on : Option ℕ) → profile_on durable port ≡ on → content_held
          (apply durable (records.PutProfile true (installed durable head content) None)) on
          ≡ content_held durable on
      by port None is = refl
      by port (Some profile) is =
          ap (λ (held : Option Content). unwrap_or held blank_content)
          (contents_stay durable
          (records.PutProfile true (installed durable head content) None) profile
          are.contents.pairs
          (λ same. not_next durable.heads.next_number durable.heads.profiles
          are.heads.profiles.below
          (subst (λ (number : ℕ). IsHeld number durable.heads.profiles) (sym same)
          (are.heads.ports.held profile port (stands durable.heads.ports.on port profile is)))))

  installing_leaves : (commit : ℕ) (head : ProfileHead) (content : Content)
      (refusal : Option LoadRefusal)
      → LeavesPorts (installing durable commit head content refusal).durable
  installing_leaves commit head content (Some refusal) = unchanged
  installing_leaves commit head content None = put_leaves head content

  built_leaves : (commit : ℕ) (head : ProfileHead) (answer : Result Content Refusal)
      → LeavesPorts (load_built durable commit head answer).durable
  built_leaves commit head (Err refusal) = unchanged
  built_leaves commit head (Ok content) =
      installing_leaves commit head content (install_refusal durable.heads head)

  bytes_leave : (commit : ℕ) (load : LoadState) (bytes : Option (List ℕ)) (end : LoadEnd)
      → EndsBytes durable commit load bytes end → LeavesPorts end.durable
  bytes_leave commit load None end is =
      subst (λ (its : LoadEnd). LeavesPorts its.durable) (sym is) unchanged
  bytes_leave commit load (Some bytes) end gives =
      subst (λ (its : LoadEnd). LeavesPorts its.durable) (sym gives.2)
      (built_leaves commit load.head gives.0)

  pub end_leaves : (commit : ℕ) (load : Option LoadState) (end : LoadEnd)
      → EndsLoad durable commit load end → LeavesPorts end.durable
  end_leaves commit None end is =
      subst (λ (its : LoadEnd). LeavesPorts its.durable) (sym is) unchanged
  end_leaves commit (Some load) end is = bytes_leave commit load load.received end is

  -- the cards at the ports are as they were
  pub stand_left : (after : Durable) (ports : List Port) → LeavesPorts after
      → AreAtPorts durable ports → AreAtPorts after ports
  stand_left after ports leaves at = record {
    count = at.count ∙ ap (λ (its : Ports). its.count) (sym leaves.0);
    each = λ number port there. at.each number port there
        ∙ ap (λ (its : Content). record {
          content = its;
          session = port.session;
          mode = durable.heads.ports.mode;
          port = Some number;
        }) (sym (leaves.1 number))
        ∙ ap (λ (its : Ports). record {
          content = content_on after number;
          session = port.session;
          mode = its.mode;
          port = Some number;
        }) (sym leaves.0);
  }
