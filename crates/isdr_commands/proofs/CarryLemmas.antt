-- What an accepted request's record does.
use Rattle.std.proofs.Common.{◌≡◌, ◌<◌, ◌+◌, ℕ, Bool, List, [], ◌∷◌, length, Option, Some}
use Rattle.std.proofs.Common.{None, Ok, Err, Result, refl, sym, ◌∙◌, ap, subst, arith}
use Rattle.std.specs.Prelude.{is_some, slice_get}
use Rattle.isdr_codec.specs.declared.request.Who.{Who}
use Rattle.isdr_commands.proofs.FoundLemmas.{found_head, found_held}
use Rattle.isdr_commands.proofs.MoveLemmas.{place_there, set_others, target_is, unbound_others}
use Rattle.isdr_commands.proofs.MoveLemmas.{unbound_there}
use Rattle.isdr_commands.proofs.PassLemmas.{has_room, none_there, past, past_profile}
use Rattle.isdr_commands.specs.Decision.{accepted}
use Rattle.isdr_commands.specs.DeleteProfile.{deleting_named, deleting_head}
use Rattle.isdr_commands.specs.DisableProfile.{disabling_named, disabling_head, disabling_on}
use Rattle.isdr_commands.specs.EnableProfile.{enabling_named, enabling_head, enabling_on}
use Rattle.isdr_commands.specs.Laws.{IsCarriedOut}
use Rattle.isdr_commands.specs.Profiles.{head_on, is_busy, is_kept, is_identified, keeps_enabled}
use Rattle.isdr_commands.specs.Profiles.{keeps_held, lacks_room, profile_named, number_on}
use Rattle.isdr_commands.specs.declared.decision.Decision.{Decision}
use Rattle.isdr_commands.specs.declared.moves.Move.{Move}
use Rattle.notify_list.specs.Notes.{HasNoteRoom}
use Rattle.notify_list.specs.declared.note.Operation.TheVariants.{Delete, Disable, Enable}
use Rattle.port_table.proofs.PortOfLemmas.{nowhere_found, stands}
use Rattle.port_table.specs.PortOf.{port_of}
use Rattle.port_table.specs.Ports.{HasProfiles, StandsNowhere, StandsOn}
use Rattle.port_table.specs.Target.{target_port}
use Rattle.port_table.specs.declared.target.TargetFault.{TargetFault}
use Rattle.record_codec.proofs.FitLemmas.{fits_where}
use Rattle.record_codec.proofs.PortLemmas.{set_there}
use Rattle.record_codec.specs.Heads.{IsHeld, head_of}
use Rattle.record_codec.specs.IsDurable.{IsDurable}
use Rattle.record_codec.specs.Noted.{count_of, count_where}
use Rattle.record_codec.specs.declared.durable.Durable.{Durable}
use Rattle.record_codec.specs.declared.profile.ProfileHead.{ProfileHead}
use Rattle.record_codec.specs.declared.record.Record.{Record}
use Rattle.record_codec.specs.declared.record.Record.TheVariants as records

-- the record of an accepted decision is the one it has
pub carried : (durable : Durable) (tag : ℕ) (its : Record) (moves : List Move) (entry : Record)
    → IsCarriedOut durable its (accepted tag its moves)
    → (accepted tag its moves).entry ≡ Some entry → IsCarriedOut durable entry
    (accepted tag its moves)
carried durable tag its moves entry is e =
    let same : its ≡ entry = cc in
    subst (λ (r : Record). IsCarriedOut durable r (accepted tag its moves)) same is

module _ (durable : Durable) (are : IsDurable durable) (head : ProfileHead)
    (held : IsHeld head.number durable.heads.profiles)
    (named : head_of head.number durable.heads.profiles ≡ Some head) where
  enabled : (port : ℕ) (refresh : Bool) → StandsNowhere durable.heads.ports head.number
      → port < durable.heads.ports.count
      → HasProfiles durable.heads.ports.mode port
      → HasNoteRoom durable.heads.notes
      (count_where Disable (head_on port durable.heads) + count_of Enable head)
      → IsCarriedOut durable (records.Bind head.number port (number_on port durable.heads))
      (accepted 0xBF31 (records.Bind head.number port (number_on port durable.heads)) (record {
        port = port;
        leaves = number_on port durable.heads;
        comes = Some head.number;
        refresh = refresh;
      } ∷ []))
  enabled port refresh nowhere below place room =
      let within : port < length durable.heads.ports.on =
      omega (arith, below, are.heads.ports.rule.count) in
      let there : slice_get durable.heads.ports.on port ≡ Some (number_on port durable.heads) =
      place_there durable.heads.ports.on port within in
      record {
        fits =
            (fits_where durable (records.Bind head.number port (number_on port durable.heads))
            are).1 (record {
              heads = record {
                held = held;
                nowhere = nowhere;
                there = there;
                place = place;
                room =
                    subst (λ (o : Option ProfileHead). HasNoteRoom durable.heads.notes
                    (count_where Disable (head_on port durable.heads) + count_where Enable o))
                    (sym named) room;
              };
              content = tt;
            });
        moves = record {
          each = (
            record {
              left = there;
              came = set_there durable.heads.ports.on port (Some head.number)
                  (number_on port durable.heads) there;
              changes = λ same. nowhere port (there ∙ ap (λ (o : Option ℕ). Some o) same);
            },
            tt,
          );
          once = (tt, tt);
          others = λ other differ. set_others durable.heads.ports.on port other (Some head.number)
              differ.0;
        };
      }

  disabled : (port : ℕ) (refresh : Bool) → StandsOn durable.heads.ports head.number port
      → HasNoteRoom durable.heads.notes (count_of Disable head)
      → IsCarriedOut durable (records.Unbind head.number)
      (accepted 0xBF32 (records.Unbind head.number) (record {
        port = port;
        leaves = Some head.number;
        comes = None;
        refresh = refresh;
      } ∷ []))
  disabled port refresh on room = record {
    fits = (fits_where durable (records.Unbind head.number) are).1 (record {
      heads = record {
        held = held;
        bound = (port, on);
        room =
            subst
            (λ (o : Option ProfileHead). HasNoteRoom durable.heads.notes (count_where Disable o))
            (sym named) room;
      };
      content = tt;
    });
    moves = record {
      each = (
        record {
          left = on;
          came = unbound_there durable.heads.ports head.number port on;
          changes = λ same. cc;
        },
        tt,
      );
      once = (tt, tt);
      others = λ other differ. unbound_others durable.heads.ports head.number other
          (λ also. differ.0 (are.heads.ports.rule.one_port head.number port other on also));
    };
  }

  deleted : StandsNowhere durable.heads.ports head.number → HasNoteRoom durable.heads.notes
      (count_of Delete head)
      → IsCarriedOut durable (records.Gone (head.number ∷ []))
      (accepted 0xBF33 (records.Gone (head.number ∷ [])) [])
  deleted nowhere room =
      let alone : (k : ℕ) → k ≡ k + 0 = λ k. omega arith in
      record {
        fits = (fits_where durable (records.Gone (head.number ∷ [])) are).1 (record {
          heads = record {
            differ = (tt, tt);
            held = (held, tt);
            room = subst (λ (k : ℕ). HasNoteRoom durable.heads.notes k)
                (alone (count_of Delete head) ∙ ap
                (λ (o : Option ProfileHead). count_where Delete o + 0) (sym named)) room;
          };
          content = tt;
        });
        moves = record {
          each = tt;
          once = tt;
          others = λ port differ. unbound_others durable.heads.ports head.number port
              (nowhere port);
        };
      }

module _ (durable : Durable) (are : IsDurable durable) (busy : List Bool) (entry : Record) where
  abbrev Carries : Decision → Type 0
  Carries = IsCarriedOut durable entry

  enabling_carried : (head : ProfileHead) (refresh : Bool) (target : Result ℕ TargetFault)
      → IsHeld head.number durable.heads.profiles
      → head_of head.number durable.heads.profiles ≡ Some head → StandsNowhere durable.heads.ports
      head.number
      → ((port : ℕ) → target ≡ Ok port → (port < durable.heads.ports.count)
      × HasProfiles durable.heads.ports.mode port)
      → (enabling_on durable.heads busy refresh head target).entry ≡ Some entry
      → Carries (enabling_on durable.heads busy refresh head target)
  enabling_carried head refresh (Err fault) held named nowhere place = λ e. absurd cc
  enabling_carried head refresh (Ok port) held named nowhere place =
      past Carries entry 0xBF31 3 _ (is_kept (head_on port durable.heads)) (λ kept.
      past Carries entry 0xBF31 5 _ (is_busy busy port) (λ quiet.
      past Carries entry 0xBF31 127 _
      (lacks_room durable.heads.notes
      (count_where Disable (head_on port durable.heads) + count_of Enable head)) (λ room.
      carried durable 0xBF31 _ _ entry (enabled durable are head held named port refresh nowhere
      (place port refl).0 (place port refl).1
      (has_room durable.heads.notes
      (count_where Disable (head_on port durable.heads) + count_of Enable head) room)))))

  pub enabling_carries : (came : ℕ) (who : Who) (refresh : Bool) (given : Option ℕ)
      → came < durable.heads.ports.count
      → (enabling_named durable.heads busy came who refresh given).entry ≡ Some entry
      → Carries (enabling_named durable.heads busy came who refresh given)
  enabling_carries came who refresh given below =
      past_profile Carries entry 0xBF31 (enabling_head durable.heads busy came refresh given)
      (profile_named who durable.heads.profiles) (λ head found.
      past Carries entry 0xBF31 2 _ (is_some (port_of head.number durable.heads.ports.on)) (λ off.
      enabling_carried head refresh (target_port durable.heads.ports came given)
      (found_held (is_identified who) head durable.heads.profiles found)
      (found_head (is_identified who) head durable.heads.profiles are.heads.profiles.numbers found)
      ((nowhere_found head.number durable.heads.ports).0
      (none_there (port_of head.number durable.heads.ports.on) off))
      (λ port is. target_is durable.heads.ports came port given are.heads.ports.rule.count below
      is)))

  disabling_carried : (head : ProfileHead) (refresh : Bool) (place : Option ℕ)
      → IsHeld head.number durable.heads.profiles
      → head_of head.number durable.heads.profiles ≡ Some head
      → ((port : ℕ) → place ≡ Some port → StandsOn durable.heads.ports head.number port)
      → (disabling_on durable.heads busy refresh head place).entry ≡ Some entry
      → Carries (disabling_on durable.heads busy refresh head place)
  disabling_carried head refresh None held named on = λ e. absurd cc
  disabling_carried head refresh (Some port) held named on =
      past Carries entry 0xBF32 3 _ (keeps_enabled head) (λ kept.
      past Carries entry 0xBF32 5 _ (is_busy busy port) (λ quiet.
      past Carries entry 0xBF32 127 _ (lacks_room durable.heads.notes (count_of Disable head))
      (λ room.
      carried durable 0xBF32 _ _ entry
      (disabled durable are head held named port refresh (on port refl)
      (has_room durable.heads.notes (count_of Disable head) room)))))

  pub disabling_carries : (who : Who) (refresh : Bool)
      → (disabling_named durable.heads busy who refresh).entry ≡ Some entry
      → Carries (disabling_named durable.heads busy who refresh)
  disabling_carries who refresh =
      past_profile Carries entry 0xBF32 (disabling_head durable.heads busy refresh)
      (profile_named who durable.heads.profiles) (λ head found.
      disabling_carried head refresh (port_of head.number durable.heads.ports.on)
      (found_held (is_identified who) head durable.heads.profiles found)
      (found_head (is_identified who) head durable.heads.profiles are.heads.profiles.numbers found)
      (λ port is. stands head.number durable.heads.ports.on port is))

  pub deleting_carries : (who : Who) → (deleting_named durable.heads who).entry ≡ Some entry
      → Carries (deleting_named durable.heads who)
  deleting_carries who =
      past_profile Carries entry 0xBF33 (deleting_head durable.heads)
      (profile_named who durable.heads.profiles) (λ head found.
      past Carries entry 0xBF33 2 _ (is_some (port_of head.number durable.heads.ports.on)) (λ off.
      past Carries entry 0xBF33 3 _ (keeps_held head) (λ kept.
      past Carries entry 0xBF33 127 _ (lacks_room durable.heads.notes (count_of Delete head))
      (λ room.
      carried durable 0xBF33 _ _ entry
      (deleted durable are head
      (found_held (is_identified who) head durable.heads.profiles found)
      (found_head (is_identified who) head durable.heads.profiles are.heads.profiles.numbers found)
      ((nowhere_found head.number durable.heads.ports).0
      (none_there (port_of head.number durable.heads.ports.on) off))
      (has_room durable.heads.notes (count_of Delete head) room))))))
