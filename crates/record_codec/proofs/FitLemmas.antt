-- Just when a card takes a record, by the kind of the record.
use Rattle.std.proofs.Common.{◌≡◌, ◌≢◌, ◌↔◌, ℕ, ◌+◌, ◌<◌, Bool, true, false, cond, not, List, []}
use Rattle.std.proofs.Common.{◌∷◌, ◌++◌, filter, Option, Some, None, refl, sym, ap, subst, arith}
use Rattle.std.proofs.lemmas.List.{length-map, length-replicate, length_push}
use Rattle.std.specs.List.{AllByRecursion}
use Rattle.std.specs.Prelude.{IfSome, IsSomeAnd, option_and_then, slice_get}
use Rattle.file_rows.specs.Change.{Fits, changed}
use Rattle.file_rows.specs.Content.{IsValid}
use Rattle.file_rows.specs.declared.change.Change.{Change}
use Rattle.file_rows.specs.declared.content.Content.{Content}
use Rattle.file_rows.proofs.EachLemmas.{each_weaker}
use Rattle.file_rows.proofs.ListLemmas.{any_left, any_right, any_first, each_append, each_right}
use Rattle.file_rows.proofs.ListLemmas.{two_last, two_push}
use Rattle.notify_list.specs.Notes.{NoteList}
use Rattle.notify_list.specs.declared.note.Note.{Note}
use Rattle.notify_list.specs.declared.note.Operation.TheVariants.{Install, Enable, Disable, Delete}
use Rattle.port_table.specs.declared.port_mode.PortMode.{PortMode}
use Rattle.record_codec.specs.Begin.{IsBegun}
use Rattle.record_codec.specs.FitsCard.{FitsCard}
use Rattle.record_codec.specs.Gone.{unbound_each, is_among}
use Rattle.record_codec.specs.Heads.{IsHeld, content_at, head_of}
use Rattle.record_codec.specs.IsDurable.{AreNotes, ArePorts, IsDurable, IsHead}
use Rattle.record_codec.specs.Name.{named}
use Rattle.record_codec.specs.Noted.{count_of, count_where, noted, noted_where}
use Rattle.record_codec.specs.PutCard.{new_card}
use Rattle.record_codec.specs.PutProfile.{bound_where}
use Rattle.record_codec.specs.Takes.{IsCard, IsFreePort, IsNewProfile, TakesRecord}
use Rattle.record_codec.specs.declared.durable.Durable.{Durable}
use Rattle.record_codec.specs.declared.durable.Heads.{Heads}
use Rattle.record_codec.specs.declared.profile.Profile.{Profile}
use Rattle.record_codec.specs.declared.profile.ProfileHead.{ProfileHead}
use Rattle.record_codec.specs.declared.record.Record.{Record}
use Rattle.record_codec.specs.declared.record.Record.TheVariants as records
use Rattle.record_codec.proofs.GrowLemmas.{Grows, displaced_is, grows_numbers, grows_of, grows_then}
use Rattle.record_codec.proofs.GrowLemmas.{grows_where, head_is, notes_fit, notes_less}
use Rattle.record_codec.proofs.HeldLemmas.{each_not, left_are, left_held, named_are, named_held}
use Rattle.record_codec.proofs.HeldLemmas.{nickname_few, pairs_left, pairs_with, valid_left}
use Rattle.record_codec.proofs.HeldLemmas.{valid_with}
use Rattle.record_codec.proofs.PortLemmas.{bound_are, each_count, each_rule, none_stands, set_there}
use Rattle.record_codec.proofs.PortLemmas.{unbound_are, were_on}

-- a new card
fits_card : (durable : Durable) (mode : PortMode) (ports : ℕ) (eid : List ℕ) (next_number next_note : ℕ) (notes : List Note)
    → FitsCard durable (records.PutCard mode ports eid next_number next_note notes) ↔ TakesRecord durable (records.PutCard mode ports eid next_number next_note notes)
fits_card durable mode ports eid next_number next_note notes = (
  λ fits. record {
    heads = record { some = fits.after.heads.ports.some; few = fits.after.heads.ports.few; pending = fits.after.heads.notes };
    content = tt;
  },
  λ takes. record {
    place = tt;
    after = record {
      heads = record {
        profiles = record { few = omega arith; each = tt; below = tt; numbers = tt; iccids = tt };
        ports = record {
          some = takes.heads.some;
          few = takes.heads.few;
          rule = record {
            count = length-replicate ports None;
            one_port = λ profile one other first second. absurd (none_stands ports profile one first);
            places = λ profile port stands. absurd (none_stands ports profile port stands);
          };
          held = λ profile port stands. absurd (none_stands ports profile port stands);
        };
        notes = takes.heads.pending;
      };
      contents = record { pairs = refl; valid = tt };
    };
  },
)

-- one more profile
module _ (durable : Durable) (are : IsDurable durable) (profile : Profile) where
  abbrev heads : Heads
  heads = durable.heads

  abbrev more : List ProfileHead
  more = heads.profiles ++ profile.head ∷ []

  free_place : (port : Option ℕ) → IfSome port (λ port. slice_get heads.ports.on port ≡ Some None)
      → ArePorts more (bound_where profile.head.number port heads.ports) → IfSome port (λ port. IsFreePort heads port)
  free_place None free after = tt
  free_place (Some port) free after = record {
    free = free;
    place = after.rule.places profile.head.number port (set_there heads.ports.on port (Some profile.head.number) None free);
  }

  is_free : (port : Option ℕ) → IfSome port (λ port. IsFreePort heads port) → IfSome port (λ port. slice_get heads.ports.on port ≡ Some None)
  is_free None free = tt
  is_free (Some port) free = free.free

  held_more : (number : ℕ) → IsHeld number heads.profiles → IsHeld number more
  held_more number held = any_left (λ head. head.number ≡ number) heads.profiles (profile.head ∷ []) held

  held_last : IsHeld profile.head.number more
  held_last = any_right (λ head. head.number ≡ profile.head.number) heads.profiles (profile.head ∷ [])
      (any_first (λ head. head.number ≡ profile.head.number) profile.head [] refl)

  ports_after : (port : Option ℕ) → (IsHeld profile.head.number heads.profiles → ⊥) → IfSome port (λ port. IsFreePort heads port)
      → ArePorts more (bound_where profile.head.number port heads.ports)
  ports_after None new free = record {
    some = are.heads.ports.some;
    few = are.heads.ports.few;
    rule = are.heads.ports.rule;
    held = λ another other stands. held_more another (are.heads.ports.held another other stands);
  }
  ports_after (Some port) new free = bound_are heads.profiles more heads.ports profile.head.number port are.heads.ports held_more held_last
      (λ other stands. new (are.heads.ports.held profile.head.number other stands)) free.place

  -- an installation is notified, a copy isn't
  abbrev notes_after : Bool → NoteList
  notes_after installation = cond installation (noted Install profile.head heads.notes) heads.notes

  grown : IsHead profile.head → Grows (count_of Install profile.head) heads.notes (noted Install profile.head heads.notes)
  grown form = grows_of Install profile.head heads.notes form

  are_notes : (installation : Bool) → IsNewProfile heads installation profile.head None → AreNotes (notes_after installation)
  are_notes true new = (notes_fit _ _ _ (grown new.form) are.heads.notes).0 (new.room refl)
  are_notes false new = are.heads.notes

  below_after : (installation : Bool) → IsNewProfile heads installation profile.head None
      → AllByRecursion (λ head. head.number < heads.next_number + cond installation 1 0) more
  below_after installation new =
      let last : (b : Bool) → installation ≡ b → profile.head.number < heads.next_number + cond b 1 0
      = λ b. elim b as (λ b. installation ≡ b → profile.head.number < heads.next_number + cond b 1 0) [
        | true ↦ λ is. omega (arith, new.next is)
        | false ↦ λ is. omega (arith, new.before is)
      ]
      in
      each_append (λ head. head.number < heads.next_number + cond installation 1 0) heads.profiles (profile.head ∷ [])
      (each_weaker (λ head. head.number < heads.next_number) (λ head. head.number < heads.next_number + cond installation 1 0)
      (λ head lt. omega (arith, lt)) heads.profiles are.heads.profiles.below)
      (last installation refl, tt)

  -- the port stands apart
  without_port : (installation : Bool) (port : Option ℕ) → IsNewProfile heads installation profile.head port → IsNewProfile heads installation profile.head None
  without_port installation port new = record {
    few = new.few;
    form = new.form;
    new = new.new;
    iccid = new.iccid;
    next = new.next;
    before = new.before;
    free = tt;
    room = new.room;
  }

  fits_profile : (installation : Bool) (port : Option ℕ)
      → FitsCard durable (records.PutProfile installation profile port) ↔ TakesRecord durable (records.PutProfile installation profile port)
  fits_profile installation port = (
    λ fits.
        let profiles = fits.after.heads.profiles in
        let form : IsHead profile.head = (each_right IsHead heads.profiles (profile.head ∷ []) profiles.each).0 in
        let below : profile.head.number < heads.next_number + cond installation 1 0 =
        (each_right (λ head. head.number < heads.next_number + cond installation 1 0) heads.profiles (profile.head ∷ []) profiles.below).0 in
        record {
          heads = record {
            few = omega (arith, profiles.few, length_push heads.profiles profile.head);
            form = form;
            new = fits.place.new;
            iccid = two_last (λ one other. one.iccid ≢ other.iccid) heads.profiles profile.head profiles.iccids;
            next = fits.place.next;
            before = λ is.
                let k : ◌≡◌ {A = ℕ} (cond installation 1 0) 0 = ap (λ (b : Bool). cond b 1 0) is in
                omega (arith, below, k);
            free = free_place port fits.place.free fits.after.heads.ports;
            room = λ is. (notes_fit _ _ _ (grown form) are.heads.notes).1
                (subst (λ (b : Bool). AreNotes (notes_after b)) is fits.after.heads.notes);
          };
          content = (each_right IsValid durable.contents (profile.content ∷ []) fits.after.contents.valid).0;
        },
    λ takes.
        let new = takes.heads in
        let alone = without_port installation port new in
        record {
          place = record { new = new.new; next = new.next; free = is_free port new.free };
          after = record {
            heads = record {
              profiles = record {
                few = omega (arith, new.few, length_push heads.profiles profile.head);
                each = each_append IsHead heads.profiles (profile.head ∷ []) are.heads.profiles.each (new.form, tt);
                below = below_after installation alone;
                numbers = two_push (λ one other. one.number ≢ other.number) heads.profiles profile.head are.heads.profiles.numbers
                    (each_not (λ head. head.number ≡ profile.head.number) heads.profiles new.new);
                iccids = two_push (λ one other. one.iccid ≢ other.iccid) heads.profiles profile.head are.heads.profiles.iccids new.iccid;
              };
              ports = ports_after port new.new new.free;
              notes = are_notes installation alone;
            };
            contents = record {
              pairs = omega (arith, length_push durable.contents profile.content, length_push heads.profiles profile.head, are.contents.pairs);
              valid = each_append IsValid durable.contents (profile.content ∷ []) are.contents.valid (takes.content, tt);
            };
          };
        },
  )

module _ (durable : Durable) (are : IsDurable durable) where
  -- the same heads and another valid content
  after_change : (o : Option Content) (change : Change) → IsSomeAnd o (λ content. Fits content change) → IsSomeAnd o (λ content. IsValid (changed content change))
  after_change None change there = absurd there
  after_change (Some content) change there = there.after

  fits_change : (profile : ℕ) (change : Change) → FitsCard durable (records.Content profile change) ↔ TakesRecord durable (records.Content profile change)
  fits_change profile change = (
    λ fits. record { heads = tt; content = fits.place },
    λ takes. record {
      place = takes.content;
      after = record {
        heads = are.heads;
        contents = record {
          pairs = pairs_with profile (λ content. changed content change) durable.heads.profiles durable.contents are.contents.pairs;
          valid = valid_with profile (λ content. changed content change) durable.heads.profiles durable.contents are.contents.pairs are.heads.profiles.numbers
              (after_change (content_at profile durable.heads.profiles durable.contents) change takes.content) are.contents.valid;
        };
      };
    },
  )

  abbrev same_contents : Heads → Durable
  same_contents heads = record { heads = heads; contents = durable.contents }

  fits_binding : (profile port : ℕ) (displaced : Option ℕ) → FitsCard durable (records.Bind profile port displaced) ↔ TakesRecord durable (records.Bind profile port displaced)
  fits_binding profile port displaced =
      let held = durable.heads in
      let each = are.heads.profiles.each in
      let its = head_of profile held.profiles in
      let other = option_and_then (λ number. head_of number held.profiles) displaced in
      let first = noted_where Disable other held.notes in
      let grows = grows_then (count_where Disable other) (count_where Enable its) held.notes first (noted_where Enable its first)
      (grows_where Disable other held.notes (displaced_is displaced held.profiles each))
      (grows_where Enable its first (head_is profile held.profiles each)) in
      let notes = notes_fit _ _ _ grows are.heads.notes in (
        λ fits. record {
          heads = record {
            held = fits.place.held;
            nowhere = fits.place.nowhere;
            there = fits.place.there;
            place = fits.after.heads.ports.rule.places profile port (set_there held.ports.on port (Some profile) displaced fits.place.there);
            room = notes.1 fits.after.heads.notes;
          };
          content = tt;
        },
        λ takes.
            let binding = takes.heads in
            record {
              place = record { held = binding.held; nowhere = binding.nowhere; there = binding.there };
              after = record {
                heads = record {
                  profiles = are.heads.profiles;
                  ports = bound_are held.profiles held.profiles held.ports profile port are.heads.ports (λ number is. is) binding.held binding.nowhere binding.place;
                  notes = notes.0 binding.room;
                };
                contents = record { pairs = are.contents.pairs; valid = are.contents.valid };
              };
            },
      )

  fits_unbinding : (profile : ℕ) → FitsCard durable (records.Unbind profile) ↔ TakesRecord durable (records.Unbind profile)
  fits_unbinding profile =
      let held = durable.heads in
      let its = head_of profile held.profiles in
      let notes = notes_fit _ _ _ (grows_where Disable its held.notes (head_is profile held.profiles are.heads.profiles.each)) are.heads.notes in (
        λ fits. record {
          heads = record { held = fits.place.held; bound = fits.place.bound; room = notes.1 fits.after.heads.notes };
          content = tt;
        },
        λ takes. record {
          place = record { held = takes.heads.held; bound = takes.heads.bound };
          after = record {
            heads = record {
              profiles = are.heads.profiles;
              ports = unbound_are held.profiles held.ports profile are.heads.ports;
              notes = notes.0 takes.heads.room;
            };
            contents = record { pairs = are.contents.pairs; valid = are.contents.valid };
          };
        },
      )

  ports_left : (numbers : List ℕ) → ArePorts (filter (λ head. not (is_among numbers head.number)) durable.heads.profiles) (unbound_each numbers durable.heads.ports)
  ports_left numbers =
      let held = durable.heads in
      let same = each_count numbers held.ports in
      record {
        some = rw (same.0, same.1) are.heads.ports.some;
        few = rw same.0 are.heads.ports.few;
        rule = each_rule numbers held.ports are.heads.ports.rule;
        held = λ another port stands.
            let stood = were_on numbers held.ports another port stands in
            left_held numbers another held.profiles stood.1 (are.heads.ports.held another port stood.0);
      }

  fits_going : (numbers : List ℕ) → FitsCard durable (records.Gone numbers) ↔ TakesRecord durable (records.Gone numbers)
  fits_going numbers =
      let held = durable.heads in
      let notes = notes_fit _ _ _ (grows_numbers Delete numbers held.profiles held.notes are.heads.profiles.each) are.heads.notes in (
        λ fits. record {
          heads = record { differ = fits.place.differ; held = fits.place.held; room = notes.1 fits.after.heads.notes };
          content = tt;
        },
        λ takes. record {
          place = record { differ = takes.heads.differ; held = takes.heads.held };
          after = record {
            heads = record {
              profiles = left_are numbers held.next_number held.profiles are.heads.profiles;
              ports = ports_left numbers;
              notes = notes.0 takes.heads.room;
            };
            contents = record {
              pairs = pairs_left numbers held.profiles durable.contents are.contents.pairs;
              valid = valid_left numbers held.profiles durable.contents are.contents.valid;
            };
          };
        },
      )

  fits_name : (profile : ℕ) (nickname : List ℕ) → FitsCard durable (records.Name profile nickname) ↔ TakesRecord durable (records.Name profile nickname)
  fits_name profile nickname =
      let held = durable.heads in (
        λ fits. record {
          heads = (fits.place, nickname_few profile nickname held.profiles fits.place fits.after.heads.profiles.each);
          content = tt;
        },
        λ takes. record {
          place = takes.heads.0;
          after = record {
            heads = record {
              profiles = named_are profile nickname held.next_number held.profiles takes.heads.1 are.heads.profiles;
              ports = record {
                some = are.heads.ports.some;
                few = are.heads.ports.few;
                rule = are.heads.ports.rule;
                held = λ another port stands. named_held profile nickname another held.profiles (are.heads.ports.held another port stands);
              };
              notes = are.heads.notes;
            };
            contents = record {
              pairs = omega (arith, are.contents.pairs, length-map held.profiles (named profile nickname));
              valid = are.contents.valid;
            };
          };
        },
      )

  fits_note : (number : ℕ) → FitsCard durable (records.NoteGone number) ↔ TakesRecord durable (records.NoteGone number)
  fits_note number = (
    λ fits. record { heads = tt; content = tt },
    λ takes. record {
      place = tt;
      after = record {
        heads = record { profiles = are.heads.profiles; ports = are.heads.ports; notes = notes_less number durable.heads.notes are.heads.notes };
        contents = record { pairs = are.contents.pairs; valid = are.contents.valid };
      };
    },
  )

pub fits_where : (durable : Durable) (entry : Record) → IsDurable durable → FitsCard durable entry ↔ TakesRecord durable entry
fits_where durable (records.PutCard mode ports eid next_number next_note notes) are = fits_card durable mode ports eid next_number next_note notes
fits_where durable (records.PutProfile installation profile port) are = fits_profile durable are profile installation port
fits_where durable (records.Content profile change) are = fits_change durable are profile change
fits_where durable (records.Bind profile port displaced) are = fits_binding durable are profile port displaced
fits_where durable (records.Unbind profile) are = fits_unbinding durable are profile
fits_where durable (records.Gone numbers) are = fits_going durable are numbers
fits_where durable (records.Name profile nickname) are = fits_name durable are profile nickname
fits_where durable (records.NoteGone number) are = fits_note durable are number

-- a card begins with the record of a new one
pub begun : (mode : PortMode) (ports : ℕ) (eid : List ℕ) (next_number next_note : ℕ) (notes : List Note) (held : Durable)
    → held ≡ new_card mode ports eid next_number next_note notes → IsCard mode ports next_note notes
    → IsBegun (records.PutCard mode ports eid next_number next_note notes) held
begun mode ports eid next_number next_note notes held is card = record {
  begins = card;
  after = λ before. is;
  valid = subst IsDurable (sym is)
      ((fits_card held mode ports eid next_number next_note notes).1 (record { heads = card; content = tt })).after;
}
