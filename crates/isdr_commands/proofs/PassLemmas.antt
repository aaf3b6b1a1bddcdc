-- What has a record passed each refusal before it.
use Rattle.std.proofs.Common.{◌≡◌, ◌+◌, inl, inr, ℕ, Bool, true, false, cond, not, nat_eq, Option}
use Rattle.std.proofs.Common.{Some, None, refl, length, eqb-true}
use Rattle.std.specs.Prelude.{nat_le, ◌&&◌, ◌||◌, is_some}
use Rattle.std.proofs.lemmas.Bool.{leb-true}
use Rattle.isdr_commands.specs.Decision.{at_profile, refused_with}
use Rattle.isdr_commands.specs.Profiles.{lacks_room}
use Rattle.isdr_commands.specs.declared.decision.Decision.{Decision}
use Rattle.notify_list.specs.Notes.{HasNoteRoom, NoteList}
use Rattle.record_codec.specs.declared.profile.ProfileHead.{ProfileHead}
use Rattle.record_codec.specs.declared.record.Record.{Record}

-- a test that didn't refuse
pub past : (P : Decision → Type 0) (entry : Record) (tag result : ℕ) (goes : Decision) (test : Bool)
    → (test ≡ false → goes.entry ≡ Some entry → P goes)
    → (cond test (refused_with tag result) goes).entry ≡ Some entry
    → P (cond test (refused_with tag result) goes)
past P entry tag result goes true then e = absurd cc
past P entry tag result goes false then e = then refl e

-- a profile that was found
pub past_profile : (P : Decision → Type 0) (entry : Record) (tag : ℕ)
    (goes : ProfileHead → Decision) (found : Option ProfileHead)
    → ((head : ProfileHead) → found ≡ Some head → (goes head).entry ≡ Some entry → P (goes head))
    → (at_profile tag found goes).entry ≡ Some entry → P (at_profile tag found goes)
past_profile P entry tag goes None then e = absurd cc
past_profile P entry tag goes (Some head) then e = then head refl e

pub none_there : {X : Type 0} (o : Option X) → is_some o ≡ false → o ≡ None
none_there None e = refl
none_there (Some x) e = absurd cc

module _ (notes : NoteList) (more : ℕ) where
  room_of : (few none numbered : Bool) → nat_le (length notes.list + more) 256 ≡ few → nat_eq more 0
      ≡ none → nat_le (notes.next + more) (4294967295 + 1) ≡ numbered
      → not (few && (none || numbered)) ≡ false → HasNoteRoom notes more
  room_of true true numbered few none last e = record {
    pending = leb-true (length notes.list + more) 256 few;
    numbers = inl (eqb-true more 0 none);
  }
  room_of true false true few none last e = record {
    pending = leb-true (length notes.list + more) 256 few;
    numbers = inr (leb-true (notes.next + more) (4294967295 + 1) last);
  }
  room_of true false false few none last e = absurd cc
  room_of false none numbered few is last e = absurd cc

  -- room that isn't lacking
  pub has_room : lacks_room notes more ≡ false → HasNoteRoom notes more
  has_room e =
      room_of (nat_le (length notes.list + more) 256) (nat_eq more 0)
      (nat_le (notes.next + more) (4294967295 + 1)) refl refl refl e
