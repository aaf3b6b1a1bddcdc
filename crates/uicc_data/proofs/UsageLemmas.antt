use Rattle.std.proofs.Common.{◌≡◌, Bool, true, false, List, [], ◌∷◌, ℕ, Option, Some, None}
use Rattle.std.specs.Option.{option_or}
use Rattle.std.specs.Prelude.{is_some}
use Rattle.apdu_codec.specs.Command.{Apdu}
use Rattle.apdu_codec.specs.Ins.{class_fits}
use Rattle.apdu_codec.specs.declared.status.Sw.{Sw}
use Rattle.apdu_codec.specs.declared.status.TheConstants.Sw.{INCOMPATIBLE_STRUCTURE}
use Rattle.apdu_codec.specs.declared.status.TheConstants.Sw.{SECURITY_NOT_SATISFIED, WRONG_CLASS}
use Rattle.apdu_codec.specs.declared.status.TheConstants.Sw.{WRONG_LENGTH, WRONG_P1_P2}
use Rattle.file_rows.specs.declared.mode.Mode.{Mode}
use Rattle.file_rows.specs.declared.row.FileRow.{FileRow}
use Rattle.plain_lists.specs.FirstOf.{first_of}
use Rattle.uicc_channels.proofs.NeedsLemmas.{IsKnown, IsWellFormed}
use Rattle.uicc_channels.specs.CommandRow.{refusal_of}
use Rattle.uicc_channels.specs.Life.{life_refusal}
use Rattle.uicc_channels.specs.Needs.{Needs, refusals, refused_unless}
use Rattle.uicc_channels.specs.Session.{open_channel}
use Rattle.uicc_channels.specs.Shape.{shape_refusal}
use Rattle.uicc_channels.specs.declared.session.Session.{Session}
use Rattle.uicc_data.specs.FileReference.{file_named, not_there}
use Rattle.uicc_data.specs.FileUse.{FileUse, on_file, on_named, use_refusal, where_named}
use Rattle.uicc_data.specs.declared.reference.FileReference.{FileReference}

-- what refuses by the shape refuses whatever else is asked
first_by_shape : (class parameters lengths : Bool) (rest : Option Sw) (sw : Sw)
    → first_of (refused_unless class WRONG_CLASS ∷ refused_unless parameters WRONG_P1_P2 ∷ refused_unless lengths WRONG_LENGTH ∷ []) ≡ Some sw
    → option_or (refused_unless class WRONG_CLASS) (option_or (refused_unless parameters WRONG_P1_P2) (option_or (refused_unless lengths WRONG_LENGTH) rest)) ≡ Some sw
first_by_shape false parameters lengths rest sw e = e
first_by_shape true false lengths rest sw e = e
first_by_shape true true false rest sw e = e
first_by_shape true true true rest sw e = absurd (cc)

pub shape_refused : (needs : Needs) (c : Apdu) (sw : Sw) → IsKnown needs → needs.class ≡ class_fits c.ins c.class → shape_refusal c needs.parameters needs.lengths ≡ Some sw
    → first_of (refusals needs) ≡ Some sw
shape_refused needs c sw known class e =
    rw (known.channel, known.instruction, class) (first_by_shape (class_fits c.ins c.class) needs.parameters needs.lengths _ sw e)

-- what refuses the file refuses whatever the command asks beside
first_by_use : (kind : Bool) (life : Option Sw) (allowed : Bool) (rest : Option Sw) (sw : Sw)
    → first_of (refused_unless kind INCOMPATIBLE_STRUCTURE ∷ life ∷ refused_unless allowed SECURITY_NOT_SATISFIED ∷ []) ≡ Some sw
    → option_or (refused_unless kind INCOMPATIBLE_STRUCTURE) (option_or life (option_or (refused_unless allowed SECURITY_NOT_SATISFIED) rest)) ≡ Some sw
first_by_use false life allowed rest sw e = e
first_by_use true None false rest sw e = e
first_by_use true None true rest sw e = absurd (cc)
first_by_use true (Some other) allowed rest sw e = e

-- the needs up to the lengths are met, and none are of a template or a description
pub record IsShaped (needs : Needs) : Type 0 where
  pub form : IsWellFormed needs
  pub template : needs.template ≡ None
  pub file : needs.file ≡ None
  pub description : needs.description ≡ None

module _ {X : Type 0} (rows : List FileRow) (allowed : List ℕ → Mode → Bool) (session : Session) (c : Apdu) (needs : Needs) (file : X → FileReference) (usage : X → FileRow → FileUse) where
  -- a command is refused by its shape whatever its file is
  on_file_refused : (x : X) (sw : Sw) → IsKnown needs → needs.class ≡ class_fits c.ins c.class → shape_refusal c needs.parameters needs.lengths ≡ Some sw → (found : Option FileRow)
      → refusal_of (on_file needs session allowed (not_there (file x)) (usage x) found) ≡ Some sw
  on_file_refused x sw known class e None = shape_refused (record needs { file = Some (not_there (file x)) }) c sw (record { channel = known.channel; instruction = known.instruction }) class e
  on_file_refused x sw known class e (Some row) =
      shape_refused (on_file needs session allowed (not_there (file x)) (usage x) (Some row)).needs c sw (record { channel = known.channel; instruction = known.instruction }) class e

  pub named_refused : (place : Option X) (sw : Sw) → IsKnown needs → needs.class ≡ class_fits c.ins c.class → needs.parameters ≡ true → shape_refusal c (is_some place) needs.lengths ≡ Some sw
      → refusal_of (where_named needs session (λ x. on_named rows allowed session c needs (file x) (usage x)) place) ≡ Some sw
  named_refused None sw known class parameters e = shape_refused (record needs { parameters = false }) c sw (record { channel = known.channel; instruction = known.instruction }) class e
  named_refused (Some x) sw known class parameters e =
      on_file_refused x sw known class (rw parameters e) (file_named rows (open_channel session c.channel) (file x))

  -- a command is refused by the file that it names
  pub usable_refused : (place : Option X) (x : X) (row : FileRow) (sw : Sw) → place ≡ Some x → IsShaped needs → file_named rows (open_channel session c.channel) (file x) ≡ Some row
      → use_refusal (usage x row).kind row.head.life (allowed row.head.path (usage x row).mode) ≡ Some sw
      → refusal_of (where_named needs session (λ x. on_named rows allowed session c needs (file x) (usage x)) place) ≡ Some sw
  usable_refused place x row sw named shaped found e =
      rw (named, found, shaped.form.known.channel, shaped.form.known.instruction, shaped.form.class, shaped.form.parameters, shaped.form.lengths, shaped.template, shaped.file, shaped.description)
      (first_by_use (usage x row).kind (life_refusal row.head.life) (allowed row.head.path (usage x row).mode) _ sw e)
