use Rattle.std.proofs.Common.{◌≡◌, Bool, true, false, List, [], ◌∷◌, Option, Some, None, refl}
use Rattle.std.specs.List.{AllByRecursion}
use Rattle.std.specs.Option.{option_or}
use Rattle.apdu_codec.specs.declared.status.Sw.{Sw}
use Rattle.apdu_codec.specs.declared.status.TheConstants.Sw.{CHANNEL_NOT_SUPPORTED}
use Rattle.apdu_codec.specs.declared.status.TheConstants.Sw.{INCOMPATIBLE_STRUCTURE, WRONG_CLASS}
use Rattle.apdu_codec.specs.declared.status.TheConstants.Sw.{WRONG_LENGTH, WRONG_P1_P2}
use Rattle.plain_lists.specs.FirstOf.{first_of}
use Rattle.uicc_channels.specs.Needs.{Needs, refusals, refused_unless}

or_none : {A : Type 0} (o : Option A) → option_or o None ≡ o
or_none None = refl
or_none (Some x) = refl

-- the needs up to the parameters, where the channel is open and the card knows the instruction
pub record IsKnown (needs : Needs) : Type 0 where
  pub channel : needs.channel ≡ true
  pub instruction : needs.instruction ≡ true

pub class_refused : (needs : Needs) → IsKnown needs → needs.class ≡ false → first_of (refusals needs) ≡ Some WRONG_CLASS
class_refused needs known class = rw (known.channel, known.instruction, class) refl

pub parameters_refused : (needs : Needs) → IsKnown needs → needs.class ≡ true → needs.parameters ≡ false → first_of (refusals needs) ≡ Some WRONG_P1_P2
parameters_refused needs known class parameters = rw (known.channel, known.instruction, class, parameters) refl

pub lengths_refused : (needs : Needs) → IsKnown needs → needs.class ≡ true → needs.parameters ≡ true → needs.lengths ≡ false → first_of (refusals needs) ≡ Some WRONG_LENGTH
lengths_refused needs known class parameters lengths = rw (known.channel, known.instruction, class, parameters, lengths) refl

-- the needs up to the lengths are met
pub record IsWellFormed (needs : Needs) : Type 0 where
  pub known : IsKnown needs
  pub class : needs.class ≡ true
  pub parameters : needs.parameters ≡ true
  pub lengths : needs.lengths ≡ true

pub file_refused : (needs : Needs) (sw : Sw) → IsWellFormed needs → needs.template ≡ None → needs.file ≡ Some sw → first_of (refusals needs) ≡ Some sw
file_refused needs sw form template file =
    rw (form.known.channel, form.known.instruction, form.class, form.parameters, form.lengths, template, file) refl

-- the file is there, and no more is asked of it
pub record IsReady (needs : Needs) : Type 0 where
  pub form : IsWellFormed needs
  pub template : needs.template ≡ None
  pub file : needs.file ≡ None
  pub kind : needs.kind ≡ true
  pub life : needs.life ≡ None
  pub description : needs.description ≡ None
  pub access : needs.access ≡ true

pub own_decides : (needs : Needs) → IsReady needs → first_of (refusals needs) ≡ needs.own
own_decides needs ready =
    rw (ready.form.known.channel, ready.form.known.instruction, ready.form.class, ready.form.parameters, ready.form.lengths, ready.template, ready.file, ready.kind, ready.life, ready.description, ready.access) (or_none needs.own)

pub first_none : (one rest : Option Sw) → option_or one rest ≡ None → one ≡ None
first_none None rest e = refl
first_none (Some sw) rest e = e

pub rest_none : (one rest : Option Sw) → option_or one rest ≡ None → rest ≡ None
rest_none None rest e = e
rest_none (Some sw) rest e = absurd (cc)

pub is_met : (met : Bool) (sw : Sw) → refused_unless met sw ≡ None → met ≡ true
is_met true sw e = refl
is_met false sw e = absurd (cc)

-- what is met where nothing refuses
pub record AllMet (needs : Needs) : Type 0 where
  pub channel : needs.channel ≡ true
  pub parameters : needs.parameters ≡ true
  pub lengths : needs.lengths ≡ true
  pub kind : needs.kind ≡ true
  pub own : needs.own ≡ None

all_none : (xs : List (Option Sw)) → first_of xs ≡ None → AllByRecursion (λ x. x ≡ None) xs
all_none [] e = tt
all_none (x ∷ xs) e = (first_none x (first_of xs) e, all_none xs (rest_none x (first_of xs) e))

pub all_met : (needs : Needs) → first_of (refusals needs) ≡ None → AllMet needs
all_met needs e =
    let each = all_none (refusals needs) e in
    record {
      channel = is_met needs.channel CHANNEL_NOT_SUPPORTED each.0;
      parameters = is_met needs.parameters WRONG_P1_P2 each.1.1.1.0;
      lengths = is_met needs.lengths WRONG_LENGTH each.1.1.1.1.0;
      kind = is_met needs.kind INCOMPATIBLE_STRUCTURE each.1.1.1.1.1.1.1.0;
      own = each.1.1.1.1.1.1.1.1.1.1.1.0;
    }
