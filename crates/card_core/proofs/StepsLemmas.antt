-- The steps of a run, one after another.
use Rattle.std.proofs.Common.{◌≡◌, Bool, false, List, [], ◌∷◌, ◌++◌, refl, ◌∙◌, ap, subst}
use Rattle.std.proofs.lemmas.List.{flat_map_more}
use Rattle.std.specs.List.{AllByRecursion, flat_map}
use Rattle.file_rows.proofs.ListLemmas.{each_append}
use Rattle.record_codec.specs.IsDurable.{IsDurable}
use Rattle.card_core.specs.Statements.{Makes}
use Rattle.card_core.specs.Stepped.{AreSteps, Happens, NotFailed, Stepped}
use Rattle.card_core.specs.World.{Made, WorldState}
use Rattle.card_core.specs.declared.entry.Entry.{Entry}
use Rattle.card_core.specs.declared.event.Event.{Event}

-- one more step at the end
pub steps_one_more : (state : WorldState) (events : List Event) (steps : List Stepped)
    (now : WorldState) (event : Event) (failed : Bool) (made : Made)
    → AreSteps state events steps now → Happens failed now event made
    → AreSteps state (events ++ event ∷ []) (steps ++ record {
      before = now;
      event = event;
      failed = failed;
      made = made;
    } ∷ []) made.state
steps_one_more state [] steps now event failed made are happens = (
  failed,
  made,
  [],
  subst (λ (its : WorldState). Happens failed its event made) are.1 happens,
  (refl, refl),
  ap (λ (its : List Stepped). its ++ record {
    before = now;
    event = event;
    failed = failed;
    made = made;
  } ∷ []) are.0
      ∙ ap (λ (its : WorldState). record {
        before = its;
        event = event;
        failed = failed;
        made = made;
      } ∷ []) are.1,
)
steps_one_more state (first ∷ events) steps now event failed made are happens = (
  are.0,
  are.1,
  are.2 ++ record { before = now; event = event; failed = failed; made = made } ∷ [],
  are.3,
  steps_one_more are.1.state events are.2 now event failed made are.4 happens,
  ap (λ (its : List Stepped). its ++ record {
    before = now;
    event = event;
    failed = failed;
    made = made;
  } ∷ []) are.5,
)

-- the steps of a run so far, in which nothing failed, beside its log
pub record SoFarIn (start : WorldState) (events : List Event) (entries : List Entry)
    (now : WorldState) : Type 0 where
  pub steps : List Stepped
  pub came : AreSteps start events steps now
  pub made : AllByRecursion NotFailed steps
  pub lines : entries ≡ flat_map (λ step. step.made.entries) steps
  pub durable : AllByRecursion (λ step. IsDurable step.made.state.durable) steps

pub none_so_far : (start : WorldState) → SoFarIn start [] [] start
none_so_far start = record {
  steps = [];
  came = (refl, refl);
  made = tt;
  lines = refl;
  durable = tt;
}

pub one_more_so_far : (start : WorldState) (events : List Event) (entries : List Entry)
    (now : WorldState) (event : Event) (made : Made) → SoFarIn start events entries now
    → Makes now event made → IsDurable made.state.durable
    → SoFarIn start (events ++ event ∷ []) (entries ++ made.entries) made.state
one_more_so_far start events entries now event made so makes are =
    let step : Stepped =
    record { before = now; event = event; failed = false; made = made } in
    record {
      steps = so.steps ++ step ∷ [];
      came = steps_one_more start events so.steps now event false made so.came makes;
      made = each_append NotFailed so.steps (step ∷ []) so.made (refl, tt);
      lines = ap (λ (its : List Entry). its ++ made.entries) so.lines
          ∙ flat_map_more (λ its. its.made.entries) [] so.steps step;
      durable = each_append (λ its. IsDurable its.made.state.durable) so.steps
          (step ∷ []) so.durable (are, tt);
    }
