-- What the items of a script come to, one after another, is the script that is cut at `power` and `phase`.
use Rattle.std.proofs.Common.{◌≡◌, List, [], ◌∷◌, ◌++◌, map, refl, sym, ap, ◌∙◌, subst}
use Rattle.std.proofs.Common.{append_assoc}
use Rattle.std.specs.List.{slice_split, flat_map, fold}
use Rattle.std.proofs.lemmas.List.{append-nil, map_push, flat_map_more}
use Rattle.card_core.specs.declared.script.Phase.{Phase}
use Rattle.card_core.specs.declared.script.Section.{Section}
use Rattle.card_core.specs.declared.script.Statement.{Statement}
use Rattle.script_text.specs.Draft.{OpenScript, empty_script, finished, open_phase, open_section}
use Rattle.script_text.specs.Draft.{with_item}
use Rattle.script_text.specs.Script.{is_phase_end, is_section_end, phase_of, script_of, section_of}
use Rattle.script_text.specs.Script.{statement_in}
use Rattle.script_text.specs.Item.{Item}
use Rattle.script_text.specs.Item.Item.{Stated, PhaseEnd, SectionEnd}
use Rattle.script_text.proofs.SplitLemmas.{slice_split_push_yes, slice_split_push_no}

-- the items are cut into the sections and phases of a script so far
record IsCut (items : List Item) (its : OpenScript) : Type 0 where
  ended : List (List Item)
  section : List Item
  phases_ended : List (List Item)
  phase : List Item
  sections_cut : slice_split is_section_end items ≡ ended ++ section ∷ []
  phases_cut : slice_split is_phase_end section ≡ phases_ended ++ phase ∷ []
  sections_are : its.sections ≡ map section_of ended
  phases_are : its.phases ≡ map phase_of phases_ended
  statements_are : its.statements ≡ flat_map statement_in phase

IsCut-start : IsCut [] empty_script
IsCut-start = record {
  ended = [];
  section = [];
  phases_ended = [];
  phase = [];
  sections_cut = refl;
  phases_cut = refl;
  sections_are = refl;
  phases_are = refl;
  statements_are = refl;
}

-- the phase that goes on, and the section
open_phase_is : (items : List Item) (its : OpenScript) (cut : IsCut items its) → open_phase its ≡ phase_of cut.phase
open_phase_is items its cut = ap (λ (ss : List Statement). record { statements = ss }) cut.statements_are

phases_are_cut : (items : List Item) (its : OpenScript) (cut : IsCut items its)
    → its.phases ++ open_phase its ∷ [] ≡ map phase_of (cut.phases_ended ++ cut.phase ∷ [])
phases_are_cut items its cut =
    ap (λ (ps : List Phase). ps ++ open_phase its ∷ []) cut.phases_are
    ∙ ap (λ (p : Phase). map phase_of cut.phases_ended ++ p ∷ []) (open_phase_is items its cut)
    ∙ sym (map_push phase_of cut.phases_ended cut.phase)

open_section_is : (items : List Item) (its : OpenScript) (cut : IsCut items its) → open_section its ≡ section_of cut.section
open_section_is items its cut =
    ap (λ (ps : List Phase). record { phases = ps }) (phases_are_cut items its cut ∙ ap (map phase_of) (sym cut.phases_cut))

sections_are_cut : (items : List Item) (its : OpenScript) (cut : IsCut items its)
    → its.sections ++ open_section its ∷ [] ≡ map section_of (cut.ended ++ cut.section ∷ [])
sections_are_cut items its cut =
    ap (λ (ss : List Section). ss ++ open_section its ∷ []) cut.sections_are
    ∙ ap (λ (s : Section). map section_of cut.ended ++ s ∷ []) (open_section_is items its cut)
    ∙ sym (map_push section_of cut.ended cut.section)

-- one more item
IsCut-push : (items : List Item) (its : OpenScript) (item : Item) → IsCut items its → IsCut (items ++ item ∷ []) (with_item its item)
IsCut-push items its (Stated statement) cut = record {
  ended = cut.ended;
  section = cut.section ++ Stated statement ∷ [];
  phases_ended = cut.phases_ended;
  phase = cut.phase ++ Stated statement ∷ [];
  sections_cut = slice_split_push_no is_section_end items (Stated statement) cut.ended cut.section refl cut.sections_cut;
  phases_cut = slice_split_push_no is_phase_end cut.section (Stated statement) cut.phases_ended cut.phase refl cut.phases_cut;
  sections_are = cut.sections_are;
  phases_are = cut.phases_are;
  statements_are =
      ap (λ (ss : List Statement). ss ++ statement ∷ []) cut.statements_are
      ∙ flat_map_more statement_in [] cut.phase (Stated statement);
}
IsCut-push items its PhaseEnd cut = record {
  ended = cut.ended;
  section = cut.section ++ PhaseEnd ∷ [];
  phases_ended = cut.phases_ended ++ cut.phase ∷ [];
  phase = [];
  sections_cut = slice_split_push_no is_section_end items PhaseEnd cut.ended cut.section refl cut.sections_cut;
  phases_cut =
      slice_split_push_yes is_phase_end cut.section PhaseEnd refl
      ∙ ap (λ (parts : List (List Item)). parts ++ [] ∷ []) cut.phases_cut;
  sections_are = cut.sections_are;
  phases_are = phases_are_cut items its cut;
  statements_are = refl;
}
IsCut-push items its SectionEnd cut = record {
  ended = cut.ended ++ cut.section ∷ [];
  section = [];
  phases_ended = [];
  phase = [];
  sections_cut =
      slice_split_push_yes is_section_end items SectionEnd refl
      ∙ ap (λ (parts : List (List Item)). parts ++ [] ∷ []) cut.sections_cut;
  phases_cut = refl;
  sections_are = sections_are_cut items its cut;
  phases_are = refl;
  statements_are = refl;
}

IsCut-more : (items more : List Item) (its : OpenScript) → IsCut items its → IsCut (items ++ more) (fold with_item its more)
IsCut-more items [] its cut = subst (λ (all : List Item). IsCut all its) (sym (append-nil items)) cut
IsCut-more items (item ∷ more) its cut =
    subst (λ (all : List Item). IsCut all (fold with_item (with_item its item) more)) (append_assoc items (item ∷ []) more)
    (IsCut-more (items ++ item ∷ []) more (with_item its item) (IsCut-push items its item cut))

-- the script of some items is what they come to
pub script_of-fold : (items : List Item) → script_of items ≡ finished (fold with_item empty_script items)
script_of-fold items =
    let its = fold with_item empty_script items in
    let cut : IsCut items its = IsCut-more [] items empty_script IsCut-start in
    let whole : map section_of (slice_split is_section_end items) ≡ its.sections ++ open_section its ∷ [] =
    ap (map section_of) cut.sections_cut ∙ sym (sections_are_cut items its cut) in
    ap (λ (ss : List Section). record { sections = ss }) whole
