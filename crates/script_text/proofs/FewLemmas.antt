-- How many statements a script has at a port, when one more item follows.
use Rattle.std.proofs.Common.{◌≡◌, ℕ, ◌≤◌, List, [], ◌∷◌, ◌++◌, sym, ap, ◌∙◌, subst, arith, inl}
use Rattle.std.proofs.Common.{inr}
use Rattle.std.specs.List.{AllByRecursion, fold}
use Rattle.std.proofs.lemmas.Bool.{cases_Bool}
use Rattle.std.proofs.lemmas.List.Sums.{fold-append}
use Rattle.card_core.specs.declared.script.Section.{Section}
use Rattle.card_core.specs.declared.script.Statement.{Statement}
use Rattle.script_text.specs.Draft.{HasRoomIfStated, IsFull, OpenScript, empty_script, finished}
use Rattle.script_text.specs.Draft.{open_section, with_item}
use Rattle.script_text.specs.Script.{HasFewStatements, count_at, is_at, script_of}
use Rattle.script_text.specs.Item.{Item}
use Rattle.script_text.specs.Item.Item.{Stated, PhaseEnd, SectionEnd}
use Rattle.script_text.proofs.CutLemmas.{script_of-fold}
use Rattle.script_text.proofs.DraftLemmas.{count_at-phases, count_at-push, none_at, one_at}

-- ---- a fact of each element of a list, and of the last one

pub each_push : {X : Type 0} (P : X → Type 0) (xs : List X) (x : X) → AllByRecursion P xs → P x → AllByRecursion P (xs ++ x ∷ [])
each_push P [] x each last = (last, tt)
each_push P (y ∷ ys) x each last = (each.0, each_push P ys x each.1 last)

pub each_front : {X : Type 0} (P : X → Type 0) (xs : List X) (x : X) → AllByRecursion P (xs ++ x ∷ []) → AllByRecursion P xs
each_front P [] x each = tt
each_front P (y ∷ ys) x each = (each.0, each_front P ys x each.1)

pub each_last : {X : Type 0} (P : X → Type 0) (xs : List X) (x : X) → AllByRecursion P (xs ++ x ∷ []) → P x
each_last P [] x each = each.0
each_last P (y ∷ ys) x each = each_last P ys x each.1

-- ---- one more item

abbrev IsFew : Section → Type 0
IsFew section = (port : ℕ) → count_at port section ≤ 20000

-- within the limit before an item and with room for it is within the limit with it
pub few_with : (its : OpenScript) (item : Item) → HasFewStatements (finished its) → HasRoomIfStated its item
    → HasFewStatements (finished (with_item its item))
few_with its (Stated statement) few room =
    let ended = each_front IsFew its.sections (open_section its) few in
    let last = each_last IsFew its.sections (open_section its) few in
    each_push IsFew its.sections _ ended (λ port.
    let more = count_at-push port its.phases its.statements statement in
    let before = last port in
    elim (cases_Bool (is_at port statement)) [
      | inl is ↦ omega (arith, more, room port is, one_at port statement is)
      | inr fails ↦ omega (arith, more, before, none_at port statement fails)
    ])
few_with its PhaseEnd few room =
    let ended = each_front IsFew its.sections (open_section its) few in
    let last = each_last IsFew its.sections (open_section its) few in
    each_push IsFew its.sections _ ended (λ port.
    let more = count_at-phases port (open_section its).phases [] in
    let before = last port in
    omega arith)
few_with its SectionEnd few room = each_push IsFew (its.sections ++ open_section its ∷ []) _ few (λ port. omega arith)

-- without the last item it is within the limit too
few_without : (its : OpenScript) (item : Item) → HasFewStatements (finished (with_item its item)) → HasFewStatements (finished its)
few_without its (Stated statement) few =
    let ended = each_front IsFew its.sections (open_section (with_item its (Stated statement))) few in
    let last = each_last IsFew its.sections (open_section (with_item its (Stated statement))) few in
    each_push IsFew its.sections _ ended (λ port.
    let more = count_at-push port its.phases its.statements statement in
    let after = last port in
    omega arith)
few_without its PhaseEnd few =
    let ended = each_front IsFew its.sections (open_section (with_item its PhaseEnd)) few in
    let last = each_last IsFew its.sections (open_section (with_item its PhaseEnd)) few in
    each_push IsFew its.sections _ ended (λ port.
    let more = count_at-phases port (open_section its).phases [] in
    let after = last port in
    omega arith)
few_without its SectionEnd few = each_front IsFew (its.sections ++ open_section its ∷ []) _ few

few_before : (its : OpenScript) (items : List Item) → HasFewStatements (finished (fold with_item its items)) → HasFewStatements (finished its)
few_before its [] few = few
few_before its (item ∷ items) few = few_without its item (few_before (with_item its item) items few)

-- a prefix of the items is within the limit where all are
pub few_prefix : (items more : List Item) → HasFewStatements (script_of (items ++ more)) → HasFewStatements (script_of items)
few_prefix items more few =
    let all : script_of (items ++ more) ≡ finished (fold with_item (fold with_item empty_script items) more) =
    script_of-fold (items ++ more) ∙ ap finished (fold-append with_item empty_script items more) in
    subst HasFewStatements (sym (script_of-fold items))
    (few_before (fold with_item empty_script items) more (subst HasFewStatements all few))

-- a statement without room is past the limit
pub many_with : (its : OpenScript) (statement : Statement) → IsFull its statement
    → ¬ HasFewStatements (finished (with_item its (Stated statement)))
many_with its statement full few =
    let last = each_last IsFew its.sections (open_section (with_item its (Stated statement))) few full.0 in
    let more = count_at-push full.0 its.phases its.statements statement in
    let one = one_at full.0 statement full.1 in
    let many = full.2 in
    omega arith
