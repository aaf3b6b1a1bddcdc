use Rattle.std.proofs.Common.{◌≡◌, ◌↔◌, ℕ, ◌-◌, Bool, true, false, not, IsTrue, Option, Some, None}
use Rattle.std.proofs.Common.{is_none, is_some, IfSome, refl, subst, sym}
use Rattle.flash_pages.specs.Bytes.{IsErased}
use Rattle.card_journal.proofs.OpenLemmas.{erased_where}
use Rattle.card_journal.proofs.blank.is_erased.Goals as goal

none_is : (o : Option ℕ) (b : Bool) → is_some o ≡ not b → b ≡ is_none o
none_is None true is = refl
none_is None false is = absurd (cc)
none_is (Some x) true is = absurd (cc)
none_is (Some x) false is = refl

pub returns-clause-erased : goal.returns-clause-erased
returns-clause-erased g c =
    let start = g.F.Flash.state c.args.flash.now in
    subst (λ (b : Bool). IfSome start.bytes (λ image. IsTrue b ↔ IsErased c.args.from (c.args.to - c.args.from) image))
    (sym (none_is c.in_ok-first_used.field-0 c.is_none.result c.is_none.ensures))
    (erased_where start c.args.from c.args.to c.in_ok-first_used.field-0 c.in_ok-first_used.ensures.first)
