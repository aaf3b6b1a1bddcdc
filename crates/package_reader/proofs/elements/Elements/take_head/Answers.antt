use Rattle.std.proofs.Common.{ℕ, List, Option, subst, inr, ap, ◌∙◌}
use Rattle.package_reader.specs.ReaderState.{ReaderState}
use Rattle.package_reader.specs.NextHead.{MayBecomeHead, SpellsNone}
use Rattle.package_reader.proofs.elements.Elements.take_head.Goals as goal

pub returns-in-Wanting : goal.returns-in-Wanting
returns-in-Wanting c =
    let may = subst (λ (u : List ℕ). MayBecomeHead c.left.result u) c.unread.ensures c.in-Wanting.ensures in
    record {
      unended = c.requires.unended;
      wants = inr (c.requires.head, subst (λ (l : Option ℕ). MayBecomeHead l c.args.self.now.unread) c.left.ensures may);
      stays = c.show_nothing.ensures;
    }

pub returns-in-Broken : goal.returns-in-Broken
returns-in-Broken c =
    let none = subst (λ (u : List ℕ). SpellsNone c.left.result u) c.unread.ensures c.in-Broken.ensures in
    record {
      awaited = record { unended = c.requires.unended; value = c.requires.head };
      here = c.place.ensures ∙ ap (λ (s : ReaderState). s.place) c.show_nothing-in-Broken.ensures;
      none = subst (λ (l : Option ℕ). SpellsNone l c.args.self.now.unread) c.left.ensures none;
      stays = c.show_nothing-in-Broken.ensures;
    }
