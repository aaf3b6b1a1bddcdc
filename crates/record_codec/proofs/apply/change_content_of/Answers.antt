use Rattle.std.proofs.Common.{◌≡◌, ◌∙◌, set, Option, sym, subst, arith}
use Rattle.std.specs.Prelude.{IsSomeAnd, slice_get}
use Rattle.file_rows.specs.Change.{Fits, changed}
use Rattle.file_rows.specs.Content.{IsValid}
use Rattle.file_rows.specs.declared.content.Content.{Content}
use Rattle.file_rows.proofs.EditLemmas.{some_is}
use Rattle.record_codec.specs.Room.{KeepsChange}
use Rattle.record_codec.proofs.HeldLemmas.{content_none, content_there, contents_there}
use Rattle.record_codec.proofs.HeldLemmas.{place_within}
use Rattle.record_codec.proofs.apply.change_content_of.Goals as goal

pub change_content_at-requires : goal.change_content_at-requires
change_content_at-requires c =
    let profiles = c.args.profiles.now in
    let found = c.in-Some.ensures.found in
    record {
      within = omega (arith, place_within c.args.profile c.in-Some.place profiles found, c.requires.pairs);
      takes = subst (λ (o : Option Content). IsSomeAnd o (λ its. IsValid its × Fits its c.args.change.now × KeepsChange its c.args.change.now c.args.kept))
          (content_there c.args.profile c.in-Some.place profiles c.args.contents.now c.requires.pairs c.requires.numbers found) c.requires.takes;
    }

pub returns-in-Some : goal.returns-in-Some
returns-in-Some c =
    let contents = c.args.contents.now in
    let place = c.in-Some.place in
    let change : Content → Content = λ its. changed its c.args.change.now in
    let there = some_is (slice_get contents place) (λ its. c.change_content_at.new.contents ≡ set contents place (change its)) c.change_content_at.ensures in
    there.2 ∙ sym (contents_there c.args.profile change place c.args.profiles.now contents there.0 c.requires.pairs c.requires.numbers c.in-Some.ensures.found there.1)

pub returns-in-None : goal.returns-in-None
returns-in-None c =
    absurd
    (subst (λ (o : Option Content). IsSomeAnd o (λ its. IsValid its × Fits its c.args.change.now × KeepsChange its c.args.change.now c.args.kept))
    (content_none c.args.profile c.args.profiles.now c.args.contents.now c.in-None.ensures.none) c.requires.takes)
