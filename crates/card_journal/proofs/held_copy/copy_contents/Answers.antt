use Rattle.std.proofs.Common.{◌≡◌, refl, sym, ◌∙◌, ap, subst, length, slice_get, List}
use Rattle.std.proofs.Common.{[], ◌∷◌, ◌++◌, Some}
use Rattle.std.proofs.lemmas.Option.{slice_get_read}
use Rattle.file_rows.specs.declared.content.Content.{Content}
use Rattle.record_codec.specs.Heads.{held_content}
use Rattle.record_codec.specs.declared.profile.ProfileHead.{ProfileHead}
use Rattle.card_journal.proofs.HeldCopyLemmas.{copied_next}
use Rattle.card_journal.proofs.held_copy.copy_contents.Goals as goal

pub loop-head-preserved : goal.loop-head-preserved
loop-head-preserved g c =
    let at = subst (λ (profiles : List ProfileHead). slice_get profiles c.loop-head.head-index ≡ Some c.head-item.result) c.requires.all
    (slice_get_read c.args.profiles.now (length c.args.profiles.now) c.loop-head.head-index c.head-item.result refl c.loop-head-test.true c.head-item.is) in
    let is = subst (λ store. held_content c.head-item.result.number (g.St.CardStore.state store).held ≡ Some c.in_ok-load.field-0)
    c.loop-head.invariant.0 c.in_ok-load.ensures.loaded in
    let next = copied_next (g.St.CardStore.state c.args.store.now).held c.loop-head.head-index c.head-item.result c.in_ok-load.field-0
    (g.met.St.CardStore.valid c.args.store.now c.requires.open) at is in (
      c.load.ensures.same ∙ c.loop-head.invariant.0,
      c.in_ok-push.ensures.items ∙ ap (λ (l : List Content). l ++ (c.in_ok-load.field-0 ∷ [])) c.loop-head.invariant.1 ∙ sym next,
    )
