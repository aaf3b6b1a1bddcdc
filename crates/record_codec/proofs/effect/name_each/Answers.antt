use Rattle.std.proofs.Common.{◌∙◌, List, get_or, set, ap, arith}
use Rattle.std.proofs.lemmas.List.Edits.{map_over_more}
use Rattle.record_codec.specs.Name.{named}
use Rattle.record_codec.specs.declared.profile.ProfileHead.{ProfileHead}
use Rattle.record_codec.proofs.effect.name_each.Goals as goal

pub loop-place-preserved : goal.loop-place-preserved
loop-place-preserved c =
    let now = c.loop-place.profiles in
    let place = c.loop-place.place in
    let head = c.index-as_slice-place.result in
    c.set.ensures
    ∙ ap (λ (after : ProfileHead). set now place after) c.named-head.ensures
    ∙ map_over_more (named c.args.profile c.args.nickname.now) c.args.profiles.now now place head (omega (arith, c.loop-place-test.true, c.len-place-end.ensures.value))
    c.loop-place.invariant
    (c.index-as_slice-place.is ∙ ap (λ (l : List ProfileHead). get_or l place head) c.as_slice.ensures.value)
