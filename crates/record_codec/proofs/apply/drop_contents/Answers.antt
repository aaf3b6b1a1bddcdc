use Rattle.std.proofs.Common.{◌≡◌, ◌+◌, ◌++◌, ◌∙◌, ℕ, List, Bool, cond, take, drop, ap}
use Rattle.record_codec.specs.Gone.{is_among}
use Rattle.record_codec.proofs.DropLemmas.{pass_one}
use Rattle.record_codec.proofs.apply.drop_contents.Goals as goal

pub loop-head-preserved : goal.loop-head-preserved
loop-head-preserved g c =
    let now = c.loop-head.contents.items in
    let place = c.loop-head.place in
    let head = c.head-item.result in
    let goes : c.is_among-goes.result ≡ is_among c.args.numbers.now head.number =
    c.is_among-goes.ensures ∙ ap (λ (ns : List ℕ). is_among ns head.number) c.as_slice.ensures.value in
    let one = pass_one c.args.numbers.now c.args.profiles.now c.args.contents.now.items c.loop-head.head-index head c.loop-head-test.true c.requires c.head-item.is
    now place c.loop-head.invariant.so_far c.loop-head.invariant.place in
    record {
      so_far = c.pass_content-place.ensures.items ∙ ap (λ (b : Bool). cond b (take place now ++ drop (place + 1) now) now) goes ∙ one.0;
      place = c.pass_content-place.ensures.next ∙ ap (λ (b : Bool). cond b place (place + 1)) goes ∙ one.1;
      room = c.pass_content-place.ensures.room ∙ c.loop-head.invariant.room;
    }
