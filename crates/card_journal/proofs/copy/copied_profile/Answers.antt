use Rattle.std.proofs.Common.{◌≡◌, ℕ, List, Option, Some, slice_get, refl, sym, ◌∙◌, ap, subst}
use Rattle.card_journal.proofs.CopyRowLemmas.{copy_at}
use Rattle.file_rows.specs.declared.content.Content.{Content}
use Rattle.port_table.specs.PortOf.{port_of}
use Rattle.record_codec.specs.CopyRecord.{profile_record}
use Rattle.record_codec.specs.Pooled.{pooled_content}
use Rattle.record_codec.specs.declared.durable.Heads.{Heads}
use Rattle.record_codec.specs.declared.profile.ProfileHead.{ProfileHead}
use Rattle.card_journal.proofs.copy.copied_profile.Goals as goal

pub returns : goal.returns
returns c =
    let held = c.args.held.now in
    let head = c.head_at-head.result.now in
    let content = c.content_at-content.result.now in
    let same : c.heads-heads.result.now ≡ held.heads = c.heads-heads.ensures in
    let heads = subst (λ (l : List ProfileHead). slice_get l c.args.place ≡ Some head)
    (c.as_slice.ensures.value ∙ ap (λ (h : Heads). h.profiles) same) c.head_at-head.ensures in
    let contents = subst (λ (l : List Content). slice_get l c.args.place ≡ Some content)
    c.contents.ensures c.content_at-content.ensures in
    let port : port_of head.number held.heads.ports.on ≡ c.port_of.result
    = sym (c.port_of.ensures ∙ ap (λ (h : Heads). port_of head.number h.ports.on) same) in
    let whole : content ≡ pooled_content c.files.result c.pins.result.now
    = rw (c.files.ensures, c.pins.ensures) refl in
    copy_at held.heads.ports.on held.heads.profiles held.contents c.args.place head content heads
    contents
    ∙ ap (λ (p : Option ℕ). Some (profile_record head content p)) port
    ∙ ap (λ (its : Content). Some (profile_record head its c.port_of.result)) whole
