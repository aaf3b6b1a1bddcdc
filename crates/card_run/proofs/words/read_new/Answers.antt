use Rattle.std.proofs.Common.{◌≡◌, ◌∙◌, List, ℕ, ap, map, sym, string_bytes, Option, MatchOption}
use Rattle.card_run.proofs.WordsLemmas.{new_words, of_eight}
use Rattle.card_run.specs.Words.{AreSpelled, IsImageName}
use Rattle.card_run.specs.declared.words.NewCard.{NewCard}
use Rattle.card_run.proofs.words.read_new.Goals as goal

pub returns-in-len8 : goal.returns-in-len8
returns-in-len8 c =
    let are = of_eight c.args.words.now c.form-item.result c.image-item.result c.mode_option-item.result c.mode-item.result
    c.ports_option-item.result c.ports-item.result c.eid_option-item.result c.eid-item.result c.in-len8.len_at_least c.in-len8.len_below
    c.form-item.is c.image-item.is c.mode_option-item.is c.mode-item.is c.ports_option-item.is c.ports-item.is c.eid_option-item.is c.eid-item.is in
    let form = c.is.ensures.0 c.if-is.true in
    let name = c.is_image_name.ensures.0 c.if-is_image_name.true in
    let mode_option = c.is-then-is_image_name.ensures.0 c.if-is-2.true in
    let ports_option = c.is-then-is-2.ensures.0 c.if-is-3.true in
    let eid_option = c.is-then-is-3.ensures.0 c.if-is-4.true in
    let words = ap (map string_bytes) are in
    new_words (map string_bytes c.args.words.now) (string_bytes c.image-item.result) (string_bytes c.mode-item.result)
    (string_bytes c.ports-item.result) (string_bytes c.eid-item.result) (rw (form, mode_option, ports_option, eid_option) at words)
    (rw c.deref.ensures at name) c.read_card.result
    (rw (c.deref-in-len8.ensures, c.deref-in-len8-2.ensures, c.deref-in-len8-3.ensures) at c.read_card.ensures)
