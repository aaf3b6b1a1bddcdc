use Rattle.std.proofs.Common.{◌≡◌, ◌+◌, ◌∙◌, length, take, subst, refl, arith, ℕ, Some, IfSome}
use Rattle.std.proofs.lemmas.List.{length-take-le}
use Rattle.flash_pages.specs.Bytes.{patch}
use Rattle.flash_pages.specs.Rows.{behind_gate}
use Rattle.flash_pages.proofs.Pieces.{next_piece, next_erased, next_touches, next_content}
use Rattle.flash_pages.proofs.row.program_behind_gate.Goals as goal

pub program-requires-clause-erased : goal.program-requires-clause-erased
program-requires-clause-erased g c =
    let body = g.B.Body.bytes c.args.body.now in
    let was = c.pieces.invariant in
    let n = c.piece_len-n.ensures in
    let piece =
    next_piece 2433 _ _ c.args.place c.pieces.done c.piece_len-n.result body c.pieces.buffer
    c.fill_behind_gate.new.out (g.met.F.Flash.lawful c.args.flash.now) c.requires.fits
    (omega (arith, n.at_most))
    (omega (arith, n.within, c.len-len.ensures)) c.fill_behind_gate.auto.out
    c.fill_behind_gate.ensures was.touches was.content in
    next_erased 2433 _ _ _ _ _ _ _ piece c.requires.erased

pub returns-in_err-program-clause-touches : goal.returns-in_err-program-clause-touches
returns-in_err-program-clause-touches g c =
    let body = g.B.Body.bytes c.args.body.now in
    let was = c.pieces.invariant in
    let n = c.piece_len-n.ensures in
    let piece =
    next_piece 2433 _ _ c.args.place c.pieces.done c.piece_len-n.result body c.pieces.buffer
    c.fill_behind_gate.new.out (g.met.F.Flash.lawful c.args.flash.now) c.requires.fits
    (omega (arith, n.at_most))
    (omega (arith, n.within, c.len-len.ensures)) c.fill_behind_gate.auto.out
    c.fill_behind_gate.ensures was.touches was.content in
    next_touches 2433 _ _ _ _ _ _ _ piece _ _ (g.met.F.Flash.lawful c.program.new.self)
    c.program.ensures.changes

pub pieces-preserved : goal.pieces-preserved
pieces-preserved g c =
    let body = g.B.Body.bytes c.args.body.now in
    let old = g.F.Flash.state c.args.flash.now in
    let now = g.F.Flash.state c.program.new.self in
    let was = c.pieces.invariant in
    let n = c.piece_len-n.ensures in
    let piece =
    next_piece 2433 _ _ c.args.place c.pieces.done c.piece_len-n.result body c.pieces.buffer
    c.fill_behind_gate.new.out (g.met.F.Flash.lawful c.args.flash.now) c.requires.fits
    (omega (arith, n.at_most))
    (omega (arith, n.within, c.len-len.ensures)) c.fill_behind_gate.auto.out
    c.fill_behind_gate.ensures was.touches was.content in
    let lawful = g.met.F.Flash.lawful c.program.new.self in
    let taken : length (take c.piece_len-n.result c.pieces.buffer) ≡ c.piece_len-n.result =
    length-take-le c.piece_len-n.result c.pieces.buffer (omega (arith, n.at_most)) in
    let Content : ℕ → Type 0 =
    λ k. IfSome old.bytes (λ before. now.bytes
    ≡ Some (patch before c.args.place (take (c.pieces.done + k) (behind_gate body)))) in
    record {
      within = omega (arith, n.within, c.len-len.ensures);
      touches = next_touches 2433 _ _ _ _ _ _ _ piece _ _ lawful c.program.ensures.changes;
      content = subst Content (c.fill_behind_gate.auto.out ∙ taken)
          (next_content 2433 _ _ _ _ _ _ _ piece _ _ lawful c.in_ok-program.ensures.changes refl);
      erased = c.program.ensures.erased ∙ was.erased;
    }
