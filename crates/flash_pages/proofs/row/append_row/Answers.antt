use Rattle.std.proofs.Common.{◌≡◌, ◌+◌, ◌∙◌, ap, sym, List, ℕ, Some, length, refl, rules}
use Rattle.flash_pages.specs.Bytes.{part, patch}
use Rattle.flash_pages.specs.Rows.{behind_gate}
use Rattle.flash_pages.proofs.Touched.{at_some, from_each, known_before, same_some}
use Rattle.flash_pages.proofs.Appended.{IsGated, torn_first, appends_first, torn_both}
use Rattle.flash_pages.proofs.Appended.{appends_failed, appends_done, row_fits, gate_erased}
use Rattle.flash_pages.proofs.Appended.{rest_erased, rows_after}
use Rattle.flash_pages.proofs.row.append_row.Goals as goal

pub program_behind_gate-requires-clause-erased : goal.program_behind_gate-requires-clause-erased
program_behind_gate-requires-clause-erased g c =
    let len = length (g.B.Body.bytes c.args.body.now) in
    from_each _ _
    (λ before is. rest_erased before c.args.at len (at_some _ _ before is c.requires.erased))

pub program-requires-clause-erased : goal.program-requires-clause-erased
program-requires-clause-erased g c =
    let body = g.B.Body.bytes c.args.body.now in
    let first = c.program_behind_gate.ensures in
    from_each _ _ (λ now is_now.
    let was = known_before _ _ first.touches.time now is_now in
    let now_is : now ≡ patch was.0 (c.args.at + 1) (behind_gate body) =
    same_some _ _
    (sym is_now ∙ at_some _ _ was.0 was.1 c.in_ok-program_behind_gate.ensures.done) in
    let fits =
    row_fits was.0 c.args.at (length body) c.args.bank (g.met.F.Flash.lawful c.args.flash.now)
    was.1 c.requires.fits c.requires.bank in
    ap (part c.args.at 1) now_is
    ∙ gate_erased was.0 c.args.at body fits (at_some _ _ was.0 was.1 c.requires.erased))

pub returns-in_err-program_behind_gate : goal.returns-in_err-program_behind_gate
returns-in_err-program_behind_gate g c =
    let body = g.B.Body.bytes c.args.body.now in
    let first = c.program_behind_gate.ensures in
    let answer = c.from_residual.result in
    let torn = torn_first _ _ c.args.at body first.touches in
    let appends =
    appends_first _ _ c.args.at body first.touches answer c.from_residual.ensures.0 first.erased in
    record {
      next = search rules;
      appends = appends;
      torn = torn;
      rows = rows_after 2433 _ _ c.args.bank c.args.at body answer
          (g.met.F.Flash.lawful c.args.flash.now) c.requires.place.from_start c.requires.fits
          c.requires.bank torn appends;
      cause = search rules;
    }

pub returns-in_err-program : goal.returns-in_err-program
returns-in_err-program g c =
    let body = g.B.Body.bytes c.args.body.now in
    let first = c.program_behind_gate.ensures in
    let answer = c.from_residual-in_err-program in
    let gated : IsGated 2433 _ _ _ c.args.at body _ =
    record {
      lawful = g.met.F.Flash.lawful c.program.new.self;
      first = first.touches;
      content = c.in_ok-program_behind_gate.ensures.done;
      gate = c.program.ensures.changes;
      early = first.erased;
      late = c.program.ensures.erased;
    } in
    let torn = torn_both 2433 _ _ _ c.args.at body _ gated in
    let appends = appends_failed 2433 _ _ _ c.args.at body _ gated answer.result answer.ensures.0 in
    record {
      next = search rules;
      appends = appends;
      torn = torn;
      rows = rows_after 2433 _ _ c.args.bank c.args.at body answer.result
          (g.met.F.Flash.lawful c.args.flash.now) c.requires.place.from_start c.requires.fits
          c.requires.bank torn appends;
      cause = search rules;
    }

pub returns : goal.returns
returns g c =
    let body = g.B.Body.bytes c.args.body.now in
    let old = g.F.Flash.state c.args.flash.now in
    let first = c.program_behind_gate.ensures in
    let fits = λ (before : List ℕ) (is : old.bytes ≡ Some before).
    row_fits before c.args.at (length body) c.args.bank (g.met.F.Flash.lawful c.args.flash.now) is
    c.requires.fits c.requires.bank in
    let gated : IsGated 2433 _ _ _ c.args.at body _ =
    record {
      lawful = g.met.F.Flash.lawful c.program.new.self;
      first = first.touches;
      content = c.in_ok-program_behind_gate.ensures.done;
      gate = c.in_ok-program.ensures.changes;
      early = first.erased;
      late = c.program.ensures.erased;
    } in
    let torn = torn_both 2433 _ _ _ c.args.at body _ gated in
    let appends = appends_done 2433 _ _ _ c.args.at body _ gated _ refl fits in
    record {
      next = search rules;
      appends = appends;
      torn = torn;
      rows = rows_after 2433 _ _ c.args.bank c.args.at body _
          (g.met.F.Flash.lawful c.args.flash.now) c.requires.place.from_start c.requires.fits
          c.requires.bank torn appends;
      cause = search rules;
    }
