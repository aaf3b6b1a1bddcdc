use Rattle.std.proofs.Common.{List, ℕ, length, nat_eq, ◌∙◌, sym, ap, arith, eqb-true}
use Rattle.std.proofs.lemmas.Bool.{false≢true}
use Rattle.std.proofs.lemmas.List.{nil_from_length}
use Rattle.std.proofs.lemmas.Result.{err_from_is_err_and}
use Rattle.record_codec.proofs.RecordTakes.{found, nothing_left, refused}
use Rattle.record_codec.proofs.reading.whole_of.Goals as goal

pub returns-in_err-entry-clause-refused : goal.returns-in_err-entry-clause-refused
returns-in_err-entry-clause-refused c =
    let p = err_from_is_err_and c.from_residual.result c.from_residual.ensures.1 in
    rw (p.1, p.2) (refused c.args.bytes.now c.in_err-entry.field-0.0 c.in_err-entry.ensures)

pub returns-then-not-is_empty-clause-refused : goal.returns-then-not-is_empty-clause-refused
returns-then-not-is_empty-clause-refused c = λ is entry codes.
    let none = nothing_left c.args.bytes.now entry codes c.in_ok-entry.entry c.in_ok-entry.rest.now c.in_ok-entry.ensures in
    false≢true (sym c.if-not-is_empty.true ∙ c.is_empty.ensures ∙ ap (λ (r : List ℕ). nat_eq (length r) 0) none)

pub returns-clause-found : goal.returns-clause-found
returns-clause-found c =
    found c.args.bytes.now c.in_ok-entry.entry c.in_ok-entry.rest.now (λ i. omega (arith, c.type_inv.bytes i)) c.in_ok-entry.ensures
    (nil_from_length c.in_ok-entry.rest.now (eqb-true (length c.in_ok-entry.rest.now) 0 (sym c.is_empty.ensures ∙ c.if-not-is_empty.false)))
