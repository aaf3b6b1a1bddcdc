use Rattle.std.proofs.Common.{List, ℕ, length, nat_eq, ◌∙◌, sym, ap, arith, eqb-true}
use Rattle.std.proofs.lemmas.Bool.{false≢true}
use Rattle.std.proofs.lemmas.List.{nil_from_length}
use Rattle.record_codec.specs.FileWrite.{record_of_write}
use Rattle.record_codec.proofs.ReadLemmas.{is_not_a_record}
use Rattle.record_codec.proofs.RecordTakes.{found, is_read, nothing_left}
use Rattle.record_codec.proofs.file_write.read_file_write.Goals as goal

pub returns-in_default-clause-none : goal.returns-in_default-clause-none
returns-in_default-clause-none c = λ entry writes codes.
    c.in_default.ensures.none (is_not_a_record c.in_default.field-0 c.in_default.ensures.known)
    entry _ writes (is_read c.args.bytes.now entry codes)

pub returns-then-not-is_empty-clause-none : goal.returns-then-not-is_empty-clause-none
returns-then-not-is_empty-clause-none c = λ entry writes codes.
    let none = nothing_left c.args.bytes.now entry codes (record_of_write c.in-Ok.write) c.in-Ok.rest.now c.in-Ok.ensures.read in
    false≢true (sym c.if-not-is_empty.true ∙ c.is_empty.ensures ∙ ap (λ (r : List ℕ). nat_eq (length r) 0) none)

pub returns-clause-found : goal.returns-clause-found
returns-clause-found c =
    found c.args.bytes.now (record_of_write c.in-Ok.write) c.in-Ok.rest.now (λ i. omega (arith, c.type_inv.bytes i)) c.in-Ok.ensures.read
    (nil_from_length c.in-Ok.rest.now (eqb-true (length c.in-Ok.rest.now) 0 (sym c.is_empty.ensures ∙ c.if-not-is_empty.false)))
