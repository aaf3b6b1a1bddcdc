use Rattle.std.proofs.Common.{sym, ◌∙◌}
use Rattle.std.proofs.lemmas.Bool.{false≢true}
use Rattle.file_rows.specs.Content.{IsAtHome, heads_of}
use Rattle.file_rows.specs.PinRow.{IsPin}
use Rattle.file_rows.proofs.EachLemmas.{each_both, fails}
use Rattle.file_rows.proofs.PinsLemmas.{apart_of, pins_of_parts}
use Rattle.file_rows.proofs.pins.are_pins.Goals as goal

pub returns-then-are_formed : goal.returns-then-are_formed
returns-then-are_formed c = (
  λ e. pins_of_parts (heads_of c.args.rows.now) c.args.pins.now (c.are_formed.ensures.0 c.if-are_formed.true) (c.are_apart.ensures.0 e),
  λ are. c.are_apart.ensures.1 (apart_of (heads_of c.args.rows.now) c.args.pins.now are),
)

pub returns-else-are_formed : goal.returns-else-are_formed
returns-else-are_formed c =
    fails c.are_formed.result c.if-are_formed.false
    (λ are. false≢true (sym c.if-are_formed.false
    ∙ c.are_formed.ensures.1 (each_both IsPin (IsAtHome (heads_of c.args.rows.now)) c.args.pins.now are.each are.homes)))
