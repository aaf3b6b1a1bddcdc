use Rattle.std.proofs.Common.{ℕ, List, ◌∙◌, ap}
use Rattle.access_rules.specs.Met.{met}
use Rattle.file_rows.specs.PinRow.{is_verified}
use Rattle.profile_card.proofs.GuardLemmas.{with_record, without_record, without_rule}
use Rattle.profile_card.proofs.guard.allows.Goals as goal

pub returns-in_default : goal.returns-in_default
returns-in_default c =
    without_rule c.args.tree.now c.args.pins.now (is_verified c.args.verified) c.args.node c.args.mode c.requires.files.paths c.requires.live
    c.head-head.result.now c.head-head.ensures c.in_default.is

pub returns-in_default-record_named : goal.returns-in_default-record_named
returns-in_default-record_named c =
    without_record c.args.tree.now c.args.pins.now (is_verified c.args.verified) c.args.node c.args.mode c.requires.files.paths c.requires.live
    c.head-head.result.now c.head-head.ensures c.in-Some.rule c.in-Some.is (rw c.as_slice.ensures.value at c.in_default-record_named.ensures)

pub returns : goal.returns
returns c =
    c.record_allows.ensures
    ∙ with_record c.args.tree.now c.args.pins.now (is_verified c.args.verified) c.args.node c.args.mode c.requires.files.paths c.requires.live
    c.head-head.result.now c.head-head.ensures c.in-Some.rule c.in-Some-record_named.bytes.now _ c.in-Some.is (rw c.as_slice.ensures.value at c.in-Some-record_named.ensures)
    (λ key. c.met_keys.ensures key ∙ ap (λ (directory : List ℕ). met c.args.pins.now (is_verified c.args.verified) directory key) c.key_directory.ensures)
