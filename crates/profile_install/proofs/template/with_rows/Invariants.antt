use Rattle.std.proofs.Common.{◌≡◌, ◌-◌}
use Rattle.profile_install.specs.Template.{with_rows}
use Rattle.profile_install.proofs.template.with_rows.Given as goal

abbrev pub invariant-loop-position : goal.invariant-loop-position
invariant-loop-position l =
    with_rows l.template l.position (l.upto - l.position) l.draft
    ≡ with_rows l.template l.from (l.upto - l.from) l.initial.draft
