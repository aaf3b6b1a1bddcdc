use Rattle.profile_install.proofs.Rows.{rows_end, rows_on}
use Rattle.profile_install.proofs.template.with_rows.Goals as goal

pub returns-in-Err : goal.returns-in-Err
returns-in-Err c =
    rows_end c.args.template c.loop-position.position c.args.upto c.loop-position.draft
    c.loop-position-test.true c.in-Err.fault _ c.loop-position.invariant c.in-Err.ensures

pub loop-position-preserved : goal.loop-position-preserved
loop-position-preserved c =
    rows_on c.args.template c.loop-position.position c.args.upto c.loop-position.draft
    c.loop-position-test.true c.in-Ok.made _ c.loop-position.invariant c.in-Ok.ensures
