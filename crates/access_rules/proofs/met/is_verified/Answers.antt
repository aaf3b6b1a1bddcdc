use Rattle.access_rules.proofs.Finding.{unset}
use Rattle.access_rules.proofs.met.is_verified.Goals as goal

pub returns-else-bit-lt32 : goal.returns-else-bit-lt32
returns-else-bit-lt32 c = unset c.args.verified c.args.number _ c.ranges.verified.fits c.saturating_sub-bit.ensures c.if-bit-lt32.false
