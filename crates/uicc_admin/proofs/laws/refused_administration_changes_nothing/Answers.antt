use Rattle.std.proofs.Common.{refl}
use Rattle.uicc_admin.proofs.laws.refused_administration_changes_nothing.Goals as goal

pub returns : goal.returns
returns c rows allowed session command sw refusal = rw refusal refl
