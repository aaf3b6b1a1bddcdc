use Rattle.std.proofs.Common.{◌≡◌, ◌↔◌, ◌≤◌, ℕ, sym, ap, subst, ◌∙◌, Option, Ok, Err}
use Rattle.port_table.proofs.TargetLemmas.{lowest, none_free}
use Rattle.port_table.specs.Target.{HasNoProfile, target_in}
use Rattle.port_table.specs.declared.port_mode.PortMode.{PortMode}
use Rattle.port_table.specs.declared.target.TargetFault.TheVariants.{NoneFree}
use Rattle.port_table.proofs.laws.targets_are_ports_of_profiles.Goals as goal

pub returns-clause-lowest : goal.returns-clause-lowest
returns-clause-lowest c = λ ports came port given mode is.
    lowest ports port (sym (ap (λ (m : PortMode). target_in m ports came given) mode) ∙ is)

pub returns-clause-none_free : goal.returns-clause-none_free
returns-clause-none_free c = λ ports came given mode.
    subst (λ r. (r ≡ Err NoneFree) ↔ ((port : ℕ) → 1 ≤ port → HasNoProfile ports port → ⊥)) (sym (ap (λ (m : PortMode). target_in m ports came given) mode)) (none_free ports)
