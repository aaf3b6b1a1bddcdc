use Rattle.std.proofs.Common.{true, refl, subst, sym}
use Rattle.record_codec.specs.declared.durable.Durable.{Durable}
use Rattle.card_core.specs.EndDecision.{DecidesEnd}
use Rattle.card_core.specs.Load.{EndsLoad}
use Rattle.card_core.specs.declared.entry.Loading.TheVariants.{Done}
use Rattle.card_core.proofs.installing.end_load.Goals as goal

pub returns-in-InstallsNothing-clause-end : goal.returns-in-InstallsNothing-clause-end
returns-in-InstallsNothing-clause-end c =
    let decides =
    subst (DecidesEnd c.args.durable.now.heads c.args.load) c.in-InstallsNothing.is
    c.in_ok-outcome.ensures.decides in
    decides.ends c.args.durable.now c.args.commit refl

pub returns-in_ok-store-in-Installs-clause-end : goal.returns-in_ok-store-in-Installs-clause-end
returns-in_ok-store-in-Installs-clause-end c =
    let decides =
    subst (DecidesEnd c.args.durable.now.heads c.args.load) c.in-Installs.is
    c.in_ok-outcome.ensures.decides in
    subst (λ (its : Durable). EndsLoad c.args.durable.now c.args.commit c.args.load (record {
      durable = its;
      recorded = true;
      outcome = Done c.in-Installs.profile c.args.commit;
    })) (sym c.in_ok-store-in-Installs.ensures.ok)
    (decides.ends c.args.durable.now c.args.commit refl)
