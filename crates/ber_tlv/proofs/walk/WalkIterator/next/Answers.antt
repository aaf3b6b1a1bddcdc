use Rattle.std.proofs.Common.{◌≡◌, length, ap, arith, refl}
use Rattle.std.proofs.lemmas.Bool.Decides.{nat_tests}
use Rattle.ber_tlv.proofs.walk.WalkIterator.next.Goals as goal

pub returns-in-Err-clause-steps : goal.returns-in-Err-clause-steps
returns-in-Err-clause-steps c =
    rw (← c.self.view_is)
    (λ e. let none : length c.self.inside.rest.now ≡ 0 = ap length e in grind (arith, nat_tests), (c.in-Err.ensures.refused c.in-Err.fault).0 refl, refl)
