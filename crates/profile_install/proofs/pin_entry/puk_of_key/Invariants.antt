use Rattle.std.proofs.Common.{◌≡◌, drop}
use Rattle.std.specs.Prelude.{◌==◌, find}
use Rattle.profile_install.specs.declared.puk_entry.NamedPuk.{NamedPuk}
use Rattle.profile_install.proofs.pin_entry.puk_of_key.Given as goal

abbrev pub invariant-loop-named : goal.invariant-loop-named
invariant-loop-named l =
    find (λ (puk : NamedPuk). puk.key == l.key) (drop l.named-index l.puks)
    ≡ find (λ (puk : NamedPuk). puk.key == l.key) l.puks
