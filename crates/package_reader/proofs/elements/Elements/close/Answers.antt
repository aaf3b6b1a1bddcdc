use Rattle.std.proofs.Common.{ap, subst, sym}
use Rattle.package_reader.specs.ReaderState.{IsAtClose}
use Rattle.package_reader.specs.Fields.{reader_state_of}
use Rattle.package_reader.proofs.Ends.{closes}
use Rattle.package_reader.proofs.Handing.{none_shown}
use Rattle.package_reader.proofs.elements.Elements.close.Goals as goal

pub returns : goal.returns
returns c =
    let at : IsAtClose (reader_state_of c.self.inside) = subst IsAtClose (sym c.self.view_is) c.requires in
    rw (← c.self.view_is)
    (record {
      ends = closes c.self.inside.ends.items c.pop.new.self.items c.pop.result _ c.self.inside.read c.pop.ensures.items c.pop.ensures.rest c.pop.ensures.variant at;
      rest = ap (λ s. record (reader_state_of c.self.inside) { ends = c.pop.new.self.items; shown = s }) (none_shown c.self.inside.read _);
    })
