use Rattle.std.proofs.Common.{Option, false, ap}
use Rattle.std.specs.Prelude.{option_map, unwrap_or}
use Rattle.file_rows.specs.declared.pin.PinRow.{PinRow}
use Rattle.access_rules.specs.Met.{counts}
use Rattle.access_rules.proofs.laws.met_by_the_nearest_pin.Goals as goal

pub returns : goal.returns
returns c = λ pins others verified directory key same.
    ap (λ (o : Option PinRow). unwrap_or (option_map (counts verified) o) false) same
