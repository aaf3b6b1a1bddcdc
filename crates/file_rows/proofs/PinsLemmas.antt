use Rattle.std.proofs.Common.{◌≢◌, List}
use Rattle.std.specs.List.{AllByRecursion}
use Rattle.plain_lists.specs.EachTwo.{EachTwo}
use Rattle.file_rows.specs.Apart.{ArePinsApart}
use Rattle.file_rows.specs.Content.{ArePins, IsAtHome}
use Rattle.file_rows.specs.PinRow.{IsPin, ShareKey}
use Rattle.file_rows.specs.declared.head.FileHead.{FileHead}
use Rattle.file_rows.specs.declared.pin.PinRow.{PinRow}
use Rattle.file_rows.proofs.EachLemmas.{each_weaker, two_both, two_weaker}

-- the parts of what PINs are
pub pins_of_parts : (heads : List FileHead) (pins : List PinRow) → AllByRecursion (λ pin. IsPin pin × IsAtHome heads pin) pins → EachTwo ArePinsApart pins → ArePins heads pins
pins_of_parts heads pins formed apart = record {
  each = each_weaker (λ pin. IsPin pin × IsAtHome heads pin) IsPin (λ pin both. both.0) pins formed;
  homes = each_weaker (λ pin. IsPin pin × IsAtHome heads pin) (IsAtHome heads) (λ pin both. both.1) pins formed;
  numbers = two_weaker ArePinsApart (λ one other. one.number ≢ other.number) (λ one other both. both.number) pins apart;
  keys = two_weaker ArePinsApart (λ one other. ShareKey one other → ⊥) (λ one other both. both.key) pins apart;
}

pub apart_of : (heads : List FileHead) (pins : List PinRow) → ArePins heads pins → EachTwo ArePinsApart pins
apart_of heads pins are =
    let Numbers : PinRow → PinRow → Type 0 = λ one other. one.number ≢ other.number in
    let Keys : PinRow → PinRow → Type 0 = λ one other. ShareKey one other → ⊥ in
    two_weaker (λ one other. Numbers one other × Keys one other) ArePinsApart (λ one other both. record { number = both.0; key = both.1 }) pins
    (two_both Numbers Keys pins are.numbers are.keys)
