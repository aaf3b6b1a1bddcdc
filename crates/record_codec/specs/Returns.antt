-- What a function returned, seen by view, is what reading gives, unless memory ran out.
use Rattle.std.specs.Prelude.{◌≡◌, Option, Some, None, Result, Ok, Err, ⊤}
use Rattle.record_codec.specs.declared.fault.RecordFault.{RecordFault}
use Rattle.record_codec.specs.declared.fault.RecordFault.TheVariants.{NotARecord, NoMemory}

abbrev pub Fails : {Y : Type 0} → RecordFault → Option Y → Type 0
Fails NotARecord read = read ≡ None
Fails NoMemory read = ⊤

abbrev pub Returns : {X Y : Type 0} → (X → Y) → Result X RecordFault → Option Y → Type 0
Returns view (Ok x) read = read ≡ Some (view x)
Returns view (Err fault) read = Fails fault read
