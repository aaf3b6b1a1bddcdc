-- The numbers of the faults.
use Rattle.std.specs.Prelude.{ℕ}
use Rattle.ber_tlv.specs.declared.fault.TlvFault.{TlvFault}
use Rattle.ber_tlv.specs.declared.fault.TlvFault.TheVariants.{Short, BadTag, BadLength}

abbrev pub number_of : TlvFault → ℕ
number_of Short = 1
number_of BadTag = 2
number_of BadLength = 3
