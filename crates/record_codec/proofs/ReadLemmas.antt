-- What is read of bytes.
use Rattle.std.proofs.Common.{◌≡◌, ◌⊎◌, ℕ, List, Result, Ok, Err, refl, ap, inl, inr}
use Rattle.std.specs.Prelude.{IfOk, IsErrOf}
use Rattle.record_codec.specs.Sizes.{Codes}
use Rattle.record_codec.specs.declared.fault.RecordFault.{RecordFault}
use Rattle.record_codec.specs.declared.fault.RecordFault.TheVariants.{NotARecord, NoMemory}
use Rattle.record_codec.specs.declared.record.Record.{Record}
use Rattle.record_codec.proofs.AgainLemmas.{one_record}

-- bytes that are a coding give just that record, and other bytes none
module _ (bytes : List ℕ) where
  pub is_read : (result : Result Record RecordFault) → IfOk result (λ entry. Codes bytes entry) → (result ≡ Err NotARecord → (entry : Record) → Codes bytes entry → ⊥)
      → (entry : Record) → Codes bytes entry → (result ≡ Ok entry) ⊎ (result ≡ Err NoMemory)
  is_read (Ok its) found refused entry codes = inl (ap Ok (one_record bytes its entry found codes))
  is_read (Err NotARecord) found refused entry codes = absurd (refused refl entry codes)
  is_read (Err NoMemory) found refused entry codes = inr refl

  pub is_malformed : (result : Result Record RecordFault) → IfOk result (λ entry. Codes bytes entry) → ((entry : Record) → Codes bytes entry → ⊥)
      → (result ≡ Err NotARecord) ⊎ (result ≡ Err NoMemory)
  is_malformed (Ok its) found none = absurd (none its found)
  is_malformed (Err NotARecord) found none = inl refl
  is_malformed (Err NoMemory) found none = inr refl

-- a refusal that isn't for want of memory
pub is_not_a_record : {X : Type 0} (fault : RecordFault) → (IsErrOf {T = X} (Err fault) NoMemory → ⊥) → IsErrOf {T = X} (Err fault) NotARecord
is_not_a_record NotARecord memory = refl
is_not_a_record NoMemory memory = absurd (memory refl)
