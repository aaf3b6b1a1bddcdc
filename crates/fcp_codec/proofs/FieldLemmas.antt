-- The fields that are read of a value are those that stand in it.
use Rattle.std.proofs.Common.{◌≡◌, ℕ, Bool, true, false, cond, not, ◌&&◌, List, [], ◌∷◌, ◌++◌, refl}
use Rattle.std.proofs.Common.{sym, ap, Option, Some, None, Err, Ok}
use Rattle.std.proofs.lemmas.Bool.{true≢false}
use Rattle.std.specs.Option.{option_and_then}
use Rattle.std.specs.Prelude.{Result}
use Rattle.ber_tlv.proofs.ObjectLemmas.{objects_fill, objects_filled, of_some}
use Rattle.ber_tlv.specs.Objects.{objects_of}
use Rattle.ber_tlv.specs.Walk.{LeadWith, Object}
use Rattle.fcp_codec.specs.Reading.{NoneIsBad, ReadsAsFcp, ReadsFcp, are_good, fcp_if_good, fcp_of}
use Rattle.fcp_codec.specs.Reading.{fields_in, is_bad}
use Rattle.fcp_codec.specs.declared.fault.FcpFault.{FcpFault}
use Rattle.fcp_codec.specs.declared.fcp.Fcp.{Fcp}

-- the test says what the list of objects is
good_of : (before objects : List Object) → NoneIsBad before objects → are_good before objects ≡ true
good_of before [] none = refl
good_of before (object ∷ objects) none = rw (none.0, good_of (before ++ object ∷ []) objects none.1) refl

split : (one other : Bool) → (not one && other) ≡ true → (one ≡ false) × (other ≡ true)
split true other e = absurd (true≢false (sym e))
split false other e = (refl, e)

of_good : (before objects : List Object) → are_good before objects ≡ true → NoneIsBad before objects
of_good before [] e = tt
of_good before (object ∷ objects) e =
    let parts = split (is_bad before object) (are_good (before ++ object ∷ []) objects) e in
    (parts.0, of_good (before ++ object ∷ []) objects parts.1)

-- what is read is in the value
pub fields_read : (value : List ℕ) (fcp : Fcp) → ReadsAsFcp value fcp → Some fcp ≡ fields_in value
fields_read value fcp reads = rw (objects_filled value reads.objects reads.whole, good_of [] reads.objects reads.good) (ap (λ (f : Fcp). Some f) reads.says)

good_fields : (objects : List Object) (b : Bool) → are_good [] objects ≡ b → (fcp : Fcp) → cond b (Some (fcp_of objects)) None ≡ Some fcp → (are_good [] objects ≡ true) × (fcp ≡ fcp_of objects)
good_fields objects true is fcp e = (is, cc)
good_fields objects false is fcp e = absurd (cc)

-- what is in the value is read
reads_fields : (value : List ℕ) (found : Option (List Object)) → objects_of value ≡ found → (fcp : Fcp) → option_and_then fcp_if_good found ≡ Some fcp → ReadsAsFcp value fcp
reads_fields value None is fcp e = absurd (cc)
reads_fields value (Some objects) is fcp e =
    let good = good_fields objects (are_good [] objects) refl fcp e in
    record {
      objects = objects;
      whole = of_some (λ objects. LeadWith value objects []) (objects_of value) objects (objects_fill value) is;
      good = of_good [] objects good.0;
      says = good.1;
    }

-- where nothing is read there is none
pub no_fields : (value : List ℕ) (fault : FcpFault) → ((other : Result Fcp FcpFault) → ReadsFcp value other → Err fault ≡ other) → None ≡ fields_in value
no_fields value fault only = either (fields_in value) refl
  where
    either : (o : Option Fcp) → fields_in value ≡ o → None ≡ o
    either None e = refl
    either (Some fcp) e =
        let other : Err fault ≡ Ok fcp = only (Ok fcp) (reads_fields value (objects_of value) refl fcp e) in
        absurd (cc)
