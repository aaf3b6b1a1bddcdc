-- Reading a template finds what its bytes say.
use Rattle.std.proofs.Common.{◌≡◌, ◌≢◌, ℕ, Bool, true, false, ◌&&◌, List, length, refl, Option}
use Rattle.std.proofs.Common.{Some, None}
use Rattle.std.proofs.lemmas.Bool.Decides.{Decides-eqb}
use Rattle.std.specs.Prelude.{◌==◌}
use Rattle.ber_tlv.specs.Objects.{object_at}
use Rattle.ber_tlv.specs.Walk.{Object}
use Rattle.file_rows.proofs.PathLemmas.{is_false}
use Rattle.fcp_codec.specs.Reading.{fields_in}
use Rattle.uicc_admin.specs.Template.{fcp_in}

module _ (body : List ℕ) where
  -- a template with nothing behind it is what the body says
  pub template_read : (object : Object) (behind : List ℕ) → object_at body ≡ Some (record { found = object; behind = behind }) → object.tag ≡ 0x62 → length behind ≡ 0
      → fields_in object.value ≡ fcp_in body
  template_read object behind at tag none = rw (at, tag, none) refl

  -- another object isn't, and neither is a template with more behind it
  pub other_read : (object : Object) (behind : List ℕ) → object_at body ≡ Some (record { found = object; behind = behind })
      → ((object.tag == 0x62) && (length behind == 0)) ≡ false → None ≡ fcp_in body
  other_read object behind at other = rw (at, other) refl

  pub nothing_read : object_at body ≡ None → None ≡ fcp_in body
  nothing_read at = rw at refl

pub not_that : (n m : ℕ) → n ≢ m → (n == m) ≡ false
not_that n m apart = is_false (n == m) (λ e. apart ((Decides-eqb n m).0 e))

pub false_left : (one other : Bool) → one ≡ false → (one && other) ≡ false
false_left one other e = rw e refl

pub false_right : (one other : Bool) → other ≡ false → (one && other) ≡ false
false_right true other e = e
false_right false other e = refl
