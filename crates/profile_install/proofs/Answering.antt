-- What a builder answers is what the parts of its bytes come to.
use Rattle.std.proofs.Common.{◌≡◌, ℕ, Bool, true, false, List, [], ◌∷◌, refl, sym, ◌∙◌, ap, subst}
use Rattle.std.proofs.Common.{Result, Ok, Err}
use Rattle.std.proofs.lemmas.Bool.{true≢false}
use Rattle.std.specs.Prelude.{◌↔◌, IfOk, IsTrue}
use Rattle.file_rows.specs.Content.{IsValid}
use Rattle.file_rows.specs.declared.content.Content.{Content}
use Rattle.package_reader.specs.ReaderState.{ReaderState, fed, fresh_reader}
use Rattle.package_reader.specs.Turn.{GoesBy}
use Rattle.profile_install.specs.Package.{Answers, IsOutcome, PackageGives, ReadsParts, after_turns}
use Rattle.profile_install.specs.Package.{fresh_work, is_used_up, package_outcome, work_outcome}
use Rattle.profile_install.specs.declared.work.BuildFault.{BuildFault}
use Rattle.profile_install.specs.declared.work.BuildFault.TheVariants.{Element, OutOfMemory}
use Rattle.profile_install.specs.declared.work.Refusal.{Refusal}
use Rattle.profile_install.specs.declared.work.Work.{Work}
use Rattle.profile_install.proofs.GivesValid.{gives_valid}
use Rattle.profile_install.proofs.GoodPins.{AreBytes}

used_up_is : (b : Bool) (xs : List ℕ) → (IsTrue b ↔ (xs ≡ [])) → b ≡ is_used_up xs
used_up_is true [] e = refl
used_up_is true (x ∷ xs) e = absurd (let h : x ∷ xs ≡ [] = e.0 refl in cc)
used_up_is false [] e = absurd (true≢false (sym (e.1 refl)))
used_up_is false (x ∷ xs) e = refl

gives : (iccid bytes : List ℕ) (elements new : ReaderState) (done : Work) (used_up : Bool)
    → elements ≡ fed fresh_reader bytes → ReadsParts iccid elements fresh_work done new
    → (IsTrue used_up ↔ (new.unread ≡ [])) → PackageGives iccid bytes (work_outcome done used_up)
gives iccid bytes elements new done used_up start reads e = record {
  turns = reads.turns;
  last = reads.last;
  parts = record {
    goes = subst (λ (s : ReaderState). GoesBy s reads.turns reads.last) start reads.goes;
    whole = reads.whole;
    ends = reads.ends;
  };
  meant = ap (λ (w : Work). work_outcome w used_up) reads.meant
      ∙ ap (λ (b : Bool). work_outcome (after_turns iccid fresh_work reads.turns) b)
      (used_up_is used_up new.unread e ∙ ap (λ (s : List ℕ). is_used_up s) reads.unread);
}

answers_of : (iccid bytes : List ℕ) (result : Result Content BuildFault)
    (meant : Result Content Refusal)
    → IsOutcome result meant → PackageGives iccid bytes meant → Answers iccid bytes result
answers_of iccid bytes (Ok content) meant is gives = subst
    (λ (r : Result Content Refusal). PackageGives iccid bytes r) is gives
answers_of iccid bytes (Err (Element refusal)) meant is gives = subst
    (λ (r : Result Content Refusal). PackageGives iccid bytes r) is gives
answers_of iccid bytes (Err OutOfMemory) meant is gives = tt

pub answers : (iccid bytes : List ℕ) (elements new : ReaderState) (work done : Work)
    (used_up : Bool) (result : Result Content BuildFault)
    → elements ≡ fed fresh_reader bytes → work ≡ fresh_work
    → ReadsParts iccid elements work done new
    → (IsTrue used_up ↔ (new.unread ≡ []))
    → IsOutcome result (package_outcome done.place done.progress used_up)
    → Answers iccid bytes result
answers iccid bytes elements new work done used_up result start begun reads e is =
    answers_of iccid bytes result (work_outcome done used_up) is
    (gives iccid bytes elements new done used_up start
    (subst (λ (w : Work). ReadsParts iccid elements w done new) begun reads) e)

-- and a content among the answers is valid
pub answers_valid : (iccid bytes : List ℕ) (result : Result Content BuildFault) → AreBytes bytes
    → Answers iccid bytes result → IfOk result (λ content. IsValid content)
answers_valid iccid bytes (Ok content) are gives = gives_valid iccid bytes content are gives
answers_valid iccid bytes (Err fault) are gives = tt
