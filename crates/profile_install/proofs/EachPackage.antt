-- Each byte string has its parts, and so an answer.
use Rattle.std.proofs.Common.{◌≡◌, ℕ, zero, suc, ◌≤◌, true, false, List, [], ◌∷◌, refl, ⊎_elim}
use Rattle.std.proofs.Common.{Result, arith}
use Rattle.std.proofs.lemmas.Bool.{cases_Bool}
use Rattle.file_rows.specs.declared.content.Content.{Content}
use Rattle.package_reader.specs.Part.{HandsOut}
use Rattle.package_reader.specs.ReaderState.{ReaderState, fed, fresh_reader}
use Rattle.package_reader.specs.Turn.{GoesBy, Turn}
use Rattle.package_reader.specs.Turn.Turn.{Goes}
use Rattle.package_reader.specs.declared.part.Part.{Part}
use Rattle.package_reader.proofs.EachPart.{each_part}
use Rattle.profile_install.specs.Package.{AllWhole, HasNoPart, PackageGives, after_turns}
use Rattle.profile_install.specs.Package.{fresh_work, is_last, is_used_up, work_outcome}
use Rattle.profile_install.specs.declared.work.Refusal.{Refusal}
use Rattle.profile_install.proofs.Reading.{last_more, left_of, less}

-- all parts from a state on
abbrev pub SomeParts : ReaderState → Type 0
SomeParts old =
    (turns : List Turn) × (last : ReaderState) × GoesBy old turns last × AllWhole turns
    × HasNoPart last

no_part : (old next : ReaderState) (part : Part) → HandsOut old part next → is_last part ≡ true
    → SomeParts old
no_part old next part hands e = ([], old, refl, tt, last_more old next part hands e)

one_part_first : (old next : ReaderState) (part : Part) → HandsOut old part next
    → is_last part ≡ false → SomeParts next → SomeParts old
one_part_first old next part hands e rest = (
  Goes part next.shown ∷ rest.0,
  rest.1,
  (next, hands, refl, rest.2),
  (e, rest.3),
  rest.4,
)

parts_within : (most : ℕ) (old : ReaderState) → left_of old ≤ most → SomeParts old
parts_within zero old few =
    let part = each_part old in
    ⊎_elim (λ e. no_part old part.1 part.0 part.2 e)
    (λ e. let l = less old part.1 part.0 part.2 e in absurd (omega arith))
    (cases_Bool (is_last part.0))
parts_within (suc most) old few =
    let part = each_part old in
    ⊎_elim (λ e. no_part old part.1 part.0 part.2 e)
    (λ e. let l = less old part.1 part.0 part.2 e in one_part_first old part.1 part.0 part.2 e
    (parts_within most part.1 (omega arith)))
    (cases_Bool (is_last part.0))

pub some_answer : (iccid bytes : List ℕ)
    → (answer : Result Content Refusal) × PackageGives iccid bytes answer
some_answer iccid bytes =
    let old = fed fresh_reader bytes in
    let parts = parts_within (left_of old) old (omega arith) in (
      work_outcome (after_turns iccid fresh_work parts.0) (is_used_up parts.1.unread),
      record {
        turns = parts.0;
        last = parts.1;
        parts = record { goes = parts.2; whole = parts.3; ends = parts.4 };
        meant = refl;
      },
    )
