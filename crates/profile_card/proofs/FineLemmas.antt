-- Status words of which none says that a command failed, and rows of instructions that answer with
-- such alone.
use Rattle.std.proofs.Common.{◌≡◌, ◌≢◌, ◌≤◌, ◌<◌, ◌+◌, ◌%◌, ℕ, Bool, true, false, cond, nat_eq}
use Rattle.std.proofs.Common.{List}
use Rattle.std.proofs.Common.{[], ◌∷◌, length, Option, Some, None, IfSome, refl, ◌∙◌, ap, subst}
use Rattle.std.proofs.Common.{arith}
use Rattle.std.proofs.lemmas.Bool.{ne_eqb}
use Rattle.std.specs.List.{AllByRecursion}
use Rattle.std.specs.Prelude.{◌||◌}
use Rattle.apdu_codec.specs.Sw.{bytes_waiting, tries_left, wrong_le}
use Rattle.apdu_codec.specs.declared.answers.Answer.{Answer}
use Rattle.apdu_codec.specs.declared.status.Sw.{Sw}
use Rattle.apdu_codec.specs.declared.status.TheConstants.Sw as sws
use Rattle.file_rows.specs.declared.head.Life.{Life}
use Rattle.file_rows.specs.declared.head.Life.TheVariants as lives
use Rattle.plain_lists.specs.FirstOf.{first_of}
use Rattle.uicc_channels.proofs.RowLemmas.{decided-has}
use Rattle.uicc_channels.specs.CommandRow.{CommandRow, decided}
use Rattle.uicc_channels.specs.Delivery.{answered, le_refusal, takes}
use Rattle.uicc_channels.specs.Life.{life_refusal}
use Rattle.uicc_channels.specs.Needs.{Needs, refusals, refused_unless}
use Rattle.uicc_channels.specs.declared.session.Session.{Session}
use Rattle.profile_card.specs.Failing.{is_failing}

abbrev pub Fine : Sw → Type 0
Fine sw = is_failing sw ≡ false

abbrev pub FineIf : Option Sw → Type 0
FineIf refusal = IfSome refusal Fine

pub by_test : {X : Type 0} (P : X → Type 0) (test : Bool) (x y : X) → P x → P y
    → P (cond test x y)
by_test P true x y one other = one
by_test P false x y one other = other

fine_number : (n : ℕ) → n ≢ 0x6F00 → n ≢ 0x6581
    → (nat_eq n 0x6F00 || nat_eq n 0x6581) ≡ false
fine_number n memory store =
    ap (λ (first : Bool). first || nat_eq n 0x6581) (ne_eqb n 0x6F00 memory)
    ∙ ne_eqb n 0x6581 store

pub fine_waiting : (count : ℕ) → Fine (bytes_waiting count)
fine_waiting count =
    let less : count % 256 < 256 = omega arith in
    fine_number (0x6100 + count % 256) (λ same. absurd (omega (arith, less, same)))
    (λ same. absurd (omega (arith, less, same)))

pub fine_le : (count : ℕ) → Fine (wrong_le count)
fine_le count =
    let less : count % 256 < 256 = omega arith in
    fine_number (0x6C00 + count % 256) (λ same. absurd (omega (arith, less, same)))
    (λ same. absurd (omega (arith, less, same)))

pub fine_tries : (tries : ℕ) → tries ≤ 15 → Fine (tries_left tries)
fine_tries tries few =
    fine_number (0x63C0 + tries) (λ same. absurd (omega (arith, few, same)))
    (λ same. absurd (omega (arith, few, same)))

-- refusals
pub fine_unless : (met : Bool) (sw : Sw) → Fine sw → FineIf (refused_unless met sw)
fine_unless met sw fine = by_test FineIf met None (Some sw) tt fine

pub fine_first : (all : List (Option Sw)) → AllByRecursion FineIf all → FineIf (first_of all)
fine_first [] fine = tt
fine_first (None ∷ all) fine = fine_first all fine.1
fine_first (Some sw ∷ all) fine = fine.0

pub fine_le_refusal : (le : Option ℕ) (body : List ℕ) → FineIf (le_refusal le body)
fine_le_refusal None body = tt
fine_le_refusal (Some le) body =
    by_test FineIf (takes le (length body)) None (Some (wrong_le (length body))) tt
    (fine_le (length body))

pub fine_life : (life : Life) → FineIf (life_refusal life)
fine_life lives.Active = tt
fine_life lives.Deactivated = refl
fine_life lives.Terminated = refl

-- answers with a body
pub fine_answered : (success : Sw) (le : Option ℕ) (body : List ℕ) → Fine success
    → Fine (answered success le body).sw
fine_answered success None body fine = fine_waiting (length body)
fine_answered success (Some le) body fine =
    by_test (λ (answer : Answer). Fine answer.sw) (takes le (length body)) _ _ fine
    (fine_le (length body))

-- what a command needs
pub record FineNeeds (needs : Needs) : Type 0 where
  pub template : FineIf needs.template
  pub file : FineIf needs.file
  pub life : FineIf needs.life
  pub description : FineIf needs.description
  pub own : FineIf needs.own

-- a file that isn't there
pub fine_missing : (needs : Needs) → FineNeeds needs → (sw : Sw) → Fine sw
    → FineNeeds (record needs { file = Some sw })
fine_missing needs fine sw missing = record {
  template = fine.template;
  file = missing;
  life = fine.life;
  description = fine.description;
  own = fine.own;
}

pub record FineRow (row : CommandRow) : Type 0 where
  pub needs : FineNeeds row.needs
  pub done : Fine row.done.answer.sw

-- what comes of such a row
pub fine_decided : (session : Session) (row : CommandRow) → FineRow row
    → Fine (decided session row).answer.sw
fine_decided session row fine =
    decided-has (λ outcome. Fine outcome.answer.sw) session row
    (λ sw said. subst FineIf said (fine_first (refusals row.needs) (
      fine_unless row.needs.channel sws.CHANNEL_NOT_SUPPORTED refl,
      (
        fine_unless row.needs.instruction sws.WRONG_INSTRUCTION refl,
        (
          fine_unless row.needs.class sws.WRONG_CLASS refl,
          (
            fine_unless row.needs.parameters sws.WRONG_P1_P2 refl,
            (
              fine_unless row.needs.lengths sws.WRONG_LENGTH refl,
              (
                fine.needs.template,
                (
                  fine.needs.file,
                  (
                    fine_unless row.needs.kind sws.INCOMPATIBLE_STRUCTURE refl,
                    (
                      fine.needs.life,
                      (
                        fine.needs.description,
                        (
                          fine_unless row.needs.access sws.SECURITY_NOT_SATISFIED refl,
                          (fine.needs.own, tt),
                        ),
                      ),
                    ),
                  ),
                ),
              ),
            ),
          ),
        ),
      ),
    )))
    (λ none. fine.done)
