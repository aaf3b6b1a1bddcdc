-- A record that fits has a coding.
use Rattle.std.proofs.Common.{◌≡◌, ◌≤◌, ◌+◌, ◌*◌, List, [], ◌∷◌, ◌++◌, length, sym, subst, arith}
use Rattle.std.proofs.Common.{⊎_elim}
use Rattle.std.proofs.lemmas.List.Sums.{sum_by-cons}
use Rattle.std.specs.List.{AllByRecursion}
use Rattle.file_rows.specs.Content.{IsValid, use_of}
use Rattle.file_rows.specs.declared.content.Content.{Content}
use Rattle.file_rows.specs.declared.row.FileRow.{FileRow}
use Rattle.record_codec.specs.FitsCard.{FitsCard}
use Rattle.record_codec.specs.Sizes.{HasSizes}
use Rattle.record_codec.specs.declared.durable.Durable.{Durable}
use Rattle.record_codec.specs.declared.record.Record.{Record}
use Rattle.record_codec.specs.declared.record.Record.TheVariants as records

pub last : {X : Type 0} (P : X → Type 0) (xs : List X) (x : X) → AllByRecursion P (xs ++ x ∷ []) → P x
last P [] x each = each.0
last P (y ∷ xs) x each = last P xs x each.1

-- each file takes at least 32 bytes of the quota
pub few : (rows : List FileRow) → 32 * length rows ≤ use_of rows
few [] = omega arith
few (row ∷ rows) = omega (arith, few rows, sum_by-cons (λ (r : FileRow). length r.body + 32) row rows)

-- the bodies of a valid content are as long as their heads say
pub bodies : (content : Content) → IsValid content → AllByRecursion (λ (row : FileRow). length row.body ≡ row.head.size) content.rows
bodies content valid = ⊎_elim
    (λ empty. subst (AllByRecursion (λ (row : FileRow). length row.body ≡ row.head.size)) (sym empty.rows) tt)
    (λ system. system.files.bodies)
    valid.system

pub sizes_of : (durable : Durable) (entry : Record) → FitsCard durable entry → HasSizes entry
sizes_of durable (records.PutCard how ports eid next_number next_note notes) fits = omega (arith, fits.after.heads.notes.few)
sizes_of durable (records.PutProfile installation profile port) fits =
    let valid : IsValid profile.content = last IsValid durable.contents profile.content fits.after.contents.valid in
    (omega (arith, valid.quota, few profile.content.rows), omega (arith, valid.few_pins), bodies profile.content valid)
sizes_of durable (records.Content profile its) fits = tt
sizes_of durable (records.Bind profile port displaced) fits = tt
sizes_of durable (records.Unbind profile) fits = tt
sizes_of durable (records.Gone profiles) fits = tt
sizes_of durable (records.Name profile nickname) fits = tt
sizes_of durable (records.NoteGone number) fits = tt
