-- How many bytes the rows of records take.
use Rattle.std.proofs.Common.{◌≡◌, ℕ, suc, ◌+◌, ◌*◌, ◌≤◌, List, [], ◌∷◌, length, map, Option, arith}
use Rattle.std.specs.List.{AllByRecursion}
use Rattle.std.proofs.lemmas.List.{length-append}
use Rattle.card_journal.specs.Copy.{copy_of, put_each}
use Rattle.card_journal.specs.Image.{Follow}
use Rattle.file_rows.specs.declared.content.Content.{Content}
use Rattle.flash_pages.specs.Rows.{open_rows, row_of}
use Rattle.flash_pages.proofs.RowLemmas.{length-row_of}
use Rattle.record_codec.specs.Apply.{apply}
use Rattle.record_codec.specs.FitsCard.{FitsCard}
use Rattle.record_codec.specs.IsDurable.{IsDurable}
use Rattle.record_codec.specs.Sizes.{HasCoding}
use Rattle.record_codec.specs.Spelling.{spelling}
use Rattle.record_codec.specs.declared.durable.Durable.{Durable}
use Rattle.record_codec.specs.declared.profile.ProfileHead.{ProfileHead}
use Rattle.record_codec.specs.declared.record.Record.{Record}
use Rattle.record_codec.specs.declared.record.Record.TheVariants as records
use Rattle.record_codec.proofs.FitLemmas.{fits_where}
use Rattle.record_codec.proofs.LengthLemmas.{short_where}
use Rattle.card_journal.proofs.CopyLemmas.{copied}

rows_of : List Record → List ℕ
rows_of entries = open_rows (map spelling entries)

pub one_row : (held : Durable) (entry : Record) → FitsCard held entry → HasCoding entry → length (row_of (spelling entry)) ≤ 77605
one_row held entry fits coding = omega (arith, short_where held entry fits coding, length-row_of (spelling entry))

-- the rows of records that follow what is held
rows_len : (held : Durable) (entries : List Record) → Follow held entries → AllByRecursion HasCoding entries → length (rows_of entries) ≤ length entries * 77605
unfolding rows_of
rows_len held [] follow coding = omega arith
rows_len held (entry ∷ entries) follow coding =
    let times : suc (length entries) * 77605 ≡ length entries * 77605 + 77605 = grind arith in
    omega (
      arith,
      times,
      one_row held entry follow.1 coding.0,
      rows_len (apply held entry) entries follow.2 coding.1,
      length-append (row_of (spelling entry)) (open_rows (map spelling entries)),
    )

each_len : (on : List (Option ℕ)) (heads : List ProfileHead) (contents : List Content) → length (put_each on heads contents) ≤ length heads
each_len on [] contents = omega arith
each_len on (head ∷ heads) [] = omega arith
each_len on (head ∷ heads) (content ∷ contents) = omega (arith, each_len on heads contents)

-- the rows of a card's copy
pub copy_len : (held : Durable) → IsDurable held → AllByRecursion HasCoding (copy_of held) → length (open_rows (map spelling (copy_of held))) ≤ 1319285
unfolding rows_of
copy_len held are coding =
    let left = copied held are in
    let its = held.heads in
    let new : Record = records.PutCard its.ports.mode its.ports.count its.eid its.next_number its.notes.next its.notes.list in
    let profiles : List Record = put_each its.ports.on its.profiles held.contents in
    let fits : FitsCard held new = (fits_where held new are).1 (record {
      heads = record { some = are.heads.ports.some; few = are.heads.ports.few; pending = are.heads.notes };
      content = tt;
    }) in
    omega (
      arith,
      are.heads.profiles.few,
      one_row held new fits coding.0,
      rows_len left.0 profiles left.2 coding.1,
      each_len its.ports.on its.profiles held.contents,
      length-append (row_of (spelling new)) (open_rows (map spelling profiles)),
    )
