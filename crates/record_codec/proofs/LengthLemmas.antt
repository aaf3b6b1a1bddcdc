-- How long the coding of a record is.
use Rattle.std.proofs.Common.{◌≡◌, ℕ, suc, ◌+◌, ◌*◌, ◌≤◌, List, [], ◌∷◌, length, Option, Some, None}
use Rattle.std.proofs.Common.{refl, sym, ◌∙◌, ap, arith}
use Rattle.std.specs.List.{AllByRecursion, flat_map}
use Rattle.std.specs.Prelude.{IfSome}
use Rattle.std.proofs.lemmas.List.{length-append}
use Rattle.std.proofs.lemmas.List.Sums.{sum_by-cons}
use Rattle.file_rows.specs.Content.{IsValid, use_of}
use Rattle.file_rows.specs.declared.change.Change.{Change}
use Rattle.file_rows.specs.declared.change.Change.TheVariants.{WriteRange, WriteRecord, PinSet}
use Rattle.file_rows.specs.declared.change.Change.TheVariants.{FileAdd, FileGone, FileState}
use Rattle.file_rows.specs.declared.change.Change.TheVariants.{FileSize}
use Rattle.file_rows.specs.declared.head.FileHead.{FileHead}
use Rattle.file_rows.specs.declared.head.Rule.{Rule}
use Rattle.file_rows.specs.declared.pin.PinRow.{PinRow}
use Rattle.file_rows.specs.declared.pin.Puk.{Puk}
use Rattle.file_rows.specs.declared.row.FileRow.{FileRow}
use Rattle.notify_list.specs.declared.note.Note.{Note}
use Rattle.record_codec.specs.FitsCard.{FitsCard}
use Rattle.record_codec.specs.Fields.{◌&◌, byte, flag, list, number2, number4, number8, option}
use Rattle.record_codec.specs.Fields.{path, plain, string}
use Rattle.record_codec.specs.Sizes.{HasCoding, HasFileSizes, HasPinSizes, IsChange, IsForm, IsNote}
use Rattle.record_codec.specs.Sizes.{IsProfileHead, IsPuk, IsTarget}
use Rattle.record_codec.specs.Spelling.{coded_change, coded_life, file, file_head, form, kind_byte}
use Rattle.record_codec.specs.Spelling.{life, mode_byte, note, operation, pin, profile_head, puk}
use Rattle.record_codec.specs.Spelling.{rule, spelling, target}
use Rattle.record_codec.specs.declared.durable.Durable.{Durable}
use Rattle.record_codec.specs.declared.profile.NoteTarget.{NoteTarget}
use Rattle.record_codec.specs.declared.profile.ProfileHead.{ProfileHead}
use Rattle.record_codec.specs.declared.record.Record.{Record}
use Rattle.record_codec.specs.declared.record.Record.TheVariants as records
use Rattle.record_codec.proofs.SizeLemmas.{few, last}

-- two fields
two : (one other : List ℕ) → length (one & other) ≡ length one + length other
two one other = length-append one other

string_len : (bytes : List ℕ) → length (string bytes) ≡ 2 + length bytes
string_len bytes = two (number2 (length bytes)) bytes

-- items that have at most so many bytes each
items_len : {X : Type 0} (text : X → List ℕ) (P : X → Type 0) (most : ℕ) → ((x : X) → P x → length (text x) ≤ most) → (xs : List X) → AllByRecursion P xs
    → length (flat_map text xs) ≤ length xs * most
items_len text P most each [] all = omega arith
items_len text P most each (x ∷ xs) all =
    let one = each x all.0 in
    let rest = items_len text P most each xs all.1 in
    let times : suc (length xs) * most ≡ length xs * most + most = grind arith in
    omega (arith, one, rest, times, length-append (text x) (flat_map text xs))

ids_len : (ids : List ℕ) → length (flat_map number2 ids) ≡ 2 * length ids
ids_len [] = omega arith
ids_len (id ∷ ids) = omega (arith, ids_len ids, length-append (number2 id) (flat_map number2 ids))

path_len : (ids : List ℕ) → length ids ≤ 4 → length (path ids) ≤ 9
path_len ids few = omega (arith, ids_len ids, two (byte (length ids)) (flat_map number2 ids))

rule_len : (r : Option Rule) → length (option rule r) ≤ 4
rule_len None = omega arith
rule_len (Some r) = omega (arith, two (byte 1) (rule r), two (number2 r.file) (byte r.row))

form_len : (head : FileHead) → IsForm head → length (form head) ≤ 35
form_len head is =
    let at : List ℕ = path head.path in
    let its_kind : List ℕ = byte (kind_byte head.kind) in
    let its_life : List ℕ = byte (coded_life head.life) in
    let sfi : List ℕ = byte head.sfi in
    let name : List ℕ = string head.name in
    let its_rule : List ℕ = option rule head.rule in
    let len : List ℕ = byte head.record_len in
    omega (
      arith,
      path_len head.path is.0.0,
      string_len head.name,
      is.1.1.1.1.0,
      rule_len head.rule,
      two at (its_kind & its_life & sfi & name & its_rule & len),
      two its_kind (its_life & sfi & name & its_rule & len),
      two its_life (sfi & name & its_rule & len),
      two sfi (name & its_rule & len),
      two name (its_rule & len),
      two its_rule len,
    )

file_len : (row : FileRow) → HasFileSizes row → length (file row) ≤ 37 + length row.body
file_len row is = omega (arith, form_len row.head is.0.0, string_len row.body, two (form row.head) (string row.body))

files_len : (rows : List FileRow) → AllByRecursion HasFileSizes rows → length (flat_map file rows) ≤ use_of rows + 5 * length rows
files_len [] all = omega arith
files_len (row ∷ rows) all = omega (
  arith,
  file_len row all.0,
  files_len rows all.1,
  length-append (file row) (flat_map file rows),
  sum_by-cons (λ (r : FileRow). length r.body + 32) row rows,
)

puk_len : (p : Option Puk) → ((its : Puk) → p ≡ Some its → length its.value ≡ 8) → length (option puk p) ≤ 11
puk_len None is = omega arith
puk_len (Some p) is = omega (arith, is p refl, two (byte 1) (puk p), two (plain p.value) (byte p.max & byte p.left), two (byte p.max) (byte p.left))

its_puk : (p : Option Puk) → IfSome p IsPuk → (its : Puk) → p ≡ Some its → length its.value ≡ 8
its_puk None is its e = absurd (cc)
its_puk (Some p) is its e = let same : p ≡ its = cc in ap (λ (q : Puk). length q.value) (sym same) ∙ is.0

pin_len : (row : PinRow) → HasPinSizes row → length (pin row) ≤ 33
pin_len row is =
    let number : List ℕ = byte row.number in
    let home : List ℕ = path row.home in
    let key : List ℕ = byte row.key in
    let value : List ℕ = plain row.value in
    let most : List ℕ = byte row.max in
    let left : List ℕ = byte row.left in
    let enabled : List ℕ = flag row.enabled in
    let its : List ℕ = option puk row.puk in
    omega (
      arith,
      path_len row.home is.1.0.0,
      is.1.1.1.0,
      puk_len row.puk (its_puk row.puk is.1.1.1.1.1.1.1),
      two number (home & key & value & most & left & enabled & its),
      two home (key & value & most & left & enabled & its),
      two key (value & most & left & enabled & its),
      two value (most & left & enabled & its),
      two most (left & enabled & its),
      two left (enabled & its),
      two enabled its,
    )

note_len : (n : Note) → IsNote n → length (note n) ≤ 81
note_len n is =
    let number : List ℕ = number4 n.number in
    let op : List ℕ = operation n.operation in
    let iccid : List ℕ = plain n.iccid in
    let address : List ℕ = string n.address in
    omega (
      arith,
      is.1.1.0,
      is.1.1.1,
      string_len n.address,
      two number (op & iccid & address),
      two op (iccid & address),
      two iccid address,
    )

target_len : (t : NoteTarget) → IsTarget t → length (target t) ≤ 67
target_len t is = omega (arith, is.1, string_len t.address, two (byte t.operations) (string t.address))

head_len : (head : ProfileHead) → IsProfileHead head → length (profile_head head) ≤ 718
head_len head is =
    let number : List ℕ = number2 head.number in
    let iccid : List ℕ = plain head.iccid in
    let provider : List ℕ = string head.provider in
    let name : List ℕ = string head.name in
    let nickname : List ℕ = string head.nickname in
    let class : List ℕ = byte head.class in
    let policy : List ℕ = byte head.policy in
    let targets : List ℕ = list target head.targets in
    omega (
      arith,
      is.1.0,
      is.1.1.0,
      is.1.1.1.0,
      is.1.1.1.1.0,
      is.1.1.1.1.1.1.1.0,
      string_len head.provider,
      string_len head.name,
      string_len head.nickname,
      items_len target IsTarget 67 target_len head.targets is.1.1.1.1.1.1.1.1,
      two (number2 (length head.targets)) (flat_map target head.targets),
      two number (iccid & provider & name & nickname & class & policy & targets),
      two iccid (provider & name & nickname & class & policy & targets),
      two provider (name & nickname & class & policy & targets),
      two name (nickname & class & policy & targets),
      two nickname (class & policy & targets),
      two class (policy & targets),
      two policy targets,
    )

change_len : (its : Change) → IsChange its → length (coded_change its) ≤ 300
change_len (WriteRange at offset bytes) is =
    omega (arith, path_len at is.0.0, is.1.1, string_len bytes, two (byte 0) (path at & number2 offset & string bytes), two (path at) (number2 offset & string bytes), two (number2 offset) (string bytes))
change_len (WriteRecord at number bytes) is =
    omega (arith, path_len at is.0.0, is.1.1, string_len bytes, two (byte 1) (path at & byte number & string bytes), two (path at) (byte number & string bytes), two (byte number) (string bytes))
change_len (PinSet row) is = omega (arith, pin_len row is, two (byte 2) (pin row))
change_len (FileAdd head) is = omega (arith, form_len head is.0, two (byte 3) (file_head head), two (form head) (number2 head.size))
change_len (FileGone at) is = omega (arith, path_len at is.0, two (byte 4) (path at))
change_len (FileState at state) is = omega (arith, path_len at is.0.0, two (byte 5) (path at & life state), two (path at) (life state))
change_len (FileSize at size) is = omega (arith, path_len at is.0.0, two (byte 6) (path at & number2 size), two (path at) (number2 size))

option_byte_len : (o : Option ℕ) → length (option byte o) ≤ 2
option_byte_len None = omega arith
option_byte_len (Some n) = omega (arith, two (byte 1) (byte n))

option_number_len : (o : Option ℕ) → length (option number2 o) ≤ 3
option_number_len None = omega arith
option_number_len (Some n) = omega (arith, two (byte 1) (number2 n))

-- a record that fits is short
pub short_where : (durable : Durable) (entry : Record) → FitsCard durable entry → HasCoding entry → length (spelling entry) ≤ 77600
short_where durable (records.PutCard how ports eid next_number next_note notes) fits is =
    let its_mode : List ℕ = byte (mode_byte how) in
    let all : List ℕ = list note notes in
    omega (
      arith,
      fits.after.heads.notes.few,
      is.1.1.0,
      items_len note IsNote 81 note_len notes is.1.1.1.1.1.1,
      two (number2 (length notes)) (flat_map note notes),
      two (byte 1) (its_mode & byte ports & plain eid & number4 next_number & number8 next_note & all),
      two its_mode (byte ports & plain eid & number4 next_number & number8 next_note & all),
      two (byte ports) (plain eid & number4 next_number & number8 next_note & all),
      two (plain eid) (number4 next_number & number8 next_note & all),
      two (number4 next_number) (number8 next_note & all),
      two (number8 next_note) all,
    )
short_where durable (records.PutProfile installation profile port) fits is =
    let valid : IsValid profile.content = last IsValid durable.contents profile.content fits.after.contents.valid in
    let head : List ℕ = profile_head profile.head in
    let at : List ℕ = option byte port in
    let files : List ℕ = list file profile.content.rows in
    let pins : List ℕ = list pin profile.content.pins in
    omega (
      arith,
      valid.quota,
      valid.few_pins,
      few profile.content.rows,
      head_len profile.head is.1.0,
      option_byte_len port,
      files_len profile.content.rows is.1.1.1.0.1,
      items_len pin HasPinSizes 33 pin_len profile.content.pins is.1.1.1.1.1,
      two (number2 (length profile.content.rows)) (flat_map file profile.content.rows),
      two (number2 (length profile.content.pins)) (flat_map pin profile.content.pins),
      two (byte 2) (flag installation & head & at & files & pins),
      two (flag installation) (head & at & files & pins),
      two head (at & files & pins),
      two at (files & pins),
      two files pins,
    )
short_where durable (records.Content profile its) fits is =
    omega (arith, change_len its is.1, two (byte 3) (number2 profile & coded_change its), two (number2 profile) (coded_change its))
short_where durable (records.Bind profile port displaced) fits is =
    omega (arith, option_number_len displaced, two (byte 4) (number2 profile & byte port & option number2 displaced), two (number2 profile) (byte port & option number2 displaced), two (byte port) (option number2 displaced))
short_where durable (records.Unbind profile) fits is = omega (arith, two (byte 5) (number2 profile))
short_where durable (records.Gone profiles) fits is =
    omega (arith, is.0, ids_len profiles, two (byte 6) (list number2 profiles), two (number2 (length profiles)) (flat_map number2 profiles))
short_where durable (records.Name profile nickname) fits is =
    omega (arith, is.1, string_len nickname, two (byte 7) (number2 profile & string nickname), two (number2 profile) (string nickname))
short_where durable (records.NoteGone number) fits is = omega (arith, two (byte 8) (number4 number))
