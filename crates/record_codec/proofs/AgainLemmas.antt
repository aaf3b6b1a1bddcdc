-- What was written of a record is read again.
use Rattle.std.proofs.Common.{◌≡◌, ℕ, ◌++◌, List, [], Some, Bool, true, false, refl, sym, ap, ◌∙◌}
use Rattle.std.proofs.Common.{arith, append_assoc}
use Rattle.std.specs.Prelude.{⊤}
use Rattle.std.proofs.lemmas.List.{append-nil}
use Rattle.file_rows.specs.declared.change.Change.{Change}
use Rattle.file_rows.specs.declared.change.Change.TheVariants.{WriteRange, WriteRecord, PinSet}
use Rattle.file_rows.specs.declared.change.Change.TheVariants.{FileAdd, FileGone, FileState}
use Rattle.file_rows.specs.declared.change.Change.TheVariants.{FileSize}
use Rattle.file_rows.specs.declared.head.FileHead.{FileHead}
use Rattle.file_rows.specs.declared.head.Kind.{Kind}
use Rattle.file_rows.specs.declared.head.Kind.TheVariants.{Master, Directory, Application}
use Rattle.file_rows.specs.declared.head.Kind.TheVariants.{Transparent, Linear, Cyclic}
use Rattle.file_rows.specs.declared.head.Life.{Life}
use Rattle.file_rows.specs.declared.head.Life.TheVariants.{Active, Deactivated, Terminated}
use Rattle.file_rows.specs.declared.row.FileRow.{FileRow}
use Rattle.notify_list.specs.declared.note.Operation.{Operation}
use Rattle.notify_list.specs.declared.note.Operation.TheVariants.{Install, Enable, Disable, Delete}
use Rattle.port_table.specs.declared.port_mode.PortMode.{PortMode}
use Rattle.port_table.specs.declared.port_mode.PortMode.TheVariants.{A1, A2, B}
use Rattle.record_codec.specs.Fields.{flag, flag_byte, number2, string}
use Rattle.record_codec.specs.Reading.{◌>>=◌, Form, change_at, file_read, file_head_at, flag_of}
use Rattle.record_codec.specs.Reading.{form_at, head_from, kind_of, life_read, mode_of, note_at}
use Rattle.record_codec.specs.Reading.{one_at, operation_of, pin_read, profile_head_at, puk_at}
use Rattle.record_codec.specs.Reading.{record_read, rule_read, target_at}
use Rattle.record_codec.specs.Sizes.{Codes, HasCoding, IsChange, HasFileSizes, IsFileHead, IsForm}
use Rattle.record_codec.specs.Sizes.{IsNote, HasPinSizes, IsProfileHead, IsPuk, IsRule, IsTarget}
use Rattle.record_codec.specs.Spelling.{coded_change, file, file_head, form, kind_byte, coded_life}
use Rattle.record_codec.specs.Spelling.{mode_byte, note, operation_byte, pin, profile_head, puk}
use Rattle.record_codec.specs.Spelling.{rule, spelling, target}
use Rattle.record_codec.specs.declared.record.Record.{Record}
use Rattle.record_codec.specs.declared.record.Record.TheVariants as records
use Rattle.record_codec.proofs.FieldLemmas.{Again, both_again, byte_again, list_again, made_again}
use Rattle.record_codec.proofs.FieldLemmas.{number2_again, number4_again, number8_again, one_again}
use Rattle.record_codec.proofs.FieldLemmas.{option_again, path_again, plain_again, string_again}

flag_back : (set : Bool) → flag_of (flag_byte set) ≡ Some set
flag_back true = refl
flag_back false = refl

mode_back : (m : PortMode) → mode_of (mode_byte m) ≡ Some m
mode_back A1 = refl
mode_back A2 = refl
mode_back B = refl

operation_back : (o : Operation) → operation_of (operation_byte o) ≡ Some o
operation_back Install = refl
operation_back Enable = refl
operation_back Disable = refl
operation_back Delete = refl

kind_back : (k : Kind) → kind_of (kind_byte k) ≡ Some k
kind_back Master = refl
kind_back Directory = refl
kind_back Application = refl
kind_back Transparent = refl
kind_back Linear = refl
kind_back Cyclic = refl

life_back : (l : Life) → life_read (coded_life l) ≡ Some l
life_back Active = refl
life_back Deactivated = refl
life_back Terminated = refl

flag_again : Again flag (λ x. ⊤) (one_at flag_of)
flag_again = one_again flag_of flag_byte flag_back

rule_again : Again rule IsRule rule_read
unfolding rule_read
rule_again = made_again (both_again number2_again byte_again) (λ x. record { file = x.0; row = x.1 }) (λ r. (r.file, r.row)) (λ r. refl)

-- what a file has beside its size, as it is read
abbrev parts : FileHead → Form
parts head = (head.path, (head.kind, (head.life, (head.sfi, (head.name, (head.rule, head.record_len))))))

form_again : (head : FileHead) (rest : List ℕ) → IsForm head → form_at (form head ++ rest) ≡ Some (parts head, rest)
unfolding form_at
form_again head = (both_again path_again (both_again (one_again kind_of kind_byte kind_back) (both_again (one_again life_read coded_life life_back)
    (both_again byte_again (both_again (string_again 16 (omega arith)) (both_again (option_again rule_again) byte_again)))))).reads (parts head)

file_head_reads : (head : FileHead) (rest : List ℕ) → IsFileHead head → file_head_at (file_head head ++ rest) ≡ Some (head, rest)
unfolding file_head_at
file_head_reads head rest fits =
    ap (λ (bytes : List ℕ). file_head_at bytes) (append_assoc (form head) (number2 head.size) rest)
    ∙ rw (form_again head (number2 head.size ++ rest) fits.0, number2_again.reads head.size rest fits.1) refl

file_head_again : Again file_head IsFileHead file_head_at
file_head_again = record { reads = file_head_reads }

file_reads : (row : FileRow) (rest : List ℕ) → HasFileSizes row → file_read (file row ++ rest) ≡ Some (row, rest)
unfolding file_read
file_reads row rest fits =
    ap (λ (bytes : List ℕ). file_read bytes) (append_assoc (form row.head) (string row.body) rest)
    ∙ rw (form_again row.head (string row.body ++ rest) fits.0.0, (string_again 65535 (omega arith)).reads row.body rest fits.0.1)
    (ap (λ (size : ℕ). Some (record { head = head_from (parts row.head) size; body = row.body }, rest)) fits.1)

file_again : Again file HasFileSizes file_read
file_again = record { reads = file_reads }

puk_again : Again puk IsPuk puk_at
unfolding puk_at
puk_again = made_again (both_again (plain_again 8) (both_again byte_again byte_again))
    (λ x. record { value = x.0; max = x.1.0; left = x.1.1 }) (λ p. (p.value, (p.max, p.left))) (λ p. refl)

pin_again : Again pin HasPinSizes pin_read
unfolding pin_read
pin_again = made_again (both_again byte_again (both_again path_again (both_again byte_again (both_again (plain_again 8) (both_again byte_again (both_again byte_again (both_again flag_again (option_again puk_again))))))))
    (λ x. record {
      number = x.0;
      home = x.1.0;
      key = x.1.1.0;
      value = x.1.1.1.0;
      max = x.1.1.1.1.0;
      left = x.1.1.1.1.1.0;
      enabled = x.1.1.1.1.1.1.0;
      puk = x.1.1.1.1.1.1.1;
    })
    (λ p. (p.number, (p.home, (p.key, (p.value, (p.max, (p.left, (p.enabled, p.puk)))))))) (λ p. refl)

change_reads : (its : Change) (rest : List ℕ) → IsChange its → change_at (coded_change its ++ rest) ≡ Some (its, rest)
unfolding change_at
change_reads (WriteRange at offset bytes) rest fits =
    ap (λ r. r >>= λ x. Some (WriteRange x.0.0 x.0.1.0 x.0.1.1, x.1))
    ((both_again path_again (both_again number2_again (string_again 255 (omega arith)))).reads (at, (offset, bytes)) rest fits)
change_reads (WriteRecord at number bytes) rest fits =
    ap (λ r. r >>= λ x. Some (WriteRecord x.0.0 x.0.1.0 x.0.1.1, x.1))
    ((both_again path_again (both_again byte_again (string_again 255 (omega arith)))).reads (at, (number, bytes)) rest fits)
change_reads (PinSet row) rest fits = ap (λ r. r >>= λ x. Some (PinSet x.0, x.1)) (pin_again.reads row rest fits)
change_reads (FileAdd head) rest fits = ap (λ r. r >>= λ x. Some (FileAdd x.0, x.1)) (file_head_again.reads head rest fits)
change_reads (FileGone at) rest fits = ap (λ r. r >>= λ x. Some (FileGone x.0, x.1)) (path_again.reads at rest fits)
change_reads (FileState at state) rest fits =
    ap (λ r. r >>= λ x. Some (FileState x.0.0 x.0.1, x.1)) ((both_again path_again (one_again life_read coded_life life_back)).reads (at, state) rest fits)
change_reads (FileSize at size) rest fits =
    ap (λ r. r >>= λ x. Some (FileSize x.0.0 x.0.1, x.1)) ((both_again path_again number2_again).reads (at, size) rest fits)

change_again : Again coded_change IsChange change_at
change_again = record { reads = change_reads }

note_again : Again note IsNote note_at
unfolding note_at
note_again = made_again (both_again number4_again (both_again (one_again operation_of operation_byte operation_back) (both_again (plain_again 10) (string_again 64 (omega arith)))))
    (λ x. record { number = x.0; operation = x.1.0; iccid = x.1.1.0; address = x.1.1.1 }) (λ n. (n.number, (n.operation, (n.iccid, n.address)))) (λ n. refl)

target_again : Again target IsTarget target_at
unfolding target_at
target_again = made_again (both_again byte_again (string_again 64 (omega arith)))
    (λ x. record { operations = x.0; address = x.1 }) (λ t. (t.operations, t.address)) (λ t. refl)

profile_head_again : Again profile_head IsProfileHead profile_head_at
unfolding profile_head_at
profile_head_again = made_again (both_again number2_again (both_again (plain_again 10) (both_again (string_again 32 (omega arith)) (both_again (string_again 64 (omega arith)) (both_again (string_again 64 (omega arith)) (both_again byte_again (both_again byte_again (list_again target_again 8 (omega arith)))))))))
    (λ x. record {
      number = x.0;
      iccid = x.1.0;
      provider = x.1.1.0;
      name = x.1.1.1.0;
      nickname = x.1.1.1.1.0;
      class = x.1.1.1.1.1.0;
      policy = x.1.1.1.1.1.1.0;
      targets = x.1.1.1.1.1.1.1;
    })
    (λ h. (h.number, (h.iccid, (h.provider, (h.name, (h.nickname, (h.class, (h.policy, h.targets)))))))) (λ h. refl)

pub record_again : (entry : Record) (rest : List ℕ) → HasCoding entry → record_read (spelling entry ++ rest) ≡ Some (entry, rest)
unfolding record_read
record_again (records.PutCard how ports eid next_number next_note notes) rest fits =
    ap (λ r. r >>= λ x. Some (records.PutCard x.0.0 x.0.1.0 x.0.1.1.0 x.0.1.1.1.0 x.0.1.1.1.1.0 x.0.1.1.1.1.1, x.1))
    ((both_again (one_again mode_of mode_byte mode_back) (both_again byte_again (both_again (plain_again 16)
    (both_again number4_again (both_again number8_again (list_again note_again 65535 (omega arith))))))).reads
    (how, (ports, (eid, (next_number, (next_note, notes))))) rest fits)
record_again (records.PutProfile installation profile port) rest fits =
    ap (λ r. r >>= λ x. Some (records.PutProfile x.0.0 (record { head = x.0.1.0; content = record { rows = x.0.1.1.1.0; pins = x.0.1.1.1.1 } }) x.0.1.1.0, x.1))
    ((both_again flag_again (both_again profile_head_again (both_again (option_again byte_again)
    (both_again (list_again file_again 65535 (omega arith)) (list_again pin_again 65535 (omega arith)))))).reads
    (installation, (profile.head, (port, (profile.content.rows, profile.content.pins)))) rest fits)
record_again (records.Content profile its) rest fits =
    ap (λ r. r >>= λ x. Some (records.Content x.0.0 x.0.1, x.1)) ((both_again number2_again change_again).reads (profile, its) rest fits)
record_again (records.Bind profile port displaced) rest fits =
    ap (λ r. r >>= λ x. Some (records.Bind x.0.0 x.0.1.0 x.0.1.1, x.1))
    ((both_again number2_again (both_again byte_again (option_again number2_again))).reads (profile, (port, displaced)) rest fits)
record_again (records.Unbind profile) rest fits = ap (λ r. r >>= λ x. Some (records.Unbind x.0, x.1)) (number2_again.reads profile rest fits)
record_again (records.Gone profiles) rest fits =
    ap (λ r. r >>= λ x. Some (records.Gone x.0, x.1)) ((list_again number2_again 16 (omega arith)).reads profiles rest fits)
record_again (records.Name profile nickname) rest fits =
    ap (λ r. r >>= λ x. Some (records.Name x.0.0 x.0.1, x.1)) ((both_again number2_again (string_again 64 (omega arith))).reads (profile, nickname) rest fits)
record_again (records.NoteGone number) rest fits = ap (λ r. r >>= λ x. Some (records.NoteGone x.0, x.1)) (number4_again.reads number rest fits)

pub whole_again : (entry : Record) → HasCoding entry → record_read (spelling entry) ≡ Some (entry, [])
whole_again entry fits = ap record_read (sym (append-nil (spelling entry))) ∙ record_again entry [] fits

some_is : {X : Type 0} (x y : X) → Some x ≡ Some y → x ≡ y
some_is x y e = cc

-- no two records have one coding
pub one_record : (bytes : List ℕ) (one other : Record) → Codes bytes one → Codes bytes other → one ≡ other
one_record bytes one other first second =
    let read : Some (one, []) ≡ Some (other, []) =
    sym (whole_again one first.values) ∙ ap record_read (sym first.bytes_are ∙ second.bytes_are) ∙ whole_again other second.values in
    ap (λ (found : Record × List ℕ). found.0) (some_is (one, []) (other, []) read)
