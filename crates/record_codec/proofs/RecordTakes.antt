-- What was read as a record is its coding.
use Rattle.std.proofs.Common.{◌≡◌, ℕ, zero, suc, List, [], ◌∷◌, Some, None, Bool, true, false, refl}
use Rattle.std.proofs.Common.{sym, ap, subst, ◌∙◌}
use Rattle.std.specs.Prelude.{Err, IsErrOf, ⊤}
use Rattle.std.proofs.lemmas.List.{append-nil}
use Rattle.file_rows.specs.declared.change.Change.{Change}
use Rattle.file_rows.specs.declared.change.Change.TheVariants.{WriteRange, WriteRecord, PinSet}
use Rattle.file_rows.specs.declared.change.Change.TheVariants.{FileAdd, FileGone, FileState}
use Rattle.file_rows.specs.declared.change.Change.TheVariants.{FileSize}
use Rattle.file_rows.specs.declared.head.Kind.{Kind}
use Rattle.file_rows.specs.declared.head.Life.{Life}
use Rattle.notify_list.specs.declared.note.Operation.{Operation}
use Rattle.port_table.specs.declared.port_mode.PortMode.{PortMode}
use Rattle.record_codec.specs.Fields.{flag, flag_byte}
use Rattle.record_codec.specs.Reading.{Form, Reader, change_at, change_of, file_read, file_head_at}
use Rattle.record_codec.specs.Reading.{flag_of, form_at, head_from, kind_of, life_read, made_at}
use Rattle.record_codec.specs.Reading.{mode_of, note_at, one_at, operation_of, pin_read}
use Rattle.record_codec.specs.Reading.{profile_head_at, puk_at, record_read, record_tagged}
use Rattle.record_codec.specs.Reading.{row_from, rule_read, target_at}
use Rattle.record_codec.specs.Sizes.{Codes, HasCoding, IsChange, HasFileSizes, IsFileHead, IsForm}
use Rattle.record_codec.specs.Sizes.{IsNote, HasPinSizes, IsProfileHead, IsPuk, IsRule, IsTarget}
use Rattle.record_codec.specs.Spelling.{coded_change, file, file_head, form, kind_byte, life}
use Rattle.record_codec.specs.Spelling.{coded_life, mode_byte, note, operation_byte, pin}
use Rattle.record_codec.specs.Spelling.{profile_head, puk, rule, spelling, target}
use Rattle.record_codec.specs.Returns.{Fails}
use Rattle.record_codec.specs.declared.fault.RecordFault.{RecordFault}
use Rattle.record_codec.specs.declared.fault.RecordFault.TheVariants as faults
use Rattle.record_codec.proofs.AgainLemmas.{whole_again}
use Rattle.record_codec.specs.declared.record.Record.{Record}
use Rattle.record_codec.specs.declared.record.Record.TheVariants as records
use Rattle.record_codec.proofs.TakesLemmas.{IsBytes, IsBytes-rest, Taken, Takes, bind_some}
use Rattle.record_codec.proofs.TakesLemmas.{both_taken, byte_taken, list_taken, made_taken}
use Rattle.record_codec.proofs.TakesLemmas.{number2_taken, number4_taken, number8_taken, one_taken}
use Rattle.record_codec.proofs.TakesLemmas.{option_taken, path_taken, plain_taken, same_some}
use Rattle.record_codec.proofs.TakesLemmas.{string_taken}

flag_forth : (n : ℕ) (x : Bool) → flag_of n ≡ Some x → flag_byte x ≡ n
flag_forth zero x e = ap flag_byte (sym (same_some false x e))
flag_forth (suc zero) x e = ap flag_byte (sym (same_some true x e))
flag_forth (suc (suc n)) x e = absurd cc

mode_forth : (n : ℕ) (x : PortMode) → mode_of n ≡ Some x → mode_byte x ≡ n
mode_forth zero x e = ap mode_byte (sym (same_some _ x e))
mode_forth (suc zero) x e = ap mode_byte (sym (same_some _ x e))
mode_forth (suc (suc zero)) x e = ap mode_byte (sym (same_some _ x e))
mode_forth (suc (suc (suc n))) x e = absurd cc

operation_forth : (n : ℕ) (x : Operation) → operation_of n ≡ Some x → operation_byte x ≡ n
operation_forth zero x e = ap operation_byte (sym (same_some _ x e))
operation_forth (suc zero) x e = ap operation_byte (sym (same_some _ x e))
operation_forth (suc (suc zero)) x e = ap operation_byte (sym (same_some _ x e))
operation_forth (suc (suc (suc zero))) x e = ap operation_byte (sym (same_some _ x e))
operation_forth (suc (suc (suc (suc n)))) x e = absurd cc

kind_forth : (n : ℕ) (x : Kind) → kind_of n ≡ Some x → kind_byte x ≡ n
kind_forth zero x e = ap kind_byte (sym (same_some _ x e))
kind_forth (suc zero) x e = ap kind_byte (sym (same_some _ x e))
kind_forth (suc (suc zero)) x e = ap kind_byte (sym (same_some _ x e))
kind_forth (suc (suc (suc zero))) x e = ap kind_byte (sym (same_some _ x e))
kind_forth (suc (suc (suc (suc zero)))) x e = ap kind_byte (sym (same_some _ x e))
kind_forth (suc (suc (suc (suc (suc zero))))) x e = ap kind_byte (sym (same_some _ x e))
kind_forth (suc (suc (suc (suc (suc (suc n)))))) x e = absurd cc

life_forth : (n : ℕ) (x : Life) → life_read n ≡ Some x → coded_life x ≡ n
life_forth zero x e = ap coded_life (sym (same_some _ x e))
life_forth (suc zero) x e = ap coded_life (sym (same_some _ x e))
life_forth (suc (suc zero)) x e = ap coded_life (sym (same_some _ x e))
life_forth (suc (suc (suc n))) x e = absurd cc

flag_taken : Taken flag (λ x. ⊤) (one_at flag_of)
flag_taken = one_taken flag_of flag_byte flag_forth

life_taken : Taken life (λ x. ⊤) (one_at life_read)
life_taken = one_taken life_read coded_life life_forth

rule_taken : Taken rule IsRule rule_read
unfolding rule_read
rule_taken = made_taken (both_taken number2_taken byte_taken) (λ x. record { file = x.0; row = x.1 }) rule IsRule (λ x. refl) (λ x h. h)

form_taken : Taken {X = Form} (λ f. form (head_from f 0)) (λ f. IsForm (head_from f 0)) form_at
unfolding form_at
form_taken = both_taken path_taken (both_taken (one_taken kind_of kind_byte kind_forth) (both_taken life_taken (both_taken byte_taken
    (both_taken (string_taken 16) (both_taken (option_taken rule_taken) byte_taken)))))

file_head_taken : Taken file_head IsFileHead file_head_at
unfolding file_head_at
file_head_taken = made_taken (both_taken form_taken number2_taken) (λ x. head_from x.0 x.1) file_head IsFileHead (λ x. refl) (λ x h. h)

file_taken : Taken file HasFileSizes file_read
unfolding file_read
file_taken = made_taken (both_taken form_taken (string_taken 65535)) row_from file HasFileSizes (λ x. refl) (λ x h. (h, refl))

puk_taken : Taken puk IsPuk puk_at
unfolding puk_at
puk_taken = made_taken (both_taken (plain_taken 8) (both_taken byte_taken byte_taken)) (λ x. record { value = x.0; max = x.1.0; left = x.1.1 }) puk IsPuk (λ x. refl) (λ x h. h)

pin_taken : Taken pin HasPinSizes pin_read
unfolding pin_read
pin_taken = made_taken
    (both_taken byte_taken (both_taken path_taken (both_taken byte_taken (both_taken (plain_taken 8)
    (both_taken byte_taken (both_taken byte_taken (both_taken flag_taken (option_taken puk_taken))))))))
    (λ x. record {
      number = x.0;
      home = x.1.0;
      key = x.1.1.0;
      value = x.1.1.1.0;
      max = x.1.1.1.1.0;
      left = x.1.1.1.1.1.0;
      enabled = x.1.1.1.1.1.1.0;
      puk = x.1.1.1.1.1.1.1;
    })
    pin HasPinSizes (λ x. refl) (λ x h. h)

note_taken : Taken note IsNote note_at
unfolding note_at
note_taken = made_taken (both_taken number4_taken (both_taken (one_taken operation_of operation_byte operation_forth) (both_taken (plain_taken 10) (string_taken 64))))
    (λ x. record { number = x.0; operation = x.1.0; iccid = x.1.1.0; address = x.1.1.1 }) note IsNote (λ x. refl) (λ x h. h)

target_taken : Taken target IsTarget target_at
unfolding target_at
target_taken = made_taken (both_taken byte_taken (string_taken 64)) (λ x. record { operations = x.0; address = x.1 }) target IsTarget (λ x. refl) (λ x h. h)

profile_head_taken : Taken profile_head IsProfileHead profile_head_at
unfolding profile_head_at
profile_head_taken = made_taken
    (both_taken number2_taken (both_taken (plain_taken 10) (both_taken (string_taken 32) (both_taken (string_taken 64)
    (both_taken (string_taken 64) (both_taken byte_taken (both_taken byte_taken (list_taken target_taken 8))))))))
    (λ x. record {
      number = x.0;
      iccid = x.1.0;
      provider = x.1.1.0;
      name = x.1.1.1.0;
      nickname = x.1.1.1.1.0;
      class = x.1.1.1.1.1.0;
      policy = x.1.1.1.1.1.1.0;
      targets = x.1.1.1.1.1.1.1;
    })
    profile_head IsProfileHead (λ x. refl) (λ x h. h)

-- a value behind a byte for its kind
tagged : {X Y : Type 0} {tx : X → List ℕ} {fx : X → Type 0} {rx : Reader X} → Taken tx fx rx → (tag : ℕ) (make : X → Y) (ty : Y → List ℕ) (fy : Y → Type 0)
    → ((x : X) → ty (make x) ≡ tag ∷ tx x) → ((x : X) → fx x → fy (make x))
    → (bytes : List ℕ) (y : Y) (rest : List ℕ) → IsBytes (tag ∷ bytes) → made_at make rx bytes ≡ Some (y, rest) → Takes (tag ∷ bytes) (ty y) rest × fy y
tagged {X} {Y} {tx} {fx} {rx} px tag make ty fy spelled fit bytes y rest is e =
    let a = bind_some (rx bytes) (λ u. Some (make u.0, u.1)) (y, rest) e in
    let t = px.takes bytes a.0.0 a.0.1 (IsBytes-rest tag bytes is) a.1 in
    subst (λ (z : Y × List ℕ). Takes (tag ∷ bytes) (ty z.0) z.1 × fy z.0) (same_some (make a.0.0, a.0.1) (y, rest) a.2)
    (subst (λ (text : List ℕ). Takes (tag ∷ bytes) text a.0.1) (sym (spelled a.0.0)) (record { parts = ap (λ (w : List ℕ). tag ∷ w) t.0.parts; rest_fits = t.0.rest_fits }), fit a.0.0 t.1)

change_of_takes : (tag : ℕ) (bytes : List ℕ) (its : Change) (rest : List ℕ) → IsBytes (tag ∷ bytes) → change_of tag bytes ≡ Some (its, rest)
    → Takes (tag ∷ bytes) (coded_change its) rest × IsChange its
change_of_takes zero bytes its rest is e =
    tagged (both_taken path_taken (both_taken number2_taken (string_taken 255))) 0 (λ x. WriteRange x.0 x.1.0 x.1.1) coded_change IsChange (λ x. refl) (λ x h. h) bytes its rest is e
change_of_takes (suc zero) bytes its rest is e =
    tagged (both_taken path_taken (both_taken byte_taken (string_taken 255))) 1 (λ x. WriteRecord x.0 x.1.0 x.1.1) coded_change IsChange (λ x. refl) (λ x h. h) bytes its rest is e
change_of_takes (suc (suc zero)) bytes its rest is e = tagged pin_taken 2 PinSet coded_change IsChange (λ x. refl) (λ x h. h) bytes its rest is e
change_of_takes (suc (suc (suc zero))) bytes its rest is e = tagged file_head_taken 3 FileAdd coded_change IsChange (λ x. refl) (λ x h. h) bytes its rest is e
change_of_takes (suc (suc (suc (suc zero)))) bytes its rest is e = tagged path_taken 4 FileGone coded_change IsChange (λ x. refl) (λ x h. h) bytes its rest is e
change_of_takes (suc (suc (suc (suc (suc zero))))) bytes its rest is e =
    tagged (both_taken path_taken life_taken) 5 (λ x. FileState x.0 x.1) coded_change IsChange (λ x. refl) (λ x h. h) bytes its rest is e
change_of_takes (suc (suc (suc (suc (suc (suc zero)))))) bytes its rest is e =
    tagged (both_taken path_taken number2_taken) 6 (λ x. FileSize x.0 x.1) coded_change IsChange (λ x. refl) (λ x h. h) bytes its rest is e
change_of_takes (suc (suc (suc (suc (suc (suc (suc n))))))) bytes its rest is e = absurd cc

change_takes : (bytes : List ℕ) (its : Change) (rest : List ℕ) → IsBytes bytes → change_at bytes ≡ Some (its, rest) → Takes bytes (coded_change its) rest × IsChange its
unfolding change_at
change_takes [] its rest is e = absurd cc
change_takes (tag ∷ bytes) its rest is e = change_of_takes tag bytes its rest is e

change_taken : Taken coded_change IsChange change_at
change_taken = record { takes = change_takes }

record_tagged_takes : (tag : ℕ) (bytes : List ℕ) (its : Record) (rest : List ℕ) → IsBytes (tag ∷ bytes) → record_tagged tag bytes ≡ Some (its, rest)
    → Takes (tag ∷ bytes) (spelling its) rest × HasCoding its
record_tagged_takes zero bytes its rest is e = absurd cc
record_tagged_takes (suc zero) bytes its rest is e =
    tagged (both_taken (one_taken mode_of mode_byte mode_forth) (both_taken byte_taken (both_taken (plain_taken 16) (both_taken number4_taken
    (both_taken number8_taken (list_taken note_taken 65535)))))) 1
    (λ x. records.PutCard x.0 x.1.0 x.1.1.0 x.1.1.1.0 x.1.1.1.1.0 x.1.1.1.1.1) spelling HasCoding (λ x. refl) (λ x h. h) bytes its rest is e
record_tagged_takes (suc (suc zero)) bytes its rest is e =
    tagged (both_taken flag_taken (both_taken profile_head_taken (both_taken (option_taken byte_taken) (both_taken (list_taken file_taken 65535) (list_taken pin_taken 65535))))) 2
    (λ x. records.PutProfile x.0 (record { head = x.1.0; content = record { rows = x.1.1.1.0; pins = x.1.1.1.1 } }) x.1.1.0) spelling HasCoding (λ x. refl) (λ x h. h) bytes its rest is e
record_tagged_takes (suc (suc (suc zero))) bytes its rest is e =
    tagged (both_taken number2_taken change_taken) 3 (λ x. records.Content x.0 x.1) spelling HasCoding (λ x. refl) (λ x h. h) bytes its rest is e
record_tagged_takes (suc (suc (suc (suc zero)))) bytes its rest is e =
    tagged (both_taken number2_taken (both_taken byte_taken (option_taken number2_taken))) 4 (λ x. records.Bind x.0 x.1.0 x.1.1) spelling HasCoding (λ x. refl) (λ x h. h) bytes its rest is e
record_tagged_takes (suc (suc (suc (suc (suc zero))))) bytes its rest is e = tagged number2_taken 5 records.Unbind spelling HasCoding (λ x. refl) (λ x h. h) bytes its rest is e
record_tagged_takes (suc (suc (suc (suc (suc (suc zero)))))) bytes its rest is e =
    tagged (list_taken number2_taken 16) 6 records.Gone spelling HasCoding (λ x. refl) (λ x h. h) bytes its rest is e
record_tagged_takes (suc (suc (suc (suc (suc (suc (suc zero))))))) bytes its rest is e =
    tagged (both_taken number2_taken (string_taken 64)) 7 (λ x. records.Name x.0 x.1) spelling HasCoding (λ x. refl) (λ x h. h) bytes its rest is e
record_tagged_takes (suc (suc (suc (suc (suc (suc (suc (suc zero)))))))) bytes its rest is e =
    tagged number4_taken 8 records.NoteGone spelling HasCoding (λ x. refl) (λ x h. h) bytes its rest is e
record_tagged_takes (suc (suc (suc (suc (suc (suc (suc (suc (suc n))))))))) bytes its rest is e = absurd cc

record_takes : (bytes : List ℕ) (its : Record) (rest : List ℕ) → IsBytes bytes → record_read bytes ≡ Some (its, rest) → Takes bytes (spelling its) rest × HasCoding its
unfolding record_read
record_takes [] its rest is e = absurd cc
record_takes (tag ∷ bytes) its rest is e = record_tagged_takes tag bytes its rest is e

-- bytes that are read whole are the coding of what is read
pub whole_takes : (bytes : List ℕ) (its : Record) → IsBytes bytes → record_read bytes ≡ Some (its, []) → Codes bytes its
whole_takes bytes its is e =
    let t = record_takes bytes its [] is e in
    record { values = t.1; bytes_are = t.0.parts ∙ append-nil (spelling its) }

none_some : {X : Type 0} (x : X) → Some x ≡ None → ⊥
none_some x e = absurd cc

module _ (bytes : List ℕ) (entry : Record) (codes : Codes bytes entry) where
  pub is_read : record_read bytes ≡ Some (entry, [])
  is_read = ap record_read codes.bytes_are ∙ whole_again entry codes.values

  pub not_none : record_read bytes ≡ None → ⊥
  not_none none = none_some (entry, []) (sym is_read ∙ none)

  pub nothing_left : (its : Record) (rest : List ℕ) → record_read bytes ≡ Some (its, rest) → rest ≡ []
  nothing_left its rest read = ap (λ (p : Record × List ℕ). p.1) (same_some (its, rest) (entry, []) (sym read ∙ is_read))

-- where reading fails, no record has these bytes as its coding, unless memory ran out
pub refused : (bytes : List ℕ) (fault : RecordFault) → Fails fault (record_read bytes) → IsErrOf {T = Record} (Err fault) faults.NotARecord
    → (entry : Record) → Codes bytes entry → ⊥
refused bytes faults.NotARecord fails same entry codes = not_none bytes entry codes fails
refused bytes faults.NoMemory fails same entry codes = absurd cc

-- bytes that are read to their end
pub found : (bytes : List ℕ) (its : Record) (rest : List ℕ) → IsBytes bytes → record_read bytes ≡ Some (its, rest) → rest ≡ [] → Codes bytes its
found bytes its rest is read none = whole_takes bytes its is (read ∙ ap (λ (r : List ℕ). Some (its, r)) none)
