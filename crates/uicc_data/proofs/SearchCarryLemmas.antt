-- A card can carry out what SEARCH RECORD and INCREASE come to.
use Rattle.std.proofs.Common.{◌≡◌, ◌≤◌, ◌+◌, ◌-◌, ◌*◌, ◌%◌, ◌^◌, ℕ, zero, suc, Bool, true, false}
use Rattle.std.proofs.Common.{cond, List, [], ◌∷◌, ◌++◌, length, length-take-le, length-drop, drop}
use Rattle.std.proofs.Common.{refl, sym, ◌∙◌, ap, inr, Option, Some, None, IfSome, arith}
use Rattle.std.specs.List.{AllByRecursion}
use Rattle.std.specs.Prelude.{nat_lt}
use Rattle.apdu_codec.specs.Command.{Apdu}
use Rattle.apdu_codec.specs.declared.status.TheConstants.Sw.{WRONG_LENGTH}
use Rattle.file_rows.proofs.ConditionLemmas.{fits_where}
use Rattle.file_rows.proofs.ListLemmas.{each_filter}
use Rattle.file_rows.proofs.EachLemmas.{each_weaker}
use Rattle.file_rows.specs.Change.{IsRecordFor, with_record}
use Rattle.file_rows.specs.Content.{IsValid}
use Rattle.file_rows.specs.FileHead.{HasRecord, holds_files}
use Rattle.file_rows.specs.declared.change.Change.TheVariants.{WriteRecord}
use Rattle.file_rows.specs.declared.content.Content.{Content}
use Rattle.file_rows.specs.declared.head.Kind.TheVariants.{Cyclic}
use Rattle.file_rows.specs.declared.mode.Mode.{Mode}
use Rattle.file_rows.specs.declared.row.FileRow.{FileRow}
use Rattle.uicc_channels.proofs.AmongLemmas.{IsAmong}
use Rattle.uicc_channels.proofs.SessionLemmas.{Suits-waiting}
use Rattle.uicc_channels.specs.CommandRow.{decided}
use Rattle.uicc_channels.specs.Needs.{refused_unless}
use Rattle.uicc_channels.specs.Session.{IsOpen, Suits, open_channel}
use Rattle.uicc_channels.specs.declared.session.Session.{Session}
use Rattle.uicc_tree.proofs.ApplyLemmas.{row_is}
use Rattle.uicc_tree.specs.Change.{IsRow}
use Rattle.uicc_data.proofs.CarryLemmas.{CanCarryOut-refused, apart_rows, at_its_path}
use Rattle.uicc_data.proofs.RecordCarryLemmas.{OnRecords, are_rows, at_record-has, bare_records}
use Rattle.uicc_data.proofs.RecordCarryLemmas.{cyclic_kind, if_some, on_records}
use Rattle.uicc_data.proofs.RecordLemmas.{IsUpTo, cyclic_has, first_record, has_record}
use Rattle.uicc_data.proofs.RecordLemmas.{record_there, up_to_count}
use Rattle.uicc_channels.proofs.NeedsLemmas.{first_none, rest_none}
use Rattle.uicc_data.proofs.RowLemmas.{on_file-has, where_named-has}
use Rattle.uicc_data.proofs.SuitsLemmas.{Suits-using, Suits-written, named_among}
use Rattle.uicc_channels.specs.CarriesOut.{CanCarryOut}
use Rattle.uicc_data.specs.FileReference.{file_named, not_there, pointer_at, using}
use Rattle.uicc_data.specs.FileUse.{needs_of_writing}
use Rattle.uicc_data.specs.Increase.{can_be_added, giving_sum, increase_file, increase_row}
use Rattle.uicc_data.specs.Increase.{increasing}
use Rattle.uicc_data.specs.Number.{spelled_in, sum_of, number_spelled}
use Rattle.uicc_data.specs.RecordWalk.{HoldsWholeRecords, record_bytes, record_count, record_in}
use Rattle.uicc_data.specs.Search.{found_from, giving_numbers, holds_run, records_left}
use Rattle.uicc_data.specs.Search.{search_place, search_record_row, search_start, searching, walk}
use Rattle.uicc_data.specs.declared.search.Direction.{Direction}
use Rattle.uicc_data.specs.declared.search.Direction.TheVariants.{Forwards, Backwards}

-- the numbers of a walk are those of records
forwards_up_to : (count number more : ℕ) → 1 ≤ number → number + more ≤ count + 1 → AllByRecursion (IsUpTo count) (walk Forwards number more)
forwards_up_to count number zero first last = tt
forwards_up_to count number (suc more) first last = ((first, omega (arith, last)), forwards_up_to count (number + 1) more (omega arith) (omega (arith, last)))

backwards_up_to : (count number more : ℕ) → more ≤ number → number ≤ count → AllByRecursion (IsUpTo count) (walk Backwards number more)
backwards_up_to count number zero first last = tt
backwards_up_to count number (suc more) first last = ((omega (arith, first), last), backwards_up_to count (number - 1) more (omega (arith, first)) (omega (arith, last)))

walk_up_to : (way : Direction) (count number : ℕ) → 1 ≤ number → number ≤ count → AllByRecursion (IsUpTo count) (walk way number (records_left way count number))
walk_up_to Forwards count number first last = forwards_up_to count number (count + 1 - number) first (omega (arith, last))
walk_up_to Backwards count number first last = backwards_up_to count number number (omega arith) last

found_there : (row : FileRow) (run : List ℕ) (way : Direction) (number : ℕ) → HoldsWholeRecords row → HasRecord row.head number
    → AllByRecursion (HasRecord row.head) (found_from row run way number)
found_there row run way number whole there =
    each_weaker (IsUpTo (record_count row.head)) (HasRecord row.head) (λ n is. has_record row n whole is.0 is.1) (found_from row run way number)
    (each_filter (IsUpTo (record_count row.head)) (λ n. holds_run run (record_bytes row n)) (walk way number (records_left way (record_count row.head) number))
    (walk_up_to way (record_count row.head) number there.first (up_to_count row number there)))

pub length-spelled_in : (k n : ℕ) → length (spelled_in k n) ≡ k
length-spelled_in zero n = refl
length-spelled_in (suc k) n = ap suc (length-spelled_in k (n % 256 ^ k))

length-sum_of : (number addend sum : List ℕ) → sum_of number addend ≡ Some sum → length sum ≡ length number
length-sum_of number addend sum e = either (nat_lt (number_spelled number + number_spelled addend) (256 ^ length number)) e
  where
    either : (fits : Bool) → cond fits (Some (spelled_in (length number) (number_spelled number + number_spelled addend))) None ≡ Some sum → length sum ≡ length number
    either true f =
        let same : spelled_in (length number) (number_spelled number + number_spelled addend) ≡ sum = cc in
        ap length (sym same) ∙ length-spelled_in (length number) (number_spelled number + number_spelled addend)
    either false f = absurd (cc)

length-first : (row : FileRow) → HoldsWholeRecords row → HasRecord row.head 1 → length (record_bytes row 1) ≡ row.head.record_len
length-first row whole first =
    length-take-le row.head.record_len (drop ((1 - 1) * row.head.record_len) row.body)
    (omega (arith, length-drop ((1 - 1) * row.head.record_len) row.body, first.last, whole.body))

module _ (content : Content) (valid : IsValid content) (session : Session) (suits : Suits session content.rows) (allowed : List ℕ → Mode → Bool) (c : Apdu) where
  gives_numbers : (row : FileRow) (numbers : List ℕ) → IsOpen session c.channel → IsAmong content.rows row → holds_files row.head.kind ≡ false
      → AllByRecursion (HasRecord row.head) numbers → (giving_numbers session c row.head.path numbers).own ≡ None
      → CanCarryOut content (giving_numbers session c row.head.path numbers).done
  gives_numbers row [] is_open among bare each own = absurd (cc)
  gives_numbers row (first ∷ rest) is_open among bare each own = record {
    change = tt;
    session = Suits-waiting c.le (using session c.channel row.head.path first) content.rows c.channel (first ∷ rest)
        (Suits-using session content.rows c.channel row first suits is_open among bare (inr each.0));
  }

  pub CanCarryOut-search_record : CanCarryOut content (decided session (search_record_row content.rows allowed session c))
  CanCarryOut-search_record =
      where_named-has (CanCarryOut content) session (CanCarryOut-refused content session suits) (needs_of_writing session c) _ (search_place c.p1 c.p2)
      (λ place. on_file-has (CanCarryOut content) session (CanCarryOut-refused content session suits) (needs_of_writing session c) allowed (not_there place.file)
      (searching session c place) (file_named content.rows (open_channel session c.channel) place.file)
      (λ row named channel lengths kind own.
      let on : OnRecords content valid session suits allowed c place.file row = on_records content valid session suits allowed c place.file row named channel kind in
      let before : ℕ = pointer_at (open_channel session c.channel) place.file in
      at_record-has (CanCarryOut content) session (λ number. giving_numbers session c row.head.path (found_from row c.body place.direction number))
      (record_in row.head before (search_start place before))
      (λ number at last.
      let there : HasRecord row.head number =
      if_some (HasRecord row.head) (record_in row.head before (search_start place before)) number (record_there row before (search_start place before) on.whole on.pointer) at in
      gives_numbers row (found_from row c.body place.direction number) channel on.among (bare_records row.head.kind kind) (found_there row c.body place.direction number on.whole there) last)
      own))

  gives_sum : (row : FileRow) (sum : Option (List ℕ)) → IsOpen session c.channel → IsAmong content.rows row → holds_files row.head.kind ≡ false → row.head.kind ≡ Cyclic
      → HasRecord row.head 1 → IfSome sum (λ sum. length sum ≡ row.head.record_len) → (giving_sum session c row.head.path sum).own ≡ None
      → CanCarryOut content (giving_sum session c row.head.path sum).done
  gives_sum row None is_open among bare goes first exact own = absurd (cc)
  gives_sum row (Some sum) is_open among bare goes first exact own =
      let fits : IsRecordFor row 0 sum = record { exact = exact; place = inr (refl, goes) } in
      record {
        change = (fits_where content (WriteRecord row.head.path 0 sum) valid).1 (at_its_path (λ row. IsRecordFor row 0 sum) content.rows row among fits);
        session = Suits-written row.head.path (with_record 0 sum) _ content.rows
            (Suits-waiting c.le (using session c.channel row.head.path 1) content.rows c.channel (sum ++ c.body)
            (Suits-using session content.rows c.channel row 1 suits is_open among bare (inr first)));
      }

  pub CanCarryOut-increase : CanCarryOut content (decided session (increase_row content.rows allowed session c))
  CanCarryOut-increase =
      where_named-has (CanCarryOut content) session (CanCarryOut-refused content session suits) (needs_of_writing session c) _ (increase_file c.p1 c.p2)
      (λ file. on_file-has (CanCarryOut content) session (CanCarryOut-refused content session suits) (needs_of_writing session c) allowed (not_there file)
      (increasing session c) (file_named content.rows (open_channel session c.channel) file)
      (λ row named channel lengths kind own.
      let among : IsAmong content.rows row = named_among content.rows (open_channel session c.channel) file row (apart_rows content valid) named in
      let is : IsRow row = row_is content.rows (are_rows content valid) row.head.path row among in
      let first : HoldsWholeRecords row × HasRecord row.head 1 = first_record row is kind in
      let exact : (o : Option (List ℕ)) → sum_of (record_bytes row 1) c.body ≡ o → IfSome o (λ sum. length sum ≡ row.head.record_len)
      = λ o. elim o as (λ o. sum_of (record_bytes row 1) c.body ≡ o → IfSome o (λ sum. length sum ≡ row.head.record_len)) [
        | None ↦ λ e. tt
        | Some sum ↦ λ e. length-sum_of (record_bytes row 1) c.body sum e ∙ length-first row first.0 first.1
      ] in
      gives_sum row (sum_of (record_bytes row 1) c.body) channel among (bare_records row.head.kind (cyclic_has row.head.kind kind)) (cyclic_kind row.head.kind kind) first.1
      (exact (sum_of (record_bytes row 1) c.body) refl)
      (first_none _ _ (rest_none (refused_unless (can_be_added (record_bytes row 1) c.body) WRONG_LENGTH) _ own))))
