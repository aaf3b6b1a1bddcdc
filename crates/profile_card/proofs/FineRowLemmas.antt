-- The rows of SELECT, STATUS, the commands on data, those on channels and those of a terminal
-- answer with status words of which none says that the command failed.
use Rattle.std.proofs.Common.{◌-◌, ◌+◌, ℕ, Bool, nat_le, nat_lt, List}
use Rattle.std.proofs.Common.{[], ◌∷◌, ◌++◌, length, drop, Option, Some, None, refl}
use Rattle.std.specs.Prelude.{◌==◌, ◌||◌, ◌&&◌, option_and_then, is_some, unwrap_or}
use Rattle.apdu_codec.specs.Command.{Apdu}
use Rattle.apdu_codec.specs.declared.status.Sw.{Sw}
use Rattle.apdu_codec.specs.declared.status.TheConstants.Sw as sws
use Rattle.file_rows.specs.declared.head.Life.{Life}
use Rattle.file_rows.specs.declared.head.Life.TheVariants as lives
use Rattle.file_rows.specs.declared.mode.Mode.{Mode}
use Rattle.file_rows.specs.declared.pin.PinRow.{PinRow}
use Rattle.file_rows.specs.declared.row.FileRow.{FileRow}
use Rattle.lsi_refresh.specs.Fetch.{fetch_row}
use Rattle.lsi_refresh.specs.RefreshCommand.{refresh_command}
use Rattle.lsi_refresh.specs.RefreshState.{is_announced, is_fetched}
use Rattle.lsi_refresh.specs.TerminalCommand.{taken_row}
use Rattle.lsi_refresh.specs.TerminalResponse.{terminal_response_row}
use Rattle.uicc_channels.specs.CommandOutcome.{CommandOutcome}
use Rattle.uicc_channels.specs.CommandRow.{CommandRow}
use Rattle.uicc_channels.specs.Delivery.{delivered, le_refusal}
use Rattle.uicc_channels.specs.GetResponse.{get_response_row, giving_refusal, rest_status}
use Rattle.uicc_channels.specs.ManageChannel.{is_opening, lowest_closed}
use Rattle.uicc_channels.specs.ManageChannel.{manage_channel_row, opening_refusal}
use Rattle.uicc_channels.specs.Needs.{Needs, refused_unless}
use Rattle.uicc_channels.specs.Session.{channel_at, open_channel}
use Rattle.uicc_channels.specs.declared.session.Session.{Session}
use Rattle.uicc_data.specs.Binary.{binary_place, read_binary_row, read_refusal, reading}
use Rattle.uicc_data.specs.Binary.{update_binary_row, write_refusal, writing}
use Rattle.uicc_data.specs.FileReference.{file_named, not_there}
use Rattle.uicc_data.specs.FileUse.{FileUse, needs_of_reading, needs_of_writing, on_file, on_named}
use Rattle.uicc_data.specs.FileUse.{where_named}
use Rattle.uicc_data.specs.Increase.{can_be_added, giving_sum, increase_file, increase_row}
use Rattle.uicc_data.specs.Increase.{increasing}
use Rattle.uicc_data.specs.Number.{sum_of}
use Rattle.uicc_data.specs.Record.{RecordUse, at_record, read_record_row, reading_number}
use Rattle.uicc_data.specs.Record.{reading_record, record_place, update_record_row, write_place}
use Rattle.uicc_data.specs.Record.{writing_number, writing_record}
use Rattle.uicc_data.specs.RecordWalk.{record_bytes, record_in}
use Rattle.uicc_data.specs.FileReference.{pointer_at}
use Rattle.uicc_data.specs.Search.{found_from, giving_numbers, search_place, search_record_row}
use Rattle.uicc_data.specs.Search.{search_start, searching}
use Rattle.uicc_data.specs.declared.reference.FileReference.{FileReference}
use Rattle.uicc_data.specs.declared.reference.FileReference.TheVariants as references
use Rattle.uicc_select.specs.Find.{found}
use Rattle.uicc_select.specs.Select.{Selection, answered_if_some, names_isdr, parameters_for}
use Rattle.uicc_select.specs.Select.{select_row, selected_status}
use Rattle.uicc_select.specs.Select.{selection_of, selection_of_file}
use Rattle.uicc_select.specs.Status.{name_of_application, parameters_of_directory, status_row}
use Rattle.uicc_select.specs.Target.{target_of}
use Rattle.uicc_select.specs.declared.naming.Target.{Target}
use Rattle.profile_card.proofs.FineLemmas.{Fine, FineIf, FineNeeds, FineRow, by_test, fine_answered}
use Rattle.profile_card.proofs.FineLemmas.{fine_first, fine_le, fine_le_refusal, fine_life}
use Rattle.profile_card.proofs.FineLemmas.{fine_missing, fine_unless, fine_waiting}

abbrev FineDone : CommandOutcome → Type 0
FineDone done = Fine done.answer.sw

-- SELECT
record FineSelection (selection : Selection) : Type 0 where
  pub file : FineIf selection.file
  pub own : FineIf selection.own
  pub done : FineDone selection.done

fine_status : (life : Life) → Fine (selected_status life)
fine_status lives.Active = refl
fine_status lives.Deactivated = refl
fine_status lives.Terminated = refl

fine_if_some : (success : Sw) (le : Option ℕ) (parameters : Option (List ℕ)) → Fine success
    → Fine (answered_if_some success le parameters).sw
fine_if_some success le None fine = fine
fine_if_some success le (Some body) fine = fine_answered success le body fine

fine_le_if_some : (le : Option ℕ) (parameters : Option (List ℕ))
    → FineIf (option_and_then (le_refusal le) parameters)
fine_le_if_some le None = tt
fine_le_if_some le (Some body) = fine_le_refusal le body

fine_file : (pins : List PinRow) (session : Session) (c : Apdu) (target : Target)
    (row : Option FileRow) → FineSelection (selection_of_file pins session c target row)
fine_file pins session c target None = record { file = refl; own = tt; done = refl }
fine_file pins session c target (Some row) = record {
  file = tt;
  own = fine_le_if_some c.le (parameters_for c.p2 pins row);
  done = fine_if_some (selected_status row.head.life) c.le (parameters_for c.p2 pins row)
      (fine_status row.head.life);
}

fine_selection : (rows : List FileRow) (pins : List PinRow) (session : Session) (isdr_here : Bool)
    (c : Apdu) (target : Option Target)
    → FineSelection (selection_of rows pins session isdr_here c target)
fine_selection rows pins session isdr_here c None = record { file = refl; own = tt; done = refl }
fine_selection rows pins session isdr_here c (Some target) =
    by_test FineSelection (isdr_here && names_isdr target) _ _
    (record { file = tt; own = tt; done = refl })
    (fine_file pins session c target (found rows (open_channel session c.channel) target))

pub fine_select : (rows : List FileRow) (pins : List PinRow) (session : Session) (isdr_here : Bool)
    (c : Apdu) → FineRow (select_row rows pins session isdr_here c)
fine_select rows pins session isdr_here c =
    let fine : FineSelection (selection_of rows pins session isdr_here c (target_of c.p1 c.body)) =
    fine_selection rows pins session isdr_here c (target_of c.p1 c.body) in
    record {
      needs = record {
        template = tt;
        file = fine.file;
        life = tt;
        description = tt;
        own = fine.own;
      };
      done = fine.done;
    }

fine_delivered : (session : Session) (c : Apdu) (body : List ℕ)
    → FineDone (delivered session c body)
fine_delivered session c body = fine_answered sws.OK c.le body refl

-- STATUS
pub fine_status_row : (rows : List FileRow) (pins : List PinRow) (session : Session) (c : Apdu)
    → FineRow (status_row rows pins session c)
fine_status_row rows pins session c = record {
  needs = record {
    template = tt;
    file = by_test FineIf (c.p2 == 0x00) _ None
        (fine_unless (is_some parameters) sws.FILE_NOT_FOUND refl) tt;
    life = tt;
    description = tt;
    own = by_test FineIf (c.p2 == 0x01) _ None
        (fine_unless (is_some name) sws.DATA_NOT_FOUND refl) tt;
  };
  done = by_test FineDone (c.p2 == 0x00) _ _
      (fine_delivered session c (unwrap_or parameters []))
      (by_test FineDone (c.p2 == 0x01) _ _ (fine_delivered session c (unwrap_or name [])) refl);
}
  where
    parameters : Option (List ℕ)
    parameters = parameters_of_directory rows pins (open_channel session c.channel)

    name : Option (List ℕ)
    name = name_of_application rows (open_channel session c.channel)

-- commands on the file that they name
record FineUse (usage : FileUse) : Type 0 where
  pub own : FineIf usage.own
  pub done : FineDone usage.done

fine_there : (file : FileReference) → Fine (not_there file)
fine_there references.CurrentEf = refl
fine_there (references.Sfi sfi) = refl

module _ (needs : Needs) (fine : FineNeeds needs) (session : Session) where
  fine_on_file : (allowed : List ℕ → Mode → Bool) (sw : Sw) → Fine sw → (usage : FileRow → FileUse)
      → ((row : FileRow) → FineUse (usage row)) → (row : Option FileRow)
      → FineRow (on_file needs session allowed sw usage row)
  fine_on_file allowed sw there usage each None =
      record { needs = fine_missing needs fine sw there; done = refl }
  fine_on_file allowed sw there usage each (Some row) = record {
    needs = record {
      template = fine.template;
      file = fine.file;
      life = fine_life row.head.life;
      description = fine.description;
      own = (each row).own;
    };
    done = (each row).done;
  }

  fine_on_named : (rows : List FileRow) (allowed : List ℕ → Mode → Bool) (c : Apdu)
      (file : FileReference) (usage : FileRow → FileUse) → ((row : FileRow) → FineUse (usage row))
      → FineRow (on_named rows allowed session c needs file usage)
  fine_on_named rows allowed c file usage each =
      fine_on_file allowed (not_there file) (fine_there file) usage each
      (file_named rows (open_channel session c.channel) file)

  fine_where : {X : Type 0} (row : X → CommandRow) → ((place : X) → FineRow (row place))
      → (place : Option X) → FineRow (where_named needs session row place)
  fine_where row each None = record {
    needs = record {
      template = fine.template;
      file = fine.file;
      life = fine.life;
      description = fine.description;
      own = fine.own;
    };
    done = refl;
  }
  fine_where row each (Some place) = each place

record FineRecord (usage : RecordUse) : Type 0 where
  pub own : FineIf usage.own
  pub done : FineDone usage.done

fine_at_record : {X : Type 0} (session : Session) (usage : X → RecordUse)
    → ((found : X) → FineRecord (usage found)) → (found : Option X)
    → FineRecord (at_record session usage found)
fine_at_record session usage each None = record { own = refl; done = refl }
fine_at_record session usage each (Some found) = each found

module _ (rows : List FileRow) (allowed : List ℕ → Mode → Bool) (session : Session) (c : Apdu) where
  plain_reading : FineNeeds (needs_of_reading session c)
  plain_reading = record { template = tt; file = tt; life = tt; description = tt; own = tt }

  plain_writing : FineNeeds (needs_of_writing session c)
  plain_writing = record { template = tt; file = tt; life = tt; description = tt; own = tt }

  fine_read : (body : List ℕ) (offset le : ℕ) → FineIf (read_refusal body offset le)
  fine_read body offset le =
      by_test FineIf (nat_le (length body) offset) _ _ refl
      (by_test FineIf (le == 256) None _ tt
      (by_test FineIf (nat_lt (length body - offset) le) _ None (fine_le (length body - offset))
      tt))

  fine_write : (body : List ℕ) (offset : ℕ) (bytes : List ℕ)
      → FineIf (write_refusal body offset bytes)
  fine_write body offset bytes =
      by_test FineIf (nat_le (length body) offset) _ _ refl
      (by_test FineIf (nat_lt (length body) (offset + length bytes)) _ None refl tt)

  pub fine_read_binary : FineRow (read_binary_row rows allowed session c)
  fine_read_binary =
      fine_where (needs_of_reading session c) plain_reading session
      (λ place. on_named rows allowed session c (needs_of_reading session c) place.file
      (reading session c place))
      (λ place. fine_on_named (needs_of_reading session c) plain_reading session rows allowed c
      place.file (reading session c place)
      (λ row. record { own = fine_read row.body place.offset (unwrap_or c.le 0); done = refl }))
      (binary_place c.p1 c.p2)

  pub fine_update_binary : FineRow (update_binary_row rows allowed session c)
  fine_update_binary =
      fine_where (needs_of_writing session c) plain_writing session
      (λ place. on_named rows allowed session c (needs_of_writing session c) place.file
      (writing session c place))
      (λ place. fine_on_named (needs_of_writing session c) plain_writing session rows allowed c
      place.file (writing session c place)
      (λ row. record { own = fine_write row.body place.offset c.body; done = refl }))
      (binary_place c.p1 c.p2)

  pub fine_read_record : FineRow (read_record_row rows allowed session c)
  fine_read_record =
      fine_where (needs_of_reading session c) plain_reading session
      (λ place. on_named rows allowed session c (needs_of_reading session c) place.file
      (reading_record session c place))
      (λ place. fine_on_named (needs_of_reading session c) plain_reading session rows allowed c
      place.file (reading_record session c place)
      (λ row.
      let before : ℕ = pointer_at (open_channel session c.channel) place.file in
      let fine : FineRecord (at_record session (reading_number session c place row)
      (record_in row.head before place.name)) =
      fine_at_record session (reading_number session c place row)
      (λ number. record { own = fine_le_refusal c.le (record_bytes row number); done = refl })
      (record_in row.head before place.name) in
      record { own = fine.own; done = fine.done })) (record_place c.p1 c.p2)

  pub fine_update_record : FineRow (update_record_row rows allowed session c)
  fine_update_record =
      fine_where (needs_of_writing session c) plain_writing session
      (λ place. on_named rows allowed session c (needs_of_writing session c) place.file
      (writing_record session c place))
      (λ place. fine_on_named (needs_of_writing session c) plain_writing session rows allowed c
      place.file (writing_record session c place)
      (λ row.
      let before : ℕ = pointer_at (open_channel session c.channel) place.file in
      let fine : FineRecord (at_record session (writing_number session c row)
      (write_place row.head before place.name)) =
      fine_at_record session (writing_number session c row)
      (λ written. record {
        own = fine_unless (length c.body == row.head.record_len) sws.WRONG_LENGTH refl;
        done = refl;
      }) (write_place row.head before place.name) in
      record { own = fine.own; done = fine.done })) (record_place c.p1 c.p2)

  fine_numbers : (path numbers : List ℕ) → FineRecord (giving_numbers session c path numbers)
  fine_numbers path [] = record { own = refl; done = refl }
  fine_numbers path (first ∷ rest) = record {
    own = fine_le_refusal c.le (first ∷ rest);
    done = fine_answered sws.OK c.le (first ∷ rest) refl;
  }

  pub fine_search_record : FineRow (search_record_row rows allowed session c)
  fine_search_record =
      fine_where (needs_of_writing session c) plain_writing session
      (λ place. on_named rows allowed session c (needs_of_writing session c) place.file
      (searching session c place))
      (λ place. fine_on_named (needs_of_writing session c) plain_writing session rows allowed c
      place.file (searching session c place)
      (λ row.
      let before : ℕ = pointer_at (open_channel session c.channel) place.file in
      let start : Option ℕ = record_in row.head before (search_start place before) in
      let numbers : ℕ → List ℕ = found_from row c.body place.direction in
      let fine : FineRecord (at_record session
      (λ number. giving_numbers session c row.head.path (numbers number)) start) =
      fine_at_record session (λ number. giving_numbers session c row.head.path (numbers number))
      (λ number. fine_numbers row.head.path (numbers number)) start in
      record { own = fine.own; done = fine.done })) (search_place c.p1 c.p2)

  fine_sum : (path : List ℕ) (sum : Option (List ℕ)) → FineRecord (giving_sum session c path sum)
  fine_sum path None = record { own = refl; done = refl }
  fine_sum path (Some sum) = record {
    own = fine_le_refusal c.le (sum ++ c.body);
    done = fine_answered sws.OK c.le (sum ++ c.body) refl;
  }

  pub fine_increase : FineRow (increase_row rows allowed session c)
  fine_increase =
      fine_where (needs_of_writing session c) plain_writing session
      (λ file. on_named rows allowed session c (needs_of_writing session c) file
      (increasing session c))
      (λ file. fine_on_named (needs_of_writing session c) plain_writing session rows allowed c
      file (increasing session c)
      (λ row.
      let number : List ℕ = record_bytes row 1 in
      let fine : FineRecord (giving_sum session c row.head.path (sum_of number c.body)) =
      fine_sum row.head.path (sum_of number c.body) in
      record {
        own = fine_first
            (refused_unless (can_be_added number c.body) sws.WRONG_LENGTH
            ∷ (giving_sum session c row.head.path (sum_of number c.body)).own ∷ [])
            (fine_unless (can_be_added number c.body) sws.WRONG_LENGTH refl, (fine.own, tt));
        done = fine.done;
      })) (increase_file c.p1 c.p2)

module _ (session : Session) (c : Apdu) where
  fine_opening : (number : Option ℕ) → FineIf (opening_refusal number c.le)
  fine_opening None = refl
  fine_opening (Some number) = fine_le_refusal c.le (number ∷ [])

  pub fine_manage_channel : FineRow (manage_channel_row session c)
  fine_manage_channel = record {
    needs = record {
      template = tt;
      file = tt;
      life = tt;
      description = tt;
      own = by_test FineIf (is_opening c.p1 c.p2) _ _ (fine_opening (lowest_closed session))
          (fine_unless (is_some (channel_at session c.p2)) sws.CHANNEL_NOT_SUPPORTED refl);
    };
    done = by_test FineDone (is_opening c.p1 c.p2) _ _
        (fine_answered sws.OK c.le (unwrap_or (lowest_closed session) 0 ∷ []) refl) refl;
  }

  fine_giving : (pending : List ℕ) (le : ℕ) → FineIf (giving_refusal pending le)
  fine_giving [] le = refl
  fine_giving (byte ∷ bytes) le =
      by_test FineIf ((le == 256) || nat_le le (length (byte ∷ bytes))) None _ tt
      (fine_le (length (byte ∷ bytes)))

  fine_rest : (rest : List ℕ) → Fine (rest_status rest)
  fine_rest [] = refl
  fine_rest (byte ∷ bytes) = fine_waiting (length (byte ∷ bytes))

  pub fine_get_response : FineRow (get_response_row session c)
  fine_get_response = record {
    needs = record {
      template = tt;
      file = tt;
      life = tt;
      description = tt;
      own = fine_giving (open_channel session c.channel).pending (unwrap_or c.le 0);
    };
    done = fine_rest (drop (unwrap_or c.le 0) (open_channel session c.channel).pending);
  }

  -- the commands of a terminal
  pub fine_taken : FineRow (taken_row session c)
  fine_taken = record {
    needs = record { template = tt; file = tt; life = tt; description = tt; own = tt };
    done = refl;
  }

  pub fine_fetch : FineRow (fetch_row session c)
  fine_fetch = record {
    needs = record {
      template = tt;
      file = tt;
      life = tt;
      description = tt;
      own = fine_first
          (refused_unless (is_announced session.refresh) sws.CONDITIONS_NOT_SATISFIED
          ∷ le_refusal c.le refresh_command ∷ []) (
            fine_unless (is_announced session.refresh) sws.CONDITIONS_NOT_SATISFIED refl,
            (fine_le_refusal c.le refresh_command, tt),
          );
    };
    done = refl;
  }

  pub fine_response : FineRow (terminal_response_row session c)
  fine_response = record {
    needs = record {
      template = tt;
      file = tt;
      life = tt;
      description = tt;
      own = fine_unless (is_fetched session.refresh) sws.CONDITIONS_NOT_SATISFIED refl;
    };
    done = refl;
  }
