-- What SELECT and STATUS leave as it is.
use Rattle.std.proofs.Common.{◌≡◌, ◌≢◌, ℕ, Bool, true, false, cond, List, [], length, refl, sym}
use Rattle.std.proofs.Common.{◌∙◌, ap, Option, Some, None}
use Rattle.std.specs.Prelude.{◌==◌, ◌&&◌, is_some, option_and_then, unwrap_or, if◌then◌else◌}
use Rattle.apdu_codec.specs.Answer.{status_alone}
use Rattle.apdu_codec.specs.Command.{Apdu}
use Rattle.apdu_codec.specs.declared.answers.Answer.{Answer}
use Rattle.apdu_codec.specs.declared.status.Sw.{Sw}
use Rattle.apdu_codec.specs.declared.status.TheConstants.Sw.{OK}
use Rattle.file_rows.specs.declared.head.Life.{Life}
use Rattle.file_rows.specs.declared.head.Life.TheVariants.{Active, Deactivated, Terminated}
use Rattle.file_rows.specs.declared.pin.PinRow.{PinRow}
use Rattle.file_rows.specs.declared.row.FileRow.{FileRow}
use Rattle.uicc_channels.proofs.AcceptedLemmas.{IsDoneOrRefused-accepted, IsDoneOrRefused-decided}
use Rattle.uicc_channels.proofs.AcceptedLemmas.{IsDoneOrRefused-delivered, accepted-answered}
use Rattle.uicc_channels.proofs.NeedsLemmas.{AllMet, all_met}
use Rattle.uicc_channels.proofs.RowLemmas.{decided-has}
use Rattle.uicc_channels.proofs.SessionLemmas.{channel_at-waiting, channel_at-with_channel}
use Rattle.uicc_channels.specs.Accepted.{IsDoneOrRefused, is_accepted}
use Rattle.uicc_channels.specs.ChannelLaws.{LeavesOthers, StaysOnChannel}
use Rattle.uicc_channels.specs.Chan.{at_isdr}
use Rattle.uicc_channels.specs.CommandOutcome.{CommandOutcome, answering}
use Rattle.uicc_channels.specs.CommandRow.{decided, refusal_of}
use Rattle.uicc_channels.specs.Delivery.{delivered, le_refusal, waiting}
use Rattle.uicc_channels.specs.Session.{channel_at, open_channel, with_channel}
use Rattle.uicc_channels.specs.declared.chan.Chan.{Chan}
use Rattle.uicc_channels.specs.declared.session.Session.{Session}
use Rattle.uicc_select.specs.Find.{found}
use Rattle.uicc_select.specs.Select.{answered_if_some, names_isdr, parameters_for, select_row}
use Rattle.uicc_select.specs.Select.{selected_status, selecting_isdr, selection_of}
use Rattle.uicc_select.specs.Select.{selection_of_file, standing_at, waiting_if_some}
use Rattle.uicc_select.specs.Status.{name_of_application, parameters_of_directory, status_row}
use Rattle.uicc_select.specs.Target.{target_of}
use Rattle.uicc_select.specs.declared.naming.Target.{Target}

stays-same : (session : Session) (channel : ℕ) (answer : Answer) → StaysOnChannel session channel (answering session answer)
stays-same session channel answer = record { others = λ other apart. refl; alone = (refl, refl) }

module _ (session : Session) (channel : ℕ) where
  others-moved : (le : Option ℕ) (body : Option (List ℕ)) (place : Option Chan) → LeavesOthers session channel (waiting_if_some le (with_channel session channel place) channel body)
  others-moved le None place other apart = channel_at-with_channel session channel other place apart
  others-moved le (Some body) place other apart =
      channel_at-waiting le (with_channel session channel place) channel other body apart ∙ channel_at-with_channel session channel other place apart

  channels-moved : (le : Option ℕ) (body : Option (List ℕ)) (place : Option Chan) → waiting_if_some le (with_channel session channel place) channel body
      ≡ record session { channels = (waiting_if_some le (with_channel session channel place) channel body).channels }
  channels-moved le None place = refl
  channels-moved None (Some body) place = refl
  channels-moved (Some le) (Some body) place = refl

module _ (rows : List FileRow) (pins : List PinRow) (session : Session) (isdr_here : Bool) (c : Apdu) where
  stays-file : (target : Target) (row : Option FileRow) → StaysOnChannel session c.channel (selection_of_file pins session c target row).done
  stays-file target None = stays-same session c.channel (status_alone OK)
  stays-file target (Some row) =
      let body = parameters_for c.p2 pins row in
      let place = Some (standing_at (open_channel session c.channel) target row.head) in
      record { others = others-moved session c.channel c.le body place; alone = (channels-moved session c.channel c.le body place, refl) }

  stays-target : (target : Option Target) → StaysOnChannel session c.channel (selection_of rows pins session isdr_here c target).done
  stays-target None = stays-same session c.channel (status_alone OK)
  stays-target (Some target) = either (isdr_here && names_isdr target)
    where
      either : (isdr : Bool) → StaysOnChannel session c.channel (if isdr then record { file = None; own = None; done = selecting_isdr session c }
          else selection_of_file pins session c target (found rows (open_channel session c.channel) target)).done
      either true = record { others = λ other apart. channel_at-with_channel session c.channel other (Some at_isdr) apart; alone = (refl, refl) }
      either false = stays-file target (found rows (open_channel session c.channel) target)

  accepted-selected : (life : Life) → is_accepted (selected_status life) ≡ true
  accepted-selected Active = refl
  accepted-selected Deactivated = refl
  accepted-selected Terminated = refl

  accepted-parameters : (success : Sw) (body : Option (List ℕ)) → is_accepted success ≡ true → option_and_then (le_refusal c.le) body ≡ None
      → is_accepted (answered_if_some success c.le body).sw ≡ true
  accepted-parameters success None accepted own = accepted
  accepted-parameters success (Some body) accepted own = accepted-answered success c.le body accepted own

  accepted-file : (target : Target) (row : Option FileRow) → (selection_of_file pins session c target row).own ≡ None
      → is_accepted (selection_of_file pins session c target row).done.answer.sw ≡ true
  accepted-file target None own = refl
  accepted-file target (Some row) own = accepted-parameters (selected_status row.head.life) (parameters_for c.p2 pins row) (accepted-selected row.head.life) own

  accepted-target : (target : Option Target) → (selection_of rows pins session isdr_here c target).own ≡ None
      → is_accepted (selection_of rows pins session isdr_here c target).done.answer.sw ≡ true
  accepted-target None own = refl
  accepted-target (Some target) own = either (isdr_here && names_isdr target) own
    where
      either : (isdr : Bool)
          → (if isdr then record { file = None; own = None; done = selecting_isdr session c }
          else selection_of_file pins session c target (found rows (open_channel session c.channel) target)).own ≡ None
          → is_accepted (if isdr then record { file = None; own = None; done = selecting_isdr session c }
          else selection_of_file pins session c target (found rows (open_channel session c.channel) target)).done.answer.sw ≡ true
      either true e = refl
      either false e = accepted-file target (found rows (open_channel session c.channel) target) e

  pub refused-select : IsDoneOrRefused session (decided session (select_row rows pins session isdr_here c))
  refused-select =
      let row = select_row rows pins session isdr_here c in
      IsDoneOrRefused-decided session row
      (λ none. let met : AllMet row.needs = all_met row.needs none in accepted-target (target_of c.p1 c.body) met.own)

  pub stays-select : StaysOnChannel session c.channel (decided session (select_row rows pins session isdr_here c))
  stays-select =
      decided-has (StaysOnChannel session c.channel) session (select_row rows pins session isdr_here c)
      (λ sw said. stays-same session c.channel (status_alone sw)) (λ none. stays-target (target_of c.p1 c.body))

module _ (rows : List FileRow) (pins : List PinRow) (session : Session) (c : Apdu) where
  stays-delivered : (body : List ℕ) → StaysOnChannel session c.channel (delivered session c body)
  stays-delivered body = record { others = λ other apart. channel_at-waiting c.le session c.channel other body apart; alone = (channels c.le, refl) }
    where
      channels : (le : Option ℕ) → waiting le session c.channel body ≡ record session { channels = (waiting le session c.channel body).channels }
      channels None = refl
      channels (Some le) = refl

  -- what STATUS comes to by its P2
  by_parameters : (P : CommandOutcome → Type 0) (first second : Bool) → ((body : List ℕ) → P (delivered session c body)) → P (answering session (status_alone OK))
      → P (if first then delivered session c (unwrap_or (parameters_of_directory rows pins (open_channel session c.channel)) [])
      else if second then delivered session c (unwrap_or (name_of_application rows (open_channel session c.channel)) []) else answering session (status_alone OK))
  by_parameters P true second given none = given (unwrap_or (parameters_of_directory rows pins (open_channel session c.channel)) [])
  by_parameters P false true given none = given (unwrap_or (name_of_application rows (open_channel session c.channel)) [])
  by_parameters P false false given none = none

  pub stays-status : StaysOnChannel session c.channel (decided session (status_row rows pins session c))
  stays-status =
      decided-has (StaysOnChannel session c.channel) session (status_row rows pins session c)
      (λ sw said. stays-same session c.channel (status_alone sw))
      (λ none. by_parameters (StaysOnChannel session c.channel) (c.p2 == 0x00) (c.p2 == 0x01) stays-delivered (stays-same session c.channel (status_alone OK)))

  pub refused-status : IsDoneOrRefused session (decided session (status_row rows pins session c))
  refused-status =
      decided-has (IsDoneOrRefused session) session (status_row rows pins session c) (λ sw said other. refl)
      (λ none. by_parameters (IsDoneOrRefused session) (c.p2 == 0x00) (c.p2 == 0x01) (IsDoneOrRefused-delivered session c)
      (IsDoneOrRefused-accepted session (answering session (status_alone OK)) refl))
