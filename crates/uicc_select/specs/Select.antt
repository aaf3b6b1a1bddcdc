use Rattle.std.specs.Prelude.{ℕ, Bool, false, ◌==◌, ◌&&◌, ◌||◌, if◌then◌else◌, List, [], Option}
use Rattle.std.specs.Prelude.{Some, None, option_and_then, unwrap_or, is_some}
use Rattle.std.specs.Str.{bytes_eq}
use Rattle.apdu_codec.specs.Answer.{status_alone}
use Rattle.apdu_codec.specs.Command.{Apdu}
use Rattle.apdu_codec.specs.declared.answers.Answer.{Answer}
use Rattle.apdu_codec.specs.declared.status.Sw.{Sw}
use Rattle.apdu_codec.specs.declared.status.TheConstants.Sw.{FILE_NOT_FOUND, OK}
use Rattle.apdu_codec.specs.declared.status.TheConstants.Sw.{SELECTED_DEACTIVATED}
use Rattle.apdu_codec.specs.declared.status.TheConstants.Sw.{SELECTED_TERMINATED}
use Rattle.fcp_codec.specs.Writing.{written_fcp}
use Rattle.file_rows.specs.FileHead.{holds_files}
use Rattle.file_rows.specs.Path.{master, parent_of}
use Rattle.file_rows.specs.declared.head.FileHead.{FileHead}
use Rattle.file_rows.specs.declared.head.Life.{Life}
use Rattle.file_rows.specs.declared.head.Life.TheVariants.{Active, Deactivated, Terminated}
use Rattle.file_rows.specs.declared.pin.PinRow.{PinRow}
use Rattle.file_rows.specs.declared.row.FileRow.{FileRow}
use Rattle.uicc_channels.specs.Chan.{at_isdr}
use Rattle.uicc_channels.specs.CommandOutcome.{CommandOutcome, answering}
use Rattle.uicc_channels.specs.CommandRow.{CommandRow}
use Rattle.uicc_channels.specs.Delivery.{answered, le_refusal, waiting}
use Rattle.uicc_channels.specs.Needs.{needs_of}
use Rattle.uicc_channels.specs.Session.{open_channel, with_channel}
use Rattle.uicc_channels.specs.declared.chan.Chan.{Chan}
use Rattle.uicc_channels.specs.declared.session.Session.{Session}
use Rattle.uicc_select.specs.Find.{found}
use Rattle.uicc_select.specs.Target.{is_selection_method, target_of}
use Rattle.uicc_select.specs.declared.selection.TheConstants.{ISDR_AID}
use Rattle.uicc_select.specs.declared.naming.Target.{Target}
use Rattle.uicc_select.specs.declared.naming.Target.TheVariants.{Id, Directory, Parent, Named}
use Rattle.uicc_select.specs.declared.naming.Target.TheVariants.{FromMaster, FromCurrent}

-- P2 00 and 0C: no answer body; 04: the control parameters of the file
abbrev pub are_of_select : ℕ → ℕ → Bool
are_of_select p1 p2 = is_selection_method p1 && ((p2 == 0x00) || (p2 == 0x04) || (p2 == 0x0C))

-- how a file that is selected answers, by its life cycle status
abbrev pub selected_status : Life → Sw
selected_status Active = OK
selected_status Deactivated = SELECTED_DEACTIVATED
selected_status Terminated = SELECTED_TERMINATED

-- selecting an application by its name makes it the channel's
abbrev pub application_after : Option (List ℕ) → Target → List ℕ → Option (List ℕ)
application_after app (Id id) path = app
application_after app (Directory id) path = app
application_after app Parent path = app
application_after app (Named name) path = Some path
application_after app (FromMaster ids) path = app
application_after app (FromCurrent ids) path = app

-- a directory becomes current with no EF; an EF becomes current and so does its directory, with no
-- record; nothing waits
abbrev pub standing_at : Chan → Target → FileHead → Chan
standing_at chan target head =
    let path = head.path in
    let app = application_after chan.app target path in
    if holds_files head.kind
    then record { isdr = false; app = app; dir = path; file = None; pointer = 0; pending = [] }
    else record {
      isdr = false;
      app = app;
      dir = unwrap_or (parent_of path) master;
      file = Some path;
      pointer = 0;
      pending = [];
    }

-- how an answer body is answered, and without one the status word for success alone
abbrev pub answered_if_some : Sw → Option ℕ → Option (List ℕ) → Answer
answered_if_some success le None = status_alone success
answered_if_some success le (Some body) = answered success le body

-- what is left waiting of an answer body, where there is one
abbrev pub waiting_if_some : Option ℕ → Session → ℕ → Option (List ℕ) → Session
waiting_if_some le session channel None = session
waiting_if_some le session channel (Some body) = waiting le session channel body

-- a file is selected: the channel stands at it, and then its control parameters are delivered,
-- where they are asked for
abbrev pub selecting : Session → Apdu → Target → Option (List ℕ) → FileHead → CommandOutcome
selecting session c target parameters head =
    let after = standing_at (open_channel session c.channel) target head in
    let moved = with_channel session c.channel (Some after) in
    record {
      answer = answered_if_some (selected_status head.life) c.le parameters;
      session = waiting_if_some c.le moved c.channel parameters;
      change = None;
    }

-- the ISD-R is selected
abbrev pub selecting_isdr : Session → Apdu → CommandOutcome
selecting_isdr session c =
    answering (with_channel session c.channel (Some at_isdr)) (status_alone OK)

-- the ISD-R is named by its whole AID alone
abbrev pub names_isdr : Target → Bool
names_isdr (Id id) = false
names_isdr (Directory id) = false
names_isdr Parent = false
names_isdr (Named name) = bytes_eq name ISDR_AID
names_isdr (FromMaster ids) = false
names_isdr (FromCurrent ids) = false

-- the control parameters of what is selected, where they are asked for
abbrev pub parameters_for : ℕ → List PinRow → FileRow → Option (List ℕ)
parameters_for p2 pins row = if p2 == 0x04 then Some (written_fcp row.head pins) else None

-- what a target comes to: why it isn't there, why it may be refused where it is, and what
-- selecting it comes to
pub record Selection : Type 0 where
  pub file : Option Sw
  pub own : Option Sw
  pub done : CommandOutcome

abbrev pub no_selection : Session → Selection
no_selection session =
    record { file = Some FILE_NOT_FOUND; own = None; done = answering session (status_alone OK) }

abbrev pub selection_of_file : List PinRow → Session → Apdu → Target → Option FileRow → Selection
selection_of_file pins session c target None = no_selection session
selection_of_file pins session c target (Some row) =
    let parameters = parameters_for c.p2 pins row in
    record {
      file = None;
      own = option_and_then (le_refusal c.le) parameters;
      done = selecting session c target parameters row.head;
    }

-- the ISD-R, where it is here and named, before the files
abbrev pub selection_of :
    List FileRow → List PinRow → Session → Bool → Apdu → Option Target → Selection
selection_of rows pins session isdr_here c None = no_selection session
selection_of rows pins session isdr_here c (Some target) =
    if isdr_here && names_isdr target
    then record { file = None; own = None; done = selecting_isdr session c }
    else
    selection_of_file pins session c target (found rows (open_channel session c.channel) target)

-- ETSI TS 102 221, SELECT
abbrev pub select_row : List FileRow → List PinRow → Session → Bool → Apdu → CommandRow
select_row rows pins session isdr_here c =
    let target = target_of c.p1 c.body in
    let selection = selection_of rows pins session isdr_here c target in
    record {
      needs = record (needs_of session c) {
        parameters = are_of_select c.p1 c.p2;
        lengths = is_some target;
        file = selection.file;
        own = selection.own;
      };
      done = selection.done;
    }
