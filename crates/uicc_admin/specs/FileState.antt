-- ACTIVATE FILE, DEACTIVATE FILE (ETSI TS 102 221) and TERMINATE EF (ETSI TS 102 222).
use Rattle.std.specs.Prelude.{ℕ, Bool, true, false, List, Option, Some, None, if◌then◌else◌}
use Rattle.apdu_codec.specs.Answer.{status_alone}
use Rattle.apdu_codec.specs.Command.{Apdu}
use Rattle.apdu_codec.specs.declared.status.Sw.{Sw}
use Rattle.apdu_codec.specs.declared.status.TheConstants.Sw.{CONDITIONS_NOT_SATISFIED, OK}
use Rattle.file_rows.specs.declared.change.Change.{Change}
use Rattle.file_rows.specs.declared.change.Change.TheVariants.{FileState}
use Rattle.file_rows.specs.declared.head.FileHead.{FileHead}
use Rattle.file_rows.specs.declared.head.Life.{Life}
use Rattle.file_rows.specs.declared.head.Life.TheVariants.{Active, Deactivated, Terminated}
use Rattle.file_rows.specs.declared.mode.Mode.{Mode}
use Rattle.file_rows.specs.declared.mode.Mode.TheVariants.{Bit}
use Rattle.file_rows.specs.declared.row.FileRow.{FileRow}
use Rattle.uicc_channels.specs.CommandRow.{CommandRow}
use Rattle.uicc_channels.specs.Needs.{needs_of}
use Rattle.uicc_channels.specs.Session.{open_channel}
use Rattle.uicc_channels.specs.declared.session.Session.{Session}
use Rattle.uicc_admin.specs.FileWork.{FileWork, at_file}
use Rattle.uicc_admin.specs.NamedFile.{ef_named, ef_not_there, has_no_parameters, may_name_ef}

-- a terminated file stays so; a deactivated one may change its state
abbrev pub state_refusal : Life → Option Sw
state_refusal Active = None
state_refusal Deactivated = None
state_refusal Terminated = Some CONDITIONS_NOT_SATISFIED

-- whether two states are one
abbrev pub same_life : Life → Life → Bool
same_life Active Active = true
same_life Active Deactivated = false
same_life Active Terminated = false
same_life Deactivated Active = false
same_life Deactivated Deactivated = true
same_life Deactivated Terminated = false
same_life Terminated Active = false
same_life Terminated Deactivated = false
same_life Terminated Terminated = true

-- a file in that state already isn't changed
abbrev pub change_of_state : FileHead → Life → Option Change
change_of_state head life =
    if same_life head.life life then None else Some (FileState head.path life)

-- what the access rules must allow for a file to come into this state
abbrev pub mode_for : Life → Mode
mode_for Active = Bit 0x10
mode_for Deactivated = Bit 0x08
mode_for Terminated = Bit 0x20

-- a file comes into this state
abbrev pub changing_state : Session → Life → FileRow → FileWork
changing_state session life row =
    record {
      kind = true;
      life = state_refusal row.head.life;
      mode = mode_for life;
      own = None;
      done = record {
        answer = status_alone OK;
        session = session;
        change = change_of_state row.head life;
      };
    }

-- the command that asks for this state
abbrev pub state_row :
    Life → List FileRow → (List ℕ → Mode → Bool) → Session → Apdu → CommandRow
state_row life rows allowed session c =
    let needs = record (needs_of session c) {
      parameters = has_no_parameters c;
      lengths = may_name_ef c.body;
    } in
    at_file needs session allowed (ef_not_there c.body) (changing_state session life)
    (ef_named rows (open_channel session c.channel) c.body)

-- ACTIVATE FILE
abbrev pub activate_row :
    List FileRow → (List ℕ → Mode → Bool) → Session → Apdu → CommandRow
activate_row = state_row Active

-- DEACTIVATE FILE
abbrev pub deactivate_row :
    List FileRow → (List ℕ → Mode → Bool) → Session → Apdu → CommandRow
deactivate_row = state_row Deactivated

-- TERMINATE EF
abbrev pub terminate_row :
    List FileRow → (List ℕ → Mode → Bool) → Session → Apdu → CommandRow
terminate_row = state_row Terminated
