-- CREATE FILE (ETSI TS 102 222).
use Rattle.std.specs.Prelude.{ℕ, Bool, true, not, ◌==◌, if◌then◌else◌, List, length, Option, Some}
use Rattle.std.specs.Prelude.{None, is_some, option_and_then, option_map, Result, Ok, Err}
use Rattle.apdu_codec.specs.Answer.{status_alone}
use Rattle.apdu_codec.specs.Command.{Apdu}
use Rattle.apdu_codec.specs.declared.status.Sw.{Sw}
use Rattle.apdu_codec.specs.declared.status.TheConstants.Sw.{FILE_EXISTS, FILE_NOT_FOUND}
use Rattle.apdu_codec.specs.declared.status.TheConstants.Sw.{NAME_EXISTS, NOT_ENOUGH_SPACE, OK}
use Rattle.apdu_codec.specs.declared.status.TheConstants.Sw.{WRONG_DATA}
use Rattle.fcp_codec.specs.Creation.{created, is_directory}
use Rattle.fcp_codec.specs.FileForm.{form_of}
use Rattle.fcp_codec.specs.declared.creation.CreationFault.{CreationFault}
use Rattle.fcp_codec.specs.declared.creation.CreationFault.TheVariants.{BadParameters, IdInUse}
use Rattle.fcp_codec.specs.declared.creation.CreationFault.TheVariants.{NameInUse, QuotaExceeded}
use Rattle.fcp_codec.specs.declared.fcp.Fcp.{Fcp}
use Rattle.fcp_codec.specs.declared.fcp.FileForm.{FileForm}
use Rattle.file_rows.specs.Content.{file_at}
use Rattle.file_rows.specs.FileHead.{holds_files}
use Rattle.file_rows.specs.declared.change.Change.TheVariants.{FileAdd}
use Rattle.file_rows.specs.declared.head.FileHead.{FileHead}
use Rattle.file_rows.specs.declared.mode.Mode.{Mode}
use Rattle.file_rows.specs.declared.mode.Mode.TheVariants.{Bit}
use Rattle.file_rows.specs.declared.row.FileRow.{FileRow}
use Rattle.uicc_channels.specs.CommandOutcome.{CommandOutcome, answering}
use Rattle.uicc_channels.specs.CommandRow.{CommandRow}
use Rattle.uicc_channels.specs.Needs.{needs_of, refused_unless}
use Rattle.uicc_channels.specs.Session.{open_channel, with_channel}
use Rattle.uicc_channels.specs.declared.chan.Chan.{Chan}
use Rattle.uicc_channels.specs.declared.session.Session.{Session}
use Rattle.uicc_admin.specs.FileWork.{FileWork, at_file}
use Rattle.uicc_admin.specs.NamedFile.{has_no_parameters}
use Rattle.uicc_admin.specs.Template.{fcp_in}
use Rattle.uicc_admin.specs.declared.create_command.NewFile.{NewFile}

-- the parameters of a new file, where they say what the file is
abbrev pub file_said : Fcp → Option NewFile
file_said fcp = option_map (λ form. record { form = form; fcp = fcp }) (form_of fcp.descriptor)

-- the new file that a body describes, where it is a well formed template that says what the file is
abbrev pub file_asked : List ℕ → Option NewFile
file_asked body = option_and_then file_said (fcp_in body)

-- what the access rules of the current directory must allow: a directory in it, or an EF
abbrev pub mode_for_new : FileForm → Mode
mode_for_new form = if is_directory form then Bit 0x04 else Bit 0x02

abbrev pub creation_sw : CreationFault → Sw
creation_sw BadParameters = WRONG_DATA
creation_sw IdInUse = FILE_EXISTS
creation_sw NameInUse = NAME_EXISTS
creation_sw QuotaExceeded = NOT_ENOUGH_SPACE

-- why there can't be such a file
abbrev pub creation_refusal : Result FileHead CreationFault → Option Sw
creation_refusal (Ok head) = None
creation_refusal (Err fault) = Some (creation_sw fault)

-- the channel at a new file: a directory is its current one, with no EF, and an EF is its current
-- one, without a record pointer; its application stays
abbrev pub standing_at_new : FileHead → Chan → Chan
standing_at_new head chan =
    if holds_files head.kind
    then record chan { dir = head.path; file = None; pointer = 0 }
    else record chan { file = Some head.path; pointer = 0 }

-- a file is there that wasn't, and the channel stands at it
abbrev pub adding : Session → ℕ → FileHead → CommandOutcome
adding session channel head =
    record {
      answer = status_alone OK;
      session = with_channel session channel
          (Some (standing_at_new head (open_channel session channel)));
      change = Some (FileAdd head);
    }

abbrev pub creation_done : Session → ℕ → Result FileHead CreationFault → CommandOutcome
creation_done session channel (Ok head) = adding session channel head
creation_done session channel (Err fault) = answering session (status_alone OK)

-- a new file in a directory; where the body describes none, that refuses
abbrev pub creating : List FileRow → Session → Apdu → Option NewFile → FileRow → FileWork
creating rows session c None directory =
    record {
      kind = true;
      life = None;
      mode = Bit 0x02;
      own = None;
      done = answering session (status_alone OK);
    }
creating rows session c (Some new) directory =
    let made = created rows directory.head.path new.fcp in
    record {
      kind = true;
      life = None;
      mode = mode_for_new new.form;
      own = creation_refusal made;
      done = creation_done session c.channel made;
    }

-- CREATE FILE, in the channel's current directory, which isn't there on a card without an MF
abbrev pub create_row :
    List FileRow → (List ℕ → Mode → Bool) → Session → Apdu → CommandRow
create_row rows allowed session c =
    let new = file_asked c.body in
    let needs = record (needs_of session c) {
      parameters = has_no_parameters c;
      lengths = not (length c.body == 0);
      description = refused_unless (is_some new) WRONG_DATA;
    } in
    at_file needs session allowed FILE_NOT_FOUND (creating rows session c new)
    (file_at (open_channel session c.channel).dir rows)
