use Rattle.std.specs.Prelude.{ℕ, ◌==◌, ◌&&◌, ◌||◌, if◌then◌else◌, Bool, List, [], ◌∷◌, length}
use Rattle.std.specs.Prelude.{Option, None, option_map, unwrap_or, is_some}
use Rattle.apdu_codec.specs.Answer.{status_alone}
use Rattle.apdu_codec.specs.Command.{Apdu}
use Rattle.apdu_codec.specs.declared.status.TheConstants.Sw.{DATA_NOT_FOUND, FILE_NOT_FOUND, OK}
use Rattle.fcp_codec.specs.Writing.{written_fcp}
use Rattle.file_rows.specs.Content.{file_at}
use Rattle.file_rows.specs.Find.{file_of_path}
use Rattle.file_rows.specs.declared.pin.PinRow.{PinRow}
use Rattle.file_rows.specs.declared.row.FileRow.{FileRow}
use Rattle.uicc_channels.specs.CommandOutcome.{answering}
use Rattle.uicc_channels.specs.CommandRow.{CommandRow}
use Rattle.uicc_channels.specs.Delivery.{delivered}
use Rattle.uicc_channels.specs.Needs.{needs_of, refused_unless}
use Rattle.uicc_channels.specs.Session.{open_channel}
use Rattle.uicc_channels.specs.declared.chan.Chan.{Chan}
use Rattle.uicc_channels.specs.declared.session.Session.{Session}

-- P1 00, 01 and 02, of which none changes the answer; P2 00, 01 and 0C: the control parameters of
-- the current directory, the application's name, no answer body
abbrev pub are_of_status : ℕ → ℕ → Bool
are_of_status p1 p2 =
    ((p1 == 0x00) || (p1 == 0x01) || (p1 == 0x02)) && ((p2 == 0x00) || (p2 == 0x01) || (p2 == 0x0C))

-- the DF name of the control parameters, alone
abbrev pub name_object : List ℕ → List ℕ
name_object name = 0x84 ∷ length name ∷ name

-- the control parameters of the current directory, where there is one
abbrev pub parameters_of_directory : List FileRow → List PinRow → Chan → Option (List ℕ)
parameters_of_directory rows pins chan =
    option_map (λ row. written_fcp row.head pins) (file_at chan.dir rows)

-- the name of the channel's application, where there is one
abbrev pub name_of_application : List FileRow → Chan → Option (List ℕ)
name_of_application rows chan =
    option_map (λ row. name_object row.head.name) (file_of_path rows chan.app)

-- ETSI TS 102 221, STATUS
abbrev pub status_row : List FileRow → List PinRow → Session → Apdu → CommandRow
status_row rows pins session c =
    let chan = open_channel session c.channel in
    let parameters = parameters_of_directory rows pins chan in
    let name = name_of_application rows chan in
    record {
      needs = record (needs_of session c) {
        parameters = are_of_status c.p1 c.p2;
        lengths = length c.body == 0;
        file = if c.p2 == 0x00 then refused_unless (is_some parameters) FILE_NOT_FOUND else None;
        own = if c.p2 == 0x01 then refused_unless (is_some name) DATA_NOT_FOUND else None;
      };
      done =
          if c.p2 == 0x00 then delivered session c (unwrap_or parameters [])
          else if c.p2 == 0x01 then delivered session c (unwrap_or name [])
          else answering session (status_alone OK);
    }
