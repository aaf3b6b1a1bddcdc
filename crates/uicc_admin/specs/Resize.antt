-- RESIZE FILE (ETSI TS 102 222).
use Rattle.std.specs.Prelude.{ℕ, ◌+◌, ◌/◌, ◌%◌, Bool, not, ◌==◌, ◌&&◌, nat_le, if◌then◌else◌, List}
use Rattle.std.specs.Prelude.{length, Option, Some, None, option_and_then, option_map}
use Rattle.apdu_codec.specs.Answer.{status_alone}
use Rattle.apdu_codec.specs.Class.{is_within}
use Rattle.apdu_codec.specs.Command.{Apdu}
use Rattle.apdu_codec.specs.declared.status.Sw.{Sw}
use Rattle.apdu_codec.specs.declared.status.TheConstants.Sw.{FILE_NOT_FOUND, NOT_ENOUGH_SPACE, OK}
use Rattle.apdu_codec.specs.declared.status.TheConstants.Sw.{WRONG_DATA}
use Rattle.fcp_codec.specs.declared.fcp.Fcp.{Fcp}
use Rattle.file_rows.specs.Content.{use_of}
use Rattle.file_rows.specs.FileHead.{is_cyclic, is_linear, is_transparent}
use Rattle.file_rows.specs.declared.change.Change.TheVariants.{FileSize}
use Rattle.file_rows.specs.declared.head.FileHead.{FileHead}
use Rattle.file_rows.specs.declared.mode.Mode.{Mode}
use Rattle.file_rows.specs.declared.mode.Mode.TheVariants.{Ins}
use Rattle.file_rows.specs.declared.row.FileRow.{FileRow}
use Rattle.uicc_channels.specs.CommandOutcome.{answering}
use Rattle.uicc_channels.specs.CommandRow.{CommandRow}
use Rattle.uicc_channels.specs.Life.{life_refusal}
use Rattle.uicc_channels.specs.Needs.{Needs, needs_of}
use Rattle.uicc_channels.specs.Session.{open_channel}
use Rattle.uicc_channels.specs.SessionChange.{with_end}
use Rattle.uicc_channels.specs.declared.session.Session.{Session}
use Rattle.uicc_channels.specs.declared.session_change.NewEnd.{NewEnd}
use Rattle.uicc_admin.specs.FileWork.{FileWork, at_file}
use Rattle.uicc_admin.specs.NamedFile.{ef_in, has_no_parameters}
use Rattle.uicc_admin.specs.Template.{fcp_in}
use Rattle.uicc_admin.specs.declared.resize.NewSize.{NewSize}

-- the file and its new size, where both are said
abbrev pub size_said : Fcp → Option NewSize
size_said fcp = option_and_then
    (λ id. option_map (λ size. record { id = id; size = size }) fcp.size) fcp.id

abbrev pub size_asked : List ℕ → Option NewSize
size_asked body = option_and_then size_said (fcp_in body)

-- whether a file may have this size: 1 to 65,504 bytes, or 1 to 254 whole records
abbrev pub may_have_size : FileHead → ℕ → Bool
may_have_size head size =
    if is_transparent head.kind then is_within 1 65504 size
    else (size % head.record_len == 0) && is_within 1 254 (size / head.record_len)

-- whether the quota of 65,536 bytes has room for it in place of the file's size
abbrev pub is_within_quota : List FileRow → FileHead → ℕ → Bool
is_within_quota rows head size = nat_le (use_of rows + size) (65536 + head.size)

-- why a file can't have this size
abbrev pub size_refusal : List FileRow → FileHead → ℕ → Option Sw
size_refusal rows head size =
    if not (may_have_size head size) then Some WRONG_DATA
    else if not (is_within_quota rows head size) then Some NOT_ENOUGH_SPACE
    else None

-- a file of records has a new end
abbrev pub new_end : FileHead → ℕ → Option NewEnd
new_end head size =
    if is_linear head.kind
    then Some (record { path = head.path; records = size / head.record_len }) else None

-- a file that isn't cyclic has this size afterwards, and no channel a record pointer past its end
abbrev pub resizing : List FileRow → Session → ℕ → FileRow → FileWork
resizing rows session size row =
    record {
      kind = not (is_cyclic row.head.kind);
      life = life_refusal row.head.life;
      mode = Ins 0xD4;
      own = size_refusal rows row.head size;
      done = record {
        answer = status_alone OK;
        session = with_end session (new_end row.head size);
        change = Some (FileSize row.head.path size);
      };
    }

-- an EF in the current directory by what the template asks for
abbrev pub resize_asked :
    List FileRow → (List ℕ → Mode → Bool) → Session → Apdu → Needs → Option NewSize → CommandRow
resize_asked rows allowed session c needs None =
    record {
      needs = record needs { template = Some WRONG_DATA };
      done = answering session (status_alone OK);
    }
resize_asked rows allowed session c needs (Some asked) =
    at_file needs session allowed FILE_NOT_FOUND (resizing rows session asked.size)
    (ef_in rows (open_channel session c.channel).dir asked.id)

-- RESIZE FILE
abbrev pub resize_row :
    List FileRow → (List ℕ → Mode → Bool) → Session → Apdu → CommandRow
resize_row rows allowed session c =
    let needs = record (needs_of session c) {
      parameters = has_no_parameters c;
      lengths = not (length c.body == 0);
    } in
    resize_asked rows allowed session c needs (size_asked c.body)
