-- DELETE FILE (ETSI TS 102 222).
use Rattle.std.specs.Prelude.{ℕ, Bool, true, false, not, ◌==◌, ◌&&◌, ◌||◌, if◌then◌else◌, List, []}
use Rattle.std.specs.Prelude.{◌∷◌, length, Option, Some, None, option_and_then, unwrap_or}
use Rattle.std.specs.List.{list_any}
use Rattle.std.specs.Option.{option_or}
use Rattle.apdu_codec.specs.Answer.{status_alone}
use Rattle.apdu_codec.specs.Command.{Apdu}
use Rattle.apdu_codec.specs.declared.status.Sw.{Sw}
use Rattle.apdu_codec.specs.declared.status.TheConstants.Sw.{CONDITIONS_NOT_SATISFIED}
use Rattle.apdu_codec.specs.declared.status.TheConstants.Sw.{FILE_NOT_FOUND, OK}
use Rattle.fcp_codec.specs.Values.{id_of}
use Rattle.file_rows.specs.Content.{file_at}
use Rattle.file_rows.specs.FileHead.{holds_files}
use Rattle.file_rows.specs.Find.{child, only}
use Rattle.file_rows.specs.Path.{master, own_id, parent_of, stands_below}
use Rattle.file_rows.specs.declared.change.Change.TheVariants.{FileGone}
use Rattle.file_rows.specs.declared.head.FileHead.{FileHead}
use Rattle.file_rows.specs.declared.head.Kind.{Kind}
use Rattle.file_rows.specs.declared.head.Kind.TheVariants.{Master, Directory, Application}
use Rattle.file_rows.specs.declared.head.Kind.TheVariants.{Transparent, Linear, Cyclic}
use Rattle.file_rows.specs.declared.mode.Mode.{Mode}
use Rattle.file_rows.specs.declared.mode.Mode.TheVariants.{Bit}
use Rattle.file_rows.specs.declared.row.FileRow.{FileRow}
use Rattle.uicc_channels.specs.CommandRow.{CommandRow}
use Rattle.uicc_channels.specs.Life.{life_refusal}
use Rattle.uicc_channels.specs.Needs.{needs_of}
use Rattle.uicc_channels.specs.Session.{channel_at, open_channel, with_channel}
use Rattle.uicc_channels.specs.declared.chan.Chan.{Chan}
use Rattle.uicc_channels.specs.declared.session.Session.{Session}
use Rattle.uicc_admin.specs.FileWork.{FileWork, at_file}
use Rattle.uicc_admin.specs.NamedFile.{has_no_parameters}

-- the MF and the applications can't be deleted
abbrev pub may_be_deleted : Kind → Bool
may_be_deleted Master = false
may_be_deleted Directory = true
may_be_deleted Application = false
may_be_deleted Transparent = true
may_be_deleted Linear = true
may_be_deleted Cyclic = true

-- a directory by its own identifier
abbrev pub directory_itself : List FileRow → List ℕ → ℕ → Option FileRow
directory_itself rows directory id =
    if own_id directory == id then file_at directory rows else None

-- the file that is deleted: one in the current directory, else that directory itself
abbrev pub file_to_delete : List FileRow → List ℕ → ℕ → Option FileRow
file_to_delete rows directory id = only (λ row. may_be_deleted row.head.kind)
    (option_or (child rows directory id) (directory_itself rows directory id))

-- the file that a body names so
abbrev pub named_to_delete : List FileRow → Chan → List ℕ → Option FileRow
named_to_delete rows chan body = option_and_then (file_to_delete rows chan.dir) (id_of body)

-- why an EF can't be deleted by its life cycle status; that of a directory isn't looked at
abbrev pub ef_life_refusal : FileHead → Option Sw
ef_life_refusal head = if holds_files head.kind then None else life_refusal head.life

-- whether what is named is a file or one below it
abbrev pub is_named_below : List ℕ → Option (List ℕ) → Bool
is_named_below top None = false
is_named_below top (Some path) = stands_below top path

-- whether a channel stands at a file or below it: by its directory, its EF or its application
abbrev pub stands_there : List ℕ → Option Chan → Bool
stands_there top None = false
stands_there top (Some chan) =
    stands_below top chan.dir || (is_named_below top chan.file || is_named_below top chan.app)

-- whether another channel of the port than this one does
abbrev pub is_used_elsewhere : Session → ℕ → List ℕ → Bool
is_used_elsewhere session channel top = list_any
    (λ number. not (number == channel) && stands_there top (channel_at session number))
    (0 ∷ 1 ∷ 2 ∷ 3 ∷ [])

-- why a file can't be deleted while it is used
abbrev pub deletion_refusal : Session → ℕ → List ℕ → Option Sw
deletion_refusal session channel top =
    if is_used_elsewhere session channel top then Some CONDITIONS_NOT_SATISFIED else None

-- the nearest directory that is left when a file and all below it is gone
abbrev pub directory_left : List ℕ → List ℕ → List ℕ
directory_left top directory =
    if stands_below top directory then unwrap_or (parent_of top) master else directory

-- the channel afterwards: it stands at a directory, with no EF
abbrev pub channel_left : List ℕ → Chan → Chan
channel_left top chan = record chan { dir = directory_left top chan.dir; file = None; pointer = 0 }

-- the session when a file is gone
abbrev pub leaving : Session → ℕ → List ℕ → Session
leaving session channel top =
    with_channel session channel (Some (channel_left top (open_channel session channel)))

-- a file goes, with all below it
abbrev pub deleting : Session → Apdu → FileRow → FileWork
deleting session c row =
    let top = row.head.path in
    record {
      kind = true;
      life = ef_life_refusal row.head;
      mode = Bit 0x40;
      own = deletion_refusal session c.channel top;
      done = record {
        answer = status_alone OK;
        session = leaving session c.channel top;
        change = Some (FileGone top);
      };
    }

-- DELETE FILE
abbrev pub delete_row :
    List FileRow → (List ℕ → Mode → Bool) → Session → Apdu → CommandRow
delete_row rows allowed session c =
    let needs = record (needs_of session c) {
      parameters = has_no_parameters c;
      lengths = length c.body == 2;
    } in
    at_file needs session allowed FILE_NOT_FOUND (deleting session c)
    (named_to_delete rows (open_channel session c.channel) c.body)
