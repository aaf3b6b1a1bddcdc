use Rattle.std.specs.Prelude.{ℕ, ◌≡◌, Bool, false, not, ◌==◌, ◌&&◌, List, [], ◌∷◌, length, Option}
use Rattle.std.specs.Prelude.{Some, None, is_some, Result, Ok, Err}
use Rattle.apdu_codec.specs.Answer.{status_alone}
use Rattle.apdu_codec.specs.Command.{Apdu}
use Rattle.apdu_codec.specs.declared.status.Sw.{Sw}
use Rattle.apdu_codec.specs.declared.status.TheConstants.Sw.{INCOMPATIBLE_STRUCTURE, OK}
use Rattle.apdu_codec.specs.declared.status.TheConstants.Sw.{SECURITY_NOT_SATISFIED}
use Rattle.file_rows.specs.declared.head.Life.{Life}
use Rattle.file_rows.specs.declared.mode.Mode.{Mode}
use Rattle.file_rows.specs.declared.row.FileRow.{FileRow}
use Rattle.plain_lists.specs.FirstOf.{first_of}
use Rattle.uicc_channels.specs.CommandOutcome.{CommandOutcome, answering, outcome_of}
use Rattle.uicc_channels.specs.CommandRow.{CommandRow}
use Rattle.uicc_channels.specs.Life.{life_refusal}
use Rattle.uicc_channels.specs.Needs.{Needs, needs_of, refused_unless}
use Rattle.uicc_channels.specs.Session.{open_channel}
use Rattle.uicc_channels.specs.declared.decided.Decided.{Decided}
use Rattle.uicc_channels.specs.declared.session.Session.{Session}
use Rattle.uicc_data.specs.FileReference.{file_named, not_there}
use Rattle.uicc_data.specs.declared.reference.FileReference.{FileReference}

-- what a command asks of the file that it works on, and what it comes to there
pub record FileUse : Type 0 where
  -- the command works on files of this kind
  pub kind : Bool
  -- the access rules allow this
  pub mode : Mode
  -- what the command alone asks
  pub own : Option Sw
  pub done : CommandOutcome

-- why a file can't be used: its kind, its life cycle status, and then the access rules
abbrev pub use_refusal : Bool → Life → Bool → Option Sw
use_refusal kind life allowed =
    first_of
    (refused_unless kind INCOMPATIBLE_STRUCTURE
    ∷ life_refusal life
    ∷ refused_unless allowed SECURITY_NOT_SATISFIED
    ∷ [])

-- what came of a command on its file is what it does there: it was done, and this was decided, or
-- the command itself refused
abbrev pub FollowsUse : Session → FileUse → Decided → Result Unit Sw → Type 0
FollowsUse session usage done (Ok _) =
    (usage.own ≡ None) × (outcome_of session done ≡ usage.done)
FollowsUse session usage done (Err sw) = usage.own ≡ Some sw

-- what a command needs that reads: no body, and Le
abbrev pub needs_of_reading : Session → Apdu → Needs
needs_of_reading session c =
    record (needs_of session c) { lengths = (length c.body == 0) && is_some c.le }

-- what a command needs that writes or looks for bytes: a body
abbrev pub needs_of_writing : Session → Apdu → Needs
needs_of_writing session c = record (needs_of session c) { lengths = not (length c.body == 0) }

-- a command that names no file that it could work on
abbrev pub with_no_file : Needs → Session → CommandRow
with_no_file needs session = record { needs = needs; done = answering session (status_alone OK) }

-- what a command needs of the file that it works on, beside its other needs, and what it comes to
abbrev pub on_file :
    Needs → Session → (List ℕ → Mode → Bool) → Sw → (FileRow → FileUse)
    → Option FileRow → CommandRow
on_file needs session allowed not_there usage None =
    with_no_file (record needs { file = Some not_there }) session
on_file needs session allowed not_there usage (Some row) =
    record {
      needs = record needs {
        kind = (usage row).kind;
        life = life_refusal row.head.life;
        access = allowed row.head.path (usage row).mode;
        own = (usage row).own;
      };
      done = (usage row).done;
    }

-- a command on the file that it names
abbrev pub on_named :
    List FileRow → (List ℕ → Mode → Bool) → Session → Apdu → Needs → FileReference
    → (FileRow → FileUse) → CommandRow
on_named rows allowed session c needs file usage =
    on_file needs session allowed (not_there file) usage
    (file_named rows (open_channel session c.channel) file)

-- a command by what its P1 and P2 name, where they are its own
abbrev pub where_named :
    {X : Type 0} → Needs → Session → (X → CommandRow) → Option X → CommandRow
where_named needs session row None = with_no_file (record needs { parameters = false }) session
where_named needs session row (Some place) = row place
