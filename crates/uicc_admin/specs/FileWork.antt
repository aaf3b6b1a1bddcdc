use Rattle.std.specs.Prelude.{ℕ, Bool, List, Option, Some, None}
use Rattle.apdu_codec.specs.Answer.{status_alone}
use Rattle.apdu_codec.specs.declared.status.Sw.{Sw}
use Rattle.apdu_codec.specs.declared.status.TheConstants.Sw.{OK}
use Rattle.file_rows.specs.declared.mode.Mode.{Mode}
use Rattle.file_rows.specs.declared.row.FileRow.{FileRow}
use Rattle.uicc_channels.specs.CommandOutcome.{CommandOutcome, answering}
use Rattle.uicc_channels.specs.CommandRow.{CommandRow}
use Rattle.uicc_channels.specs.Needs.{Needs}
use Rattle.uicc_channels.specs.declared.session.Session.{Session}

-- what a command of administration asks of the file that it works on, and what it comes to there
pub record FileWork : Type 0 where
  -- the command works on files of this kind
  pub kind : Bool
  -- the file's life cycle status forbids the command
  pub life : Option Sw
  -- the access rules allow this
  pub mode : Mode
  -- what the command alone asks
  pub own : Option Sw
  pub done : CommandOutcome

-- a command on the file that it names, beside its other needs
abbrev pub at_file :
    Needs → Session → (List ℕ → Mode → Bool) → Sw → (FileRow → FileWork)
    → Option FileRow → CommandRow
at_file needs session allowed not_there work None =
    record {
      needs = record needs { file = Some not_there };
      done = answering session (status_alone OK);
    }
at_file needs session allowed not_there work (Some row) =
    record {
      needs = record needs {
        kind = (work row).kind;
        life = (work row).life;
        access = allowed row.head.path (work row).mode;
        own = (work row).own;
      };
      done = (work row).done;
    }
