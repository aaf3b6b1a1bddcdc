-- The files that a package names: those of its templates, and those of its steps.
use Rattle.std.specs.Prelude.{◌≡◌, ◌⊎◌, ℕ, if◌then◌else◌, List, [], ◌∷◌, ◌++◌, Option, Some, None}
use Rattle.fcp_codec.specs.Reading.{fields_in}
use Rattle.fcp_codec.specs.declared.fcp.Fcp.{Fcp}
use Rattle.file_templates.specs.Templates.{row_at}
use Rattle.file_templates.specs.declared.template_row.Row.{Row}
use Rattle.package_reader.specs.ReaderState.{ReaderState}
use Rattle.package_reader.specs.Turn.{Turn}
use Rattle.profile_install.specs.Package.{AreParts, after_turns, fresh_work}
use Rattle.profile_install.specs.Template.{directory_at, is_master_at}
use Rattle.profile_install.specs.declared.state.Spot.{Spot}
use Rattle.profile_install.specs.declared.state.Spot.TheVariants.{Start, Elements, Ended, Header}
use Rattle.profile_install.specs.declared.state.Spot.TheVariants.{Template, File, Descriptor, Lists}
use Rattle.profile_install.specs.declared.state.Spot.TheVariants.{Steps, NewFile, Puks, PukEntry}
use Rattle.profile_install.specs.declared.state.Spot.TheVariants.{Pins, PinEntry}
use Rattle.profile_install.specs.declared.state.State.{State}
use Rattle.profile_install.specs.declared.work.Progress.TheVariants.{Going}

-- the path of a template's file
abbrev pub row_path : ℕ → Row → List ℕ
row_path template row =
    if is_master_at template row.position then []
    else directory_at template row.position ++ row.id ∷ []

-- the path of the file at some position of a template
pub record IsOfTemplate (template : ℕ) (path : List ℕ) : Type 0 where
  pub position : ℕ
  pub row : Row
  pub listed : row_at template position ≡ Some row
  pub at : path ≡ row_path template row

-- the path that a step's control parameters name in a directory, by their `83`
pub record IsOfStep (directory parameters path : List ℕ) : Type 0 where
  pub given : Fcp
  pub id : ℕ
  pub fields : fields_in parameters ≡ Some given
  pub named : given.id ≡ Some id
  pub at : path ≡ directory ++ id ∷ []

-- the template whose files are listed where a package stands
abbrev pub listed_template : Spot → Option ℕ
listed_template Start = None
listed_template Elements = None
listed_template Ended = None
listed_template (Header fields) = None
listed_template (Template list) = Some list.template
listed_template (File list parts) = Some list.template
listed_template (Descriptor list) = Some list.template
listed_template (Lists kind seen) = None
listed_template Steps = None
listed_template NewFile = None
listed_template Puks = None
listed_template (PukEntry fields) = None
listed_template Pins = None
listed_template (PinEntry fields) = None

-- a file is named where a package stands: in the list of its template, or by the control
-- parameters of a step
abbrev pub NamesFile : State → List ℕ → Type 0
NamesFile state path =
    ((template : ℕ) × (listed_template state.spot ≡ Some template) × IsOfTemplate template path)
    ⊎ ((state.spot ≡ NewFile) × IsOfStep state.standing.directory state.gathered path)

-- a file is named somewhere in a package
pub record IsNamed (iccid bytes path : List ℕ) : Type 0 where
  -- the parts in front, those behind them, and where the reader stands behind all
  pub front : List Turn
  pub back : List Turn
  pub last : ReaderState
  pub parts : AreParts bytes (front ++ back) last
  -- what the front has come to
  pub place : ℕ
  pub state : State
  pub comes : after_turns iccid fresh_work front
      ≡ record { place = place; progress = Going state }
  pub names : NamesFile state path
