-- How a run of the program ends: with which number, for which cause, and what it leaves as it was.
use Rattle.std.specs.Prelude.{◌≡◌, ℕ, Option, List, IfSome, ⊤}
use Rattle.std.specs.Io.KnownBytes.{Appends, IsAtEnd}
use Rattle.port_io.specs.Faults.{Rose}
use Rattle.script_text.specs.Script.{HasFirstFault}
use Rattle.script_text.specs.declared.line_set.LineSet.TheVariants.{PortOne}
use Rattle.card_run.specs.Demo.{IsAnswerText, IsSomeScript, WritesPrefix}
use Rattle.card_run.specs.declared.status.Status.{Status}
use Rattle.card_run.specs.declared.status.Status.TheVariants.{Done, Usage, Script, ReadFault}
use Rattle.card_run.specs.declared.status.Status.TheVariants.{WriteFault, FlashFault, NotACard}
use Rattle.card_run.specs.declared.status.Status.TheVariants.{NoMemory, NotBlank, Worn}

-- the number with which the process ends
abbrev pub status_number : Status → ℕ
status_number Done = 0
status_number Usage = 2
status_number (Script line kind) = 3
status_number ReadFault = 4
status_number WriteFault = 5
status_number (FlashFault before after) = 6
status_number NotACard = 7
status_number NoMemory = 8
status_number (NotBlank place) = 9
status_number Worn = 10

-- a source and a sink at a moment: the bytes left and the bytes written, where they are reported,
-- and the faults so far
pub record Streams : Type 0 where
  pub left : Option (List ℕ)
  pub read_faults : ℕ
  pub written : Option (List ℕ)
  pub write_faults : ℕ

abbrev pub streams : Option (List ℕ) → ℕ → Option (List ℕ) → ℕ → Streams
streams left read_faults written write_faults =
    record {
      left = left;
      read_faults = read_faults;
      written = written;
      write_faults = write_faults;
    }

-- why a run of `demo` ends so; out of memory alone needs no cause
abbrev pub HasRunCause : Streams → Streams → Status → Type 0
HasRunCause before after Usage = ⊥
HasRunCause before after (Script line kind) =
    IfSome before.left (λ text. HasFirstFault PortOne text line kind)
HasRunCause before after ReadFault = Rose before.read_faults after.read_faults
HasRunCause before after WriteFault =
    IfSome before.left IsSomeScript × Rose before.write_faults after.write_faults
HasRunCause before after NoMemory = ⊤
HasRunCause before after (FlashFault from to) = ⊥
HasRunCause before after NotACard = ⊥
HasRunCause before after (NotBlank place) = ⊥
HasRunCause before after Worn = ⊥
-- all was read, and the whole text of the answers was written
HasRunCause before after Done =
    IsAtEnd after.left
    × IfSome before.left (λ text. (printed : List ℕ)
    × IsAnswerText text printed × Appends before.written after.written printed)

-- how a text ends a run without faults: a script is done, any other text is refused with its first
-- fault, and memory may run out
abbrev pub IsEndOf : List ℕ → Status → Type 0
IsEndOf text Done = IsSomeScript text
IsEndOf text (Script line kind) = HasFirstFault PortOne text line kind
IsEndOf text NoMemory = ⊤
IsEndOf text Usage = ⊥
IsEndOf text ReadFault = ⊥
IsEndOf text WriteFault = ⊥
IsEndOf text (FlashFault from to) = ⊥
IsEndOf text NotACard = ⊥
IsEndOf text (NotBlank place) = ⊥
IsEndOf text Worn = ⊥

-- what stays as it was: the sink, where no script was read
abbrev pub LeavesAlone : {K : Type 0} → Option (List ℕ) → K → K → Status → Type 0
LeavesAlone left sink sink_after Usage = ⊥
LeavesAlone left sink sink_after (Script line kind) = sink_after ≡ sink
LeavesAlone left sink sink_after ReadFault = sink_after ≡ sink
LeavesAlone left sink sink_after NoMemory =
    IfSome left (λ text. ¬ IsSomeScript text → sink_after ≡ sink)
LeavesAlone left sink sink_after WriteFault = ⊤
LeavesAlone left sink sink_after Done = ⊤
LeavesAlone left sink sink_after (FlashFault from to) = ⊥
LeavesAlone left sink sink_after NotACard = ⊥
LeavesAlone left sink sink_after (NotBlank place) = ⊥
LeavesAlone left sink sink_after Worn = ⊥

-- why no script was read from a source
abbrev pub HasLoadCause : Option (List ℕ) → ℕ → ℕ → Status → Type 0
HasLoadCause left before after (Script line kind) =
    IfSome left (λ text. HasFirstFault PortOne text line kind)
HasLoadCause left before after ReadFault = Rose before after
HasLoadCause left before after NoMemory = ⊤
HasLoadCause left before after Done = ⊥
HasLoadCause left before after Usage = ⊥
HasLoadCause left before after WriteFault = ⊥
HasLoadCause left before after (FlashFault from to) = ⊥
HasLoadCause left before after NotACard = ⊥
HasLoadCause left before after (NotBlank place) = ⊥
HasLoadCause left before after Worn = ⊥

-- why the answers were not all written to a sink
abbrev pub HasWriteCause : ℕ → ℕ → Status → Type 0
HasWriteCause before after WriteFault = Rose before after
HasWriteCause before after NoMemory = ⊤
HasWriteCause before after (Script line kind) = ⊥
HasWriteCause before after ReadFault = ⊥
HasWriteCause before after Done = ⊥
HasWriteCause before after Usage = ⊥
HasWriteCause before after (FlashFault from to) = ⊥
HasWriteCause before after NotACard = ⊥
HasWriteCause before after (NotBlank place) = ⊥
HasWriteCause before after Worn = ⊥

-- A run of `demo`. Each status has its cause: in the text that the source had, or in a count of
-- faults. Where no fault is counted and memory is there, the text decides: a script is answered to
-- its end, and any other text is refused with its first fault. However it ends, what was written is
-- a prefix of the text of the answers.
pub record RunsDemo {K : Type 0} (before after : Streams) (sink sink_after : K) (status : Status)
    : Type 0 where
  pub cause : HasRunCause before after status
  pub complete : ¬ Rose before.read_faults after.read_faults
      → ¬ Rose before.write_faults after.write_faults
      → IfSome before.left (λ text. IsEndOf text status)
  pub prefix : IfSome before.left (λ text. (answers : List ℕ) → IsAnswerText text answers
      → WritesPrefix before.written after.written answers)
  pub left_alone : LeavesAlone before.left sink sink_after status
