-- A package: what its parts, in reading order, come to.
use Rattle.std.specs.Prelude.{◌≡◌, ◌⊎◌, ⊤, ℕ, Bool, true, false, ◌+◌, ◌-◌, ◌==◌, ◌&&◌, ◌||◌, nat_le}
use Rattle.std.specs.Prelude.{if◌then◌else◌, List, [], ◌∷◌, ◌++◌, length, Option, Some, None}
use Rattle.std.specs.Prelude.{Result, Ok, Err}
use Rattle.file_rows.specs.declared.content.Content.{Content}
use Rattle.package_reader.specs.Part.{HandsOut}
use Rattle.package_reader.specs.ReaderState.{ReaderState, fed, fresh_reader, opens}
use Rattle.package_reader.specs.Turn.{GoesBy, Turn}
use Rattle.package_reader.specs.Turn.Turn.{Comes, Goes}
use Rattle.package_reader.specs.declared.part.Part.{Part}
use Rattle.package_reader.specs.declared.part.Part.TheVariants.{Head, Bytes, Close, More, Bad}
use Rattle.profile_install.specs.ElementResult.{result_number}
use Rattle.profile_install.specs.State.{closed_at, depth_of, fresh_state, opened_at, valued_at}
use Rattle.profile_install.specs.declared.draft.Draft.{Draft}
use Rattle.profile_install.specs.declared.fault.ElementFault.{ElementFault}
use Rattle.profile_install.specs.declared.fault.ElementFault.TheVariants.{Malformed}
use Rattle.profile_install.specs.declared.state.Awaited.{Awaited}
use Rattle.profile_install.specs.declared.state.Spot.{Spot}
use Rattle.profile_install.specs.declared.state.Spot.TheVariants.{Start, Elements, Ended, Header}
use Rattle.profile_install.specs.declared.state.Spot.TheVariants.{Template, File, Descriptor, Lists}
use Rattle.profile_install.specs.declared.state.Spot.TheVariants.{Steps, NewFile, Puks, PukEntry}
use Rattle.profile_install.specs.declared.state.Spot.TheVariants.{Pins, PinEntry}
use Rattle.profile_install.specs.declared.state.State.{State}
use Rattle.profile_install.specs.declared.work.BuildFault.{BuildFault}
use Rattle.profile_install.specs.declared.work.BuildFault.TheVariants.{Element, OutOfMemory}
use Rattle.profile_install.specs.declared.work.Faulty.{Faulty}
use Rattle.profile_install.specs.declared.work.Progress.{Progress}
use Rattle.profile_install.specs.declared.work.Progress.TheVariants.{Going, Broken, Refused}
use Rattle.profile_install.specs.declared.work.Refusal.{Refusal}
use Rattle.profile_install.specs.declared.work.Work.{Work}

-- an element with a fault goes on to its end, since one that isn't whole is malformed before all
-- else
abbrev pub element_with_fault : ElementFault → ℕ → Progress
element_with_fault fault depth =
    if depth == 0 then Refused fault else Broken (record { fault = fault; depth = depth })

-- what comes of a step, so many TLVs of the element being open after it
abbrev pub step_settled : Result State ElementFault → ℕ → Progress
step_settled (Ok state) depth = Going state
step_settled (Err fault) depth = element_with_fault fault depth

-- the bytes of a descriptor, or of a new file's control parameters, are read whole at their end
abbrev pub is_gathering : Spot → Bool
is_gathering Start = false
is_gathering Elements = false
is_gathering Ended = false
is_gathering (Header fields) = false
is_gathering (Template list) = false
is_gathering (File list parts) = false
is_gathering (Descriptor list) = true
is_gathering (Lists kind seen) = false
is_gathering Steps = false
is_gathering NewFile = true
is_gathering Puks = false
is_gathering (PukEntry fields) = false
is_gathering Pins = false
is_gathering (PinEntry fields) = false

abbrev pub gathering : State → List ℕ → State
gathering state bytes =
    if is_gathering state.spot then record state { gathered = state.gathered ++ bytes } else state

-- a constructed TLV begins
abbrev pub constructed_begins : State → ℕ → Progress
constructed_begins state tag =
    if nat_le 1 state.passed then Going (record state { passed = state.passed + 1 })
    else step_settled (opened_at state state.spot tag) (depth_of state.spot + 1)

-- the head of a primitive TLV, whose value comes next, where it has one
abbrev pub heading : List ℕ → State → ℕ → ℕ → Progress
heading iccid state tag n =
    if nat_le 1 state.passed then Going state
    else (if (n == 0) || (depth_of state.spot == 0)
    then step_settled (valued_at iccid state state.spot tag []) (depth_of state.spot)
    else Going (record state { awaited = Some (record { tag = tag; length = n }) }))

abbrev pub headed : List ℕ → State → ℕ → ℕ → Bool → Progress
headed iccid state tag n constructed =
    if constructed then constructed_begins state tag else heading iccid state tag n

-- a whole value came, or so much of one as there is
abbrev pub valued : List ℕ → State → List ℕ → Option Awaited → Progress
valued iccid state bytes None = Going state
valued iccid state bytes (Some awaited) =
    if awaited.length == length bytes
    then step_settled
    (valued_at iccid (record state { awaited = None }) state.spot awaited.tag bytes)
    (depth_of state.spot)
    else Going state

-- the innermost TLV ends
abbrev pub closed : State → Progress
closed state =
    if nat_le 1 state.passed then Going (record state { passed = state.passed - 1 })
    else step_settled (closed_at state state.spot) (depth_of state.spot - 1)

-- a part of an element with a fault
abbrev pub broken : Faulty → Part → List ℕ → Progress
broken faulty (Head tag n place) bytes =
    if opens bytes then Broken (record faulty { depth = faulty.depth + 1 }) else Broken faulty
broken faulty (Bytes count) bytes = Broken faulty
broken faulty Close bytes = element_with_fault faulty.fault (faulty.depth - 1)
broken faulty More bytes = Broken faulty
broken faulty (Bad place) bytes = Broken faulty

abbrev pub going : List ℕ → State → Part → List ℕ → Progress
going iccid state (Head tag n place) bytes =
    headed iccid (gathering state bytes) tag n (opens bytes)
going iccid state (Bytes count) bytes = valued iccid (gathering state bytes) bytes state.awaited
going iccid state Close bytes = closed state
going iccid state More bytes = Going state
going iccid state (Bad place) bytes = Going state

abbrev pub progress_after : List ℕ → Progress → Part → List ℕ → Progress
progress_after iccid (Going state) part bytes = going iccid state part bytes
progress_after iccid (Broken faulty) part bytes = broken faulty part bytes
progress_after iccid (Refused fault) part bytes = Refused fault

-- whether an element is due
abbrev pub is_element_due : Progress → Bool
is_element_due (Going state) = (depth_of state.spot == 0) && (state.passed == 0)
is_element_due (Broken faulty) = false
is_element_due (Refused fault) = false

abbrev pub is_head : Part → Bool
is_head (Head tag n place) = true
is_head (Bytes count) = false
is_head Close = false
is_head More = false
is_head (Bad place) = false

abbrev pub place_after : Work → Part → ℕ
place_after work part =
    if is_head part && is_element_due work.progress then work.place + 1 else work.place

-- one part of the package, with its bytes
abbrev pub after_part : List ℕ → Work → Part → List ℕ → Work
after_part iccid work part bytes = record {
  place = place_after work part;
  progress = progress_after iccid work.progress part bytes;
}

-- the parts of a package, one after another
abbrev pub after_turns : List ℕ → Work → List Turn → Work
after_turns iccid work [] = work
after_turns iccid work (Comes piece ∷ turns) = after_turns iccid work turns
after_turns iccid work (Goes part bytes ∷ turns) =
    after_turns iccid (after_part iccid work part bytes) turns

abbrev pub fresh_work : Work
fresh_work = record { place = 0; progress = Going fresh_state }

abbrev pub refused_at : ℕ → ElementFault → Result Content Refusal
refused_at place fault = Err (record { place = place; result = result_number fault })

abbrev pub content_of_draft : Draft → Content
content_of_draft draft = record { rows = draft.rows; pins = draft.pins }

-- where no element is open, the end has to have come, with nothing behind it
abbrev pub content_at_end : ℕ → State → Spot → Bool → Result Content Refusal
content_at_end place state Ended used_up =
    if used_up then Ok (content_of_draft state.draft) else refused_at (place + 1) Malformed
content_at_end place state spot used_up = refused_at (place + 1) Malformed

-- what a package comes to where no whole part is left, and whether all its bytes are used up
abbrev pub package_outcome : ℕ → Progress → Bool → Result Content Refusal
package_outcome place (Going state) used_up =
    if (depth_of state.spot == 0) && (state.passed == 0)
    then content_at_end place state state.spot used_up
    else refused_at place Malformed
package_outcome place (Broken faulty) used_up = refused_at place Malformed
package_outcome place (Refused fault) used_up = refused_at place fault

abbrev pub work_outcome : Work → Bool → Result Content Refusal
work_outcome work used_up = package_outcome work.place work.progress used_up

-- what a builder answers, where a package is meant to come to this; out of memory is the one free
-- answer
abbrev pub IsOutcome : Result Content BuildFault → Result Content Refusal → Type 0
IsOutcome (Ok content) meant = meant ≡ Ok content
IsOutcome (Err (Element refusal)) meant = meant ≡ Err refusal
IsOutcome (Err OutOfMemory) meant = ⊤

-- the part says that no whole part is left
abbrev pub is_last : Part → Bool
is_last (Head tag n place) = false
is_last (Bytes count) = false
is_last Close = false
is_last More = true
is_last (Bad place) = true

-- only parts, and none that says so
abbrev pub AllWhole : List Turn → Type 0
AllWhole [] = ⊤
AllWhole (Comes piece ∷ turns) = ⊥
AllWhole (Goes part bytes ∷ turns) = (is_last part ≡ false) × AllWhole turns

-- no whole part is left
abbrev pub HasNoPart : ReaderState → Type 0
HasNoPart last = (next : ReaderState) × (HandsOut last More next
    ⊎ ((place : ℕ) × HandsOut last (Bad place) next))

-- the parts of these bytes in reading order, and where the reader stands behind the last
pub record AreParts (bytes : List ℕ) (turns : List Turn) (last : ReaderState) : Type 0 where
  pub goes : GoesBy (fed fresh_reader bytes) turns last
  pub whole : AllWhole turns
  pub ends : HasNoPart last

abbrev pub is_used_up : List ℕ → Bool
is_used_up [] = true
is_used_up (byte ∷ bytes) = false

-- what the bytes of a package give, with the ICCID of the profile's metadata
pub record PackageGives (iccid bytes : List ℕ) (answer : Result Content Refusal) : Type 0 where
  pub turns : List Turn
  pub last : ReaderState
  pub parts : AreParts bytes turns last
  pub meant : answer ≡ work_outcome (after_turns iccid fresh_work turns) (is_used_up last.unread)

-- what a builder answers of these bytes; out of memory is the one free answer
abbrev pub Answers : List ℕ → List ℕ → Result Content BuildFault → Type 0
Answers iccid bytes (Ok content) = PackageGives iccid bytes (Ok content)
Answers iccid bytes (Err (Element refusal)) = PackageGives iccid bytes (Err refusal)
Answers iccid bytes (Err OutOfMemory) = ⊤

-- from one state of the reader on all its parts are taken
pub record ReadsParts (iccid : List ℕ) (old : ReaderState) (work done : Work) (new : ReaderState)
    : Type 0 where
  pub turns : List Turn
  pub last : ReaderState
  pub goes : GoesBy old turns last
  pub whole : AllWhole turns
  pub ends : HasNoPart last
  pub unread : new.unread ≡ last.unread
  pub meant : done ≡ after_turns iccid work turns
