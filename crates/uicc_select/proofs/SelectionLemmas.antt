use Rattle.std.proofs.Common.{◌≡◌, ℕ, ◌<◌, Bool, true, false, cond, ◌&&◌, List, [], ◌∷◌, zero, suc}
use Rattle.std.proofs.Common.{length, set, refl, sym, ap, inl, inr, Option, Some, None}
use Rattle.std.specs.Option.{unwrap_or}
use Rattle.std.specs.Prelude.{◌==◌}
use Rattle.std.proofs.lemmas.Bool.{cases_lt}
use Rattle.std.proofs.lemmas.List.{get_or_past}
use Rattle.apdu_codec.specs.Command.{Apdu}
use Rattle.apdu_codec.specs.declared.status.Sw.{Sw}
use Rattle.file_rows.specs.declared.pin.PinRow.{PinRow}
use Rattle.file_rows.specs.declared.row.FileRow.{FileRow}
use Rattle.uicc_channels.proofs.SessionLemmas.{channel_at-with_channel_same}
use Rattle.uicc_channels.specs.Chan.{holding}
use Rattle.uicc_channels.specs.CommandOutcome.{CommandOutcome}
use Rattle.uicc_channels.specs.CommandRow.{CommandRow, decided, refusal_of, refused_or}
use Rattle.uicc_channels.specs.Session.{IsOpen, channel_at, open_channel, with_channel}
use Rattle.uicc_channels.specs.Delivery.{delivered, waiting}
use Rattle.uicc_channels.specs.declared.chan.Chan.{Chan}
use Rattle.uicc_channels.specs.declared.session.Session.{Session}
use Rattle.uicc_select.specs.Find.{found}
use Rattle.uicc_select.specs.Select.{Selection, names_isdr, select_row, selection_of}
use Rattle.uicc_select.specs.Select.{selection_of_file}
use Rattle.uicc_select.specs.Status.{name_of_application, parameters_of_directory, status_row}
use Rattle.uicc_select.specs.Target.{target_of}
use Rattle.uicc_select.specs.declared.naming.Target.{Target}

-- the later of two in one place stands there
set-set : {X : Type 0} (xs : List X) (n : ℕ) (a b : X) → set (set xs n a) n b ≡ set xs n b
set-set [] n a b = refl
set-set (x ∷ xs) zero a b = refl
set-set (x ∷ xs) (suc n) a b = ap (λ (ys : List _). x ∷ ys) (set-set xs n a b)

within : (session : Session) (number : ℕ) → IsOpen session number → number < length session.channels
within session number is_open =
    elim (cases_lt number (length session.channels)) [
      | inl below ↦ below
      | inr past ↦ let none : channel_at session number ≡ None = get_or_past session.channels number None past in absurd (cc)
    ]

-- a channel that moves, and on which then a body comes to wait, is one with the body waiting
pub waiting-moved : (session : Session) (number : ℕ) (chan : Chan) (body : List ℕ) → IsOpen session number
    → with_channel session number (Some (holding body chan)) ≡ waiting None (with_channel session number (Some chan)) number body
waiting-moved session number chan body is_open =
    rw (channel_at-with_channel_same session number (Some chan) (within session number is_open))
    (ap (λ (channels : List (Option Chan)). record session { channels = channels }) (sym (set-set session.channels number (Some chan) (Some (holding body chan)))))

-- a refused command changes no content, nor does one that is done without a change
change-refused_or : (refusal : Option Sw) (session : Session) (done : CommandOutcome) → done.change ≡ None → (refused_or refusal session done).change ≡ None
change-refused_or None session done none = none
change-refused_or (Some sw) session done none = refl

change-cond : (b : Bool) (one other : Selection) → one.done.change ≡ None → other.done.change ≡ None → (cond b one other).done.change ≡ None
change-cond true one other first second = first
change-cond false one other first second = second

change-selection_of_file : (pins : List PinRow) (session : Session) (c : Apdu) (target : Target) (file : Option FileRow) → (selection_of_file pins session c target file).done.change ≡ None
change-selection_of_file pins session c target None = refl
change-selection_of_file pins session c target (Some row) = refl

change-selection_of : (rows : List FileRow) (pins : List PinRow) (session : Session) (isdr_here : Bool) (c : Apdu) (target : Option Target) → (selection_of rows pins session isdr_here c target).done.change ≡ None
change-selection_of rows pins session isdr_here c None = refl
change-selection_of rows pins session isdr_here c (Some target) =
    change-cond (isdr_here && names_isdr target) _ _ refl (change-selection_of_file pins session c target (found rows (open_channel session c.channel) target))

-- SELECT changes no content
pub change-select_row : (rows : List FileRow) (pins : List PinRow) (session : Session) (isdr_here : Bool) (c : Apdu) → (select_row rows pins session isdr_here c).done.change ≡ None
change-select_row rows pins session isdr_here c = change-selection_of rows pins session isdr_here c (target_of c.p1 c.body)

pub change-select : (rows : List FileRow) (pins : List PinRow) (session : Session) (isdr_here : Bool) (c : Apdu) → (decided session (select_row rows pins session isdr_here c)).change ≡ None
change-select rows pins session isdr_here c =
    let row : CommandRow = select_row rows pins session isdr_here c in
    change-refused_or (refusal_of row) session row.done (change-select_row rows pins session isdr_here c)

-- nor does STATUS
change-either : (one other : Bool) (session : Session) (c : Apdu) (parameters name : List ℕ) (last : CommandOutcome) → last.change ≡ None
    → (cond one (delivered session c parameters) (cond other (delivered session c name) last)).change ≡ None
change-either true other session c parameters name last none = refl
change-either false true session c parameters name last none = refl
change-either false false session c parameters name last none = none

pub change-status_row : (rows : List FileRow) (pins : List PinRow) (session : Session) (c : Apdu) → (status_row rows pins session c).done.change ≡ None
change-status_row rows pins session c =
    change-either (c.p2 == 0) (c.p2 == 1) session c
    (unwrap_or (parameters_of_directory rows pins (open_channel session c.channel)) [])
    (unwrap_or (name_of_application rows (open_channel session c.channel)) []) _ refl

pub change-status : (rows : List FileRow) (pins : List PinRow) (session : Session) (c : Apdu) → (decided session (status_row rows pins session c)).change ≡ None
change-status rows pins session c =
    let row : CommandRow = status_row rows pins session c in
    change-refused_or (refusal_of row) session row.done (change-status_row rows pins session c)
