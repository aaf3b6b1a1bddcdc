-- What a command on data does to the session.
use Rattle.std.specs.Prelude.{ℕ, ◌≡◌, List, Option, Some}
use Rattle.uicc_channels.specs.Session.{with_channel}
use Rattle.uicc_channels.specs.declared.chan.Chan.{Chan}
use Rattle.uicc_channels.specs.declared.session.Session.{Session}

-- at most the current EF and the record pointer of this channel change
abbrev pub MovesAlone : Session → ℕ → Chan → Session → Type 0
MovesAlone before number chan after =
    (file : Option (List ℕ)) × (pointer : ℕ)
    × (after ≡ with_channel before number
    (Some (record chan { file = file; pointer = pointer })))

-- at most those and what waits there change
abbrev pub MovesAndWaits : Session → ℕ → Chan → Session → Type 0
MovesAndWaits before number chan after =
    (file : Option (List ℕ)) × (pointer : ℕ) × (bytes : List ℕ)
    × (after ≡ with_channel before number
    (Some (record chan { file = file; pointer = pointer; pending = bytes })))
