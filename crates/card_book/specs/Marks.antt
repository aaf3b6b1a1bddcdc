-- The marks of an entry that concerns all lanes.
use Rattle.std.specs.Prelude.{ℕ, ◌≡◌, ◌<◌, List, [], ◌∷◌, Any}
use Rattle.card_book.specs.Pass.{PassState}
use Rattle.card_book.specs.declared.entry.HistoryEntry.{HistoryEntry}

-- among these is the pass of the port
abbrev pub HasPass : List PassState → ℕ → Type 0
HasPass passes port = Any (λ pass. pass.port ≡ port) passes

-- among these is the pass of each of so many ports
abbrev pub HasEachPass : ℕ → List PassState → Type 0
HasEachPass count passes = (port : ℕ) → port < count → HasPass passes port

-- the lanes of these ports have marked the end of the history, one after another
abbrev pub MarkedInTurn : {L : Type 0} → (L → ℕ → List HistoryEntry → L → Type 0)
    → List HistoryEntry → List ℕ → L → L → Type 0
MarkedInTurn marked history [] old new = new ≡ old
MarkedInTurn {L} marked history (port ∷ ports) old new =
    (next : L) × marked old port history next × MarkedInTurn marked history ports next new
