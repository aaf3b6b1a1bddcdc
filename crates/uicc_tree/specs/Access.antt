use Rattle.std.specs.Prelude.{ℕ, Bool, ◌≡◌, List}
use Rattle.file_rows.specs.declared.mode.Mode.{Mode}
use Rattle.uicc_tree.specs.Files.{Files, IsLive, path_of}

-- what is answered for the nodes of a card's files is what is allowed by their paths
abbrev pub AnswersFor :
    Files → (ℕ → Mode → Bool) → (List ℕ → Mode → Bool) → Type 0
AnswersFor tree answer allowed = (node : ℕ) (mode : Mode) → IsLive tree node
    → answer node mode ≡ allowed (path_of tree node) mode
