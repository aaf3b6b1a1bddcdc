-- The profiles of a card, by their numbers.
use Rattle.std.specs.Prelude.{ℕ, ◌≡◌, ◌==◌, if◌then◌else◌, List, [], ◌∷◌, Option, Some, None, find}
use Rattle.std.specs.Prelude.{Any}
use Rattle.file_rows.specs.declared.content.Content.{Content}
use Rattle.record_codec.specs.declared.durable.Durable.{Durable}
use Rattle.record_codec.specs.declared.profile.ProfileHead.{ProfileHead}

-- the head of the profile of that number, where there is one
abbrev pub head_of : ℕ → List ProfileHead → Option ProfileHead
head_of number profiles = find (λ head. head.number == number) profiles

-- a profile of that number is held
abbrev pub IsHeld : ℕ → List ProfileHead → Type 0
IsHeld number profiles = Any (λ head. head.number ≡ number) profiles

-- the content at the place of the profile of that number
abbrev pub content_at : {X : Type 0} → ℕ → List ProfileHead → List X → Option X
content_at number [] contents = None
content_at number (head ∷ heads) [] = None
content_at number (head ∷ heads) (content ∷ contents) =
    if head.number == number then Some content else content_at number heads contents

-- the content of the profile of that number, where there is one
abbrev pub held_content : ℕ → Durable → Option Content
held_content number durable = content_at number durable.heads.profiles durable.contents
