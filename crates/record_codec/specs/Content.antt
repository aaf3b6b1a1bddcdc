-- A change of a profile's content.
use Rattle.std.specs.Prelude.{ℕ, ◌==◌, if◌then◌else◌, List, [], ◌∷◌, IsSomeAnd}
use Rattle.file_rows.specs.Change.{Fits, changed}
use Rattle.file_rows.specs.declared.change.Change.{Change}
use Rattle.file_rows.specs.declared.content.Content.{Content}
use Rattle.record_codec.specs.Heads.{held_content}
use Rattle.record_codec.specs.declared.durable.Durable.{Durable}
use Rattle.record_codec.specs.declared.profile.ProfileHead.{ProfileHead}

-- the contents, with that of the profile of that number changed
abbrev pub contents_with : ℕ → (Content → Content) → List ProfileHead → List Content
    → List Content
contents_with number change [] contents = contents
contents_with number change (head ∷ heads) [] = []
contents_with number change (head ∷ heads) (content ∷ contents) =
    (if head.number == number then change content else content)
    ∷ contents_with number change heads contents

abbrev pub with_change : ℕ → Change → Durable → Durable
with_change profile change durable =
    record durable {
      contents =
          contents_with profile (λ content. changed content change) durable.heads.profiles
          durable.contents;
    }

-- the profile is held, and the change fits its content
abbrev pub MayChange : Durable → ℕ → Change → Type 0
MayChange durable profile change =
    IsSomeAnd (held_content profile durable) (λ content. Fits content change)
