use Rattle.std.proofs.Common.{List, ℕ, ◌∙◌, ap, ◌||◌}
use Rattle.std.specs.BTreeSet.{contains_by}
use Rattle.std.specs.Str.{bytes_eq}
use Rattle.profile_install.specs.FileKeys.{to_name}
use Rattle.profile_install.proofs.KeysFound.{name_put}
use Rattle.profile_install.proofs.draft_files.with_name.Goals as goal

pub returns : goal.returns
returns c = λ other.
    name_put c.args.names c.insert.new.self c.name_key.result other c.in_ok-insert.ensures.updates
    ∙ ap (λ (name : List ℕ). contains_by (to_name other) c.args.names || bytes_eq name other)
    (c.name_key.ensures ∙ c.as_slice.ensures.value)
