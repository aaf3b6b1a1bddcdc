use Rattle.std.proofs.Common.{List, ℕ, cond, Some, None, sym, ◌∙◌, ap}
use Rattle.std.specs.BTreeMap.{get_by}
use Rattle.std.specs.Option.{option_or}
use Rattle.std.specs.Str.{bytes_eq}
use Rattle.profile_install.specs.FileKeys.{to_path}
use Rattle.profile_install.proofs.KeysFound.{place_put}
use Rattle.profile_install.proofs.draft_files.with_place.Goals as goal

pub returns : goal.returns
returns c = λ other.
    place_put c.args.places c.insert.new.self c.path_key-key.result c.args.place other
    (sym c.contains_key.ensures ∙ c.if-contains_key.false) c.in_ok-insert.ensures.updates
    ∙ ap (λ (path : List ℕ). option_or (get_by (to_path other) c.args.places)
    (cond (bytes_eq path other) (Some c.args.place) None))
    (c.path_key-key.ensures ∙ c.as_slice.ensures.value)
