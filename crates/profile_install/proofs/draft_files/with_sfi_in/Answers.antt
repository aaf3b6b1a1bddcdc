use Rattle.std.proofs.Common.{List, ℕ, ◌∙◌, ap, ◌&&◌, ◌||◌, ◌==◌}
use Rattle.std.specs.BTreeSet.{contains_by}
use Rattle.std.specs.Str.{bytes_eq}
use Rattle.profile_install.specs.FileKeys.{to_sfi}
use Rattle.profile_install.proofs.KeysFound.{sfi_put}
use Rattle.profile_install.proofs.draft_files.with_sfi_in.Goals as goal

pub returns : goal.returns
returns c = λ other number.
    sfi_put c.args.sfis c.insert.new.self c.path_key.result c.args.sfi other number
    c.in_ok-insert.ensures.updates
    ∙ ap (λ (path : List ℕ). contains_by (to_sfi other number) c.args.sfis
    || (bytes_eq path other && (c.args.sfi == number)))
    (c.path_key.ensures ∙ c.as_slice.ensures.value)
