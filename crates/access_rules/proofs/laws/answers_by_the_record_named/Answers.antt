use Rattle.std.proofs.Common.{ℕ, Bool, List, Option, false, ap, ◌∙◌}
use Rattle.std.specs.Prelude.{option_map, unwrap_or}
use Rattle.file_rows.specs.Content.{file_at}
use Rattle.access_rules.specs.May.{may, record_allows}
use Rattle.access_rules.specs.Met.{met_for}
use Rattle.access_rules.proofs.laws.answers_by_the_record_named.Goals as goal

pub returns : goal.returns
returns c = λ content other verified path mode same keys.
    let met = met_for content.pins verified (file_at path content.rows) in
    ap (λ (o : Option (List ℕ)). unwrap_or (option_map (λ bytes. record_allows bytes mode met) o) false) same
    ∙ ap (λ (m : ℕ → Bool). may other.rows path mode m) keys
