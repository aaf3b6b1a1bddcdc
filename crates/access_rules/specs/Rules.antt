-- The rules of a record, as contracts see them.
use Rattle.std.specs.Prelude.{List, [], unwrap_or}
use Rattle.access_rules.specs.AccessRule.{AccessRule}
use Rattle.access_rules.specs.Reading.{rules_of}
use Rattle.access_rules.specs.declared.rules.Rules.{Rules}

unfoldable pub list_of : Rules → List AccessRule
list_of rules = unwrap_or (rules_of rules.bytes.now) []
