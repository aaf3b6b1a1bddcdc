-- The reference to an access rule of ETSI TS 102 221: a record of an EF ARR.
use Rattle.std.specs.Prelude.{ℕ, ◌+◌, ◌*◌, ◌%◌, List, [], ◌∷◌, length, Option, Some, None}
use Rattle.std.specs.Prelude.{if◌then◌else◌, ◌==◌, nat_le}
use Rattle.file_rows.specs.declared.head.Rule.{Rule}
use Rattle.fcp_codec.specs.declared.fcp.RuleRef.{RuleRef}
use Rattle.fcp_codec.specs.declared.fcp.RuleRef.TheVariants.{Whole, Row}

-- A record alone; or the EF ARR and the record; or the EF ARR and pairs of a security environment
-- and a record, of which the first pair counts.
abbrev pub rule_of : List ℕ → Option RuleRef
rule_of [] = None
rule_of (a ∷ []) = Some (Row a)
rule_of (a ∷ b ∷ []) = None
rule_of (a ∷ b ∷ c ∷ []) = Some (Whole (record { file = a * 256 + b; row = c }))
rule_of (a ∷ b ∷ c ∷ d ∷ pairs) =
    if length pairs % 2 == 0 then Some (Whole (record { file = a * 256 + b; row = d })) else None

-- the rule that is meant for a file with this path
abbrev pub rule_at : RuleRef → List ℕ → Rule
rule_at (Whole rule) path = rule
rule_at (Row row) path = record
    { file = if nat_le (length path) 1 then 0x2F06 else 0x6F06; row = row }
