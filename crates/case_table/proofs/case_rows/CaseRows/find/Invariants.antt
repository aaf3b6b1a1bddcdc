use Rattle.std.proofs.Common.{◌≡◌, drop}
use Rattle.case_table.specs.CaseRows.{first_value}
use Rattle.case_table.proofs.case_rows.CaseRows.find.Given as goal

-- the rows so far don't have the key
abbrev pub invariant-loop-place : goal.invariant-loop-place
invariant-loop-place g l = first_value (drop l.place l.self.keys) (drop l.place l.self.values) l.key ≡ first_value l.self.keys l.self.values l.key
