use Rattle.std.proofs.Common.{◌+◌, ◌≤◌, length}
use Rattle.script_text.specs.Draft.{CountsStatements, script_so_far}
use Rattle.script_text.proofs.ReadLemmas.{ReadSoFar}
use Rattle.script_text.proofs.reading.read_lines.Given as goal

abbrev pub invariant-lines : goal.invariant-lines
invariant-lines l = record {
  can_next : (goal.iterator-lines).can_next l.text-iterator;
  is_finite : (goal.iterator-lines).is_finite l.text-iterator;
  so_far : ReadSoFar l.fn.set l.fn.bytes l.number (script_so_far l.draft) l.text-iterator;
  counted : CountsStatements l.draft;
  left : l.number + length l.text-iterator ≤ 8388608;
}
