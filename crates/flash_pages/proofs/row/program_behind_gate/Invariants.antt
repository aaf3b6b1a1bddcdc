use Rattle.std.proofs.Common.{◌≡◌, ◌+◌, ◌-◌, ◌≤◌, length, take, Some, IfSome}
use Rattle.flash_pages.specs.Bytes.{patch}
use Rattle.flash_pages.specs.Flash.{Touches}
use Rattle.flash_pages.specs.Rows.{behind_gate}
use Rattle.flash_pages.proofs.row.program_behind_gate.Given as goal

abbrev pub invariant-pieces : goal.invariant-pieces
invariant-pieces g l =
    let body = g.B.Body.bytes l.body in
    let old = g.F.Flash.state l.initial.flash in
    let now = g.F.Flash.state l.flash in
    record {
      within : l.done ≤ 4 + length body;
      touches : Touches l.place (4 + length body) old now;
      content : IfSome old.bytes
          (λ before. now.bytes ≡ Some (patch before l.place (take l.done (behind_gate body))));
      erased : now.erased ≡ old.erased;
    }

abbrev pub decreases-pieces : goal.decreases-pieces
decreases-pieces g l = l.len - l.done
