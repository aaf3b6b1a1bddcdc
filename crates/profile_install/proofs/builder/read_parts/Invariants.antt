use Rattle.std.proofs.Common.{◌≡◌, List}
use Rattle.package_reader.specs.Turn.{GoesBy, Turn}
use Rattle.profile_install.specs.Package.{AllWhole, after_turns}
use Rattle.profile_install.proofs.Reading.{left_of}
use Rattle.profile_install.proofs.builder.read_parts.Given as goal

abbrev pub invariant-loop-part : goal.invariant-loop-part
invariant-loop-part l =
    (turns : List Turn) × GoesBy l.initial.elements turns l.elements × AllWhole turns
    × (l.work ≡ after_turns l.iccid l.initial.work turns)

abbrev pub decreases-loop-part : goal.decreases-loop-part
decreases-loop-part l = left_of l.elements
