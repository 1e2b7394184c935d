use Rattle.std.proofs.Common.{take}
use Rattle.session_circle.specs.Found.{AreFoundAmong}
use Rattle.session_circle.proofs.table.circles_among.Given as goal

abbrev pub invariant-loop-script : goal.invariant-loop-script
invariant-loop-script l = AreFoundAmong l.inputs (take l.script-index l.scripts) l.circles.items
