use Rattle.std.proofs.Common.{◌≡◌, take}
use Rattle.session_circle.specs.Printed.{table_text}
use Rattle.session_circle.proofs.table_lines.table_text.Given as goal

abbrev pub invariant-loop-one : goal.invariant-loop-one
invariant-loop-one l = l.text.items ≡ table_text l.lines l.inputs (take l.one-index l.circles)
