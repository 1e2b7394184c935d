use Rattle.std.proofs.Common.{◌≡◌, ◌++◌, take}
use Rattle.std.specs.List.{flat_map}
use Rattle.session_circle.specs.Printed.{opening_lines}
use Rattle.session_circle.proofs.text.push_openings.Given as goal

abbrev pub invariant-loop-place : goal.invariant-loop-place
invariant-loop-place l = l.text.items ≡ l.initial.text.items ++ flat_map (opening_lines l.lines l.inputs) (take l.place-index l.places)
