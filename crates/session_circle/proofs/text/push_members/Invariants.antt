use Rattle.std.proofs.Common.{◌≡◌, ◌++◌, take}
use Rattle.std.specs.List.{flat_map}
use Rattle.session_circle.specs.Printed.{member_line}
use Rattle.session_circle.proofs.text.push_members.Given as goal

abbrev pub invariant-loop-joined : goal.invariant-loop-joined
invariant-loop-joined l = l.text.items ≡ l.initial.text.items ++ flat_map (member_line l.scripts l.lines l.inputs) (take l.joined-index l.all)
