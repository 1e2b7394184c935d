use Rattle.std.proofs.Common.{◌≡◌, ◌++◌, take}
use Rattle.session_circle.specs.Printed.{members_text}
use Rattle.session_circle.proofs.table_lines.push_members.Given as goal

abbrev pub invariant-loop-joined : goal.invariant-loop-joined
invariant-loop-joined l = l.text.items ≡ l.initial.text.items ++ members_text (take l.joined-index l.all)
