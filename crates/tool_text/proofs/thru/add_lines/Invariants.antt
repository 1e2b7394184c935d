use Rattle.std.proofs.Common.{◌≡◌, ◌++◌, take}
use Rattle.std.specs.List.{flat_map}
use Rattle.tool_text.specs.Thru.{passage_line}
use Rattle.tool_text.proofs.thru.add_lines.Given as goal

abbrev pub invariant-loop-delivery : goal.invariant-loop-delivery
invariant-loop-delivery l = l.text.items ≡ l.initial.text.items ++ flat_map passage_line (take l.delivery-index l.delivery-items)
