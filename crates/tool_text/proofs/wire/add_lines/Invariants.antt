use Rattle.std.proofs.Common.{◌≡◌, ◌++◌, take}
use Rattle.std.specs.List.{flat_map}
use Rattle.text_forms.specs.Hex.{hex_line}
use Rattle.tool_text.proofs.wire.add_lines.Given as goal

abbrev pub invariant-loop-message : goal.invariant-loop-message
invariant-loop-message l = l.text.items ≡ l.initial.text.items ++ flat_map hex_line (take l.message-index l.messages)
