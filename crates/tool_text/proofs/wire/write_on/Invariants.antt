use Rattle.std.proofs.Common.{◌≡◌, ◌++◌, take}
use Rattle.midi_wire.specs.Writings.{written_after, status_after_all}
use Rattle.tool_text.proofs.wire.write_on.Given as goal

abbrev pub invariant-loop-message : goal.invariant-loop-message
invariant-loop-message l = record {
  bytes : l.written.items ≡ l.initial.written.items ++ written_after l.initial.writer (take l.message-index l.messages);
  status : l.writer ≡ status_after_all l.initial.writer (take l.message-index l.messages);
}
