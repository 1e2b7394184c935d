use Rattle.std.proofs.Common.{◌≡◌, ◌+◌, length}
use Rattle.script_text.specs.LineFaults as faults
use Rattle.script_text.proofs.line_faults.bytes_fault.Given as goal

abbrev pub invariant-loop-word : goal.invariant-loop-word
invariant-loop-word l = record {
  rest : faults.byte_fault l.next l.words ≡ faults.byte_fault l.fn.place l.fn.words;
  count : l.next + length l.words ≡ l.fn.place + length l.fn.words;
}

abbrev pub decreases-loop-word : goal.decreases-loop-word
decreases-loop-word l = length l.words
