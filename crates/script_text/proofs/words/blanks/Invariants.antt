use Rattle.std.proofs.Common.{◌≡◌, ◌+◌, ◌-◌, ◌≤◌, length, drop}
use Rattle.script_text.specs.Words.{is_blank}
use Rattle.std.specs.List.{prefix_len}
use Rattle.script_text.proofs.words.blanks.Given as goal

abbrev pub invariant-loop-n : goal.invariant-loop-n
invariant-loop-n l = record {
  within : l.n ≤ length l.bytes;
  rest : prefix_len is_blank (drop l.n l.bytes) + l.n ≡ prefix_len is_blank l.bytes;
}

abbrev pub decreases-loop-n : goal.decreases-loop-n
decreases-loop-n l = length l.bytes - l.n
