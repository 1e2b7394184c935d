use Rattle.std.proofs.Common.{◌≡◌, ◌+◌, ◌-◌, ◌≤◌, length, drop}
use Rattle.std.specs.List.{position_or_len}
use Rattle.midi_wire.specs.Messages.{is_status}
use Rattle.midi_wire.proofs.parser.data_len.Given as goal

abbrev pub invariant-loop-n : goal.invariant-loop-n
invariant-loop-n l = record {
  within : l.n ≤ length l.bytes;
  rest : position_or_len is_status (drop l.n l.bytes) + l.n ≡ position_or_len is_status l.bytes;
}

abbrev pub decreases-loop-n : goal.decreases-loop-n
decreases-loop-n l = length l.bytes - l.n
