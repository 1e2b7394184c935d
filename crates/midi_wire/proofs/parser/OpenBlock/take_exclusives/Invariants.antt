use Rattle.std.proofs.Common.{◌≡◌, ◌≤◌, ◌<◌, ◌⊎◌, ◌++◌, length, take, drop, ◌-◌}
use Rattle.std.specs.Prelude.{IfSome, IsSome}
use Rattle.midi_wire.specs.Readings.{reading, rest}
use Rattle.midi_wire.specs.Parsing.{IsExclusiveFront}
use Rattle.midi_wire.proofs.parser.OpenBlock.take_exclusives.Given as goal

-- the first bytes are taken, and the next message is found if there is one
abbrev pub invariant-loop-next : goal.invariant-loop-next
invariant-loop-next l = record {
  within : l.at ≤ length l.bytes;
  some : (0 < l.at) ⊎ IsSome l.next;
  front : IfSome l.next (λ count. IsExclusiveFront (drop l.at l.bytes) count);
  told : l.out.items ≡ l.initial.out.items ++ reading (l.initial.self ++ take l.at l.bytes);
  leaves : l.self ≡ rest (l.initial.self ++ take l.at l.bytes);
}

abbrev pub decreases-loop-next : goal.decreases-loop-next
decreases-loop-next l = length l.bytes - l.at
