use Rattle.std.proofs.Common.{◌≡◌, ◌++◌, List, ℕ, length, true}
use Rattle.midi_wire.specs.Readings.{reading, rest}
use Rattle.midi_wire.proofs.parser.StreamParser.feed.Given as goal

-- some messages are given, and the others are those of what is held and the bytes that are left
abbrev pub invariant-loop-left : goal.invariant-loop-left
invariant-loop-left l = record {
  told : (gained : List (List ℕ)) × (l.out.items ≡ l.initial.out.items ++ gained)
      × (reading (l.initial.self-inside.pending ++ l.initial.left) ≡ gained ++ reading (l.self-inside.pending ++ l.left));
  leaves : rest (l.initial.self-inside.pending ++ l.initial.left) ≡ rest (l.self-inside.pending ++ l.left);
  settled : rest l.self-inside.pending ≡ l.self-inside.pending;
  marked : l.self-inside.failed ≡ true;
}

abbrev pub decreases-loop-left : goal.decreases-loop-left
decreases-loop-left l = length l.left
